-- The line that is handed back is the wrong one by count. Assumes nothing.
use Prim.Native.Nat.{ℕ, zero, suc, ◌+◌, ◌<◌}
use mathlib.Core.Path.{◌≡◌, refl, sym, ap, ◌∙◌}
use mathlib.Core.List.{List, [], ◌∷◌}
use native.Mathlib.Omega.{arith}
use native.Mathlib.Nat.{zero-add, suc-add}
use lib.Dec.{ltb}
use lib.IntN.{ℤ}
use lib.ListN.{length, drop}
use lib.Seq.{drop-nil}
use borrow.Author.Tests.{lt-leb}
use Rattle.std.specs.Prelude.{Option, Some, None, Result, Ok, Err}
use Rattle.event.specs.declared.Kind.{Kind}
use Rattle.integer.proofs.BoolLaws.{either}
use Rattle.line.specs.Line.{first_line, line_at, end_at}
use Rattle.trace.specs.declared.Misread.{Misread}
use Rattle.event.specs.declared.Event.{Event}
use Rattle.trace.specs.Words.{who_name, arg_name, val_name, kind_named, named_by, kind_line}
use Rattle.trace.specs.Trace.{number_named, given_by, number_line, after_val, after_arg, after_who, after_kind, event_at}
use Rattle.rewriter.specs.Rewritten.{copy_end}
use Rattle.rewriter.specs.Handed.{behind_line, behind_lines, Handed}
use Rattle.rewriter.specs.Wrong.{wrong_line}
use Rattle.rewriter.proofs.Stops.{stops, none_wrong}

drop_more : (m n : ℕ) (l : List ℕ) → drop n (drop m l) ≡ drop (m + n) l
drop_more zero n l = ap (λ (k : ℕ). drop k l) (sym (zero-add n))
drop_more (suc m) n [] = drop-nil n ∙ sym (drop-nil (suc m + n))
drop_more (suc m) n (x ∷ l) = drop_more m n l ∙ ap (λ (k : ℕ). drop k (x ∷ l)) (sym (suc-add m n))

module _ (s : List ℕ) where
  -- the next line starts behind the newline of one that was read
  abbrev NextField : ℕ → Option (ℤ × ℕ) → Type 0
  NextField at (Some (v, next)) = next ≡ end_at s at + 1
  NextField at None = Unit {0}

  abbrev NextNamed : ℕ → Option (Kind × ℕ) → Type 0
  NextNamed at (Some (k, next)) = next ≡ end_at s at + 1
  NextNamed at None = Unit {0}

  next_number : (name : List ℕ) (at : ℕ) → NextField at (number_line name s at)
  unfolding number_line
  next_number name at = either (NextField at) (ltb (end_at s at) (length s)) (given (number_named name (line_at s at))) tt
    where
      given : (d : Option ℤ) → NextField at (given_by (end_at s at + 1) d)
      given (Some z) = refl
      given None = tt

  next_kind : (at : ℕ) → NextNamed at (kind_line s at)
  unfolding kind_line
  next_kind at = either (NextNamed at) (ltb (end_at s at) (length s)) (given (kind_named (line_at s at))) tt
    where
      given : (w : Option Kind) → NextNamed at (named_by (end_at s at + 1) w)
      given (Some k) = refl
      given None = tt

  behind : (at next : ℕ) → next ≡ end_at s at + 1 → drop next s ≡ behind_line (drop at s)
  unfolding end_at line_at
  behind at next q = ap (λ (k : ℕ). drop k s) (q ∙ assoc at (length (first_line (drop at s)))) ∙ sym (drop_more at (length (first_line (drop at s)) + 1) s)
    where
      assoc : (a b : ℕ) → a + b + 1 ≡ a + (b + 1)
      assoc a b = omega arith

  -- a wrong line by its place among the four
  abbrev Counted : ℕ → Result (Event × ℕ) Misread → Type 0
  Counted at (Ok (e, next)) = Unit {0}
  Counted at (Err w) = line_at s w.start ≡ first_line (behind_lines w.line (drop at s))

  counted : (at : ℕ) → Counted at (event_at s at)
  unfolding event_at line_at behind_lines
  counted at = kinds (kind_line s at) (next_kind at)
    where
      vals : (at3 : ℕ) → drop at3 s ≡ behind_lines 3 (drop at s) → (k : Kind) (who arg : ℤ) (f : Option (ℤ × ℕ)) → Counted at (after_val at3 k who arg f)
      vals at3 q k who arg (Some (val, next)) = tt
      vals at3 q k who arg None = ap first_line q

      args : (at2 : ℕ) → drop at2 s ≡ behind_lines 2 (drop at s) → (k : Kind) (who : ℤ) (f : Option (ℤ × ℕ)) → NextField at2 f
          → Counted at (after_arg s at2 k who f)
      args at2 q k who (Some (arg, next)) n = vals next (behind at2 next n ∙ ap behind_line q) k who arg (number_line val_name s next)
      args at2 q k who None n = ap first_line q

      whos : (at1 : ℕ) → drop at1 s ≡ behind_lines 1 (drop at s) → (k : Kind) (f : Option (ℤ × ℕ)) → NextField at1 f → Counted at (after_who s at1 k f)
      whos at1 q k (Some (who, next)) n = args next (behind at1 next n ∙ ap behind_line q) k who (number_line arg_name s next) (next_number arg_name next)
      whos at1 q k None n = ap first_line q

      kinds : (r : Option (Kind × ℕ)) → NextNamed at r → Counted at (after_kind s at r)
      kinds (Some (k, next)) n = whos next (behind at next n) k (number_line who_name s next) (next_number who_name next)
      kinds None n = refl

by_count_lem : (text : List ℕ) (i start : ℕ) → copy_end text (length text) < length text
    → event_at text (copy_end text (length text)) ≡ Err (record { line = i; start = start })
    → wrong_line text ≡ first_line (behind_lines i (drop (copy_end text (length text)) text))
by_count_lem text i start h q =
    let at = copy_end text (length text) in
    let c : line_at text start ≡ first_line (behind_lines i (drop at text)) = rw q at (counted text at) in
    stops text ∙ rw (lt-leb (length text) at h, q) c

pub handed : (text : List ℕ) → Handed text
handed text = record { wrong = by_count_lem text; none = none_wrong text }
