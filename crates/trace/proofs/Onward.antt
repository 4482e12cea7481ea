-- Where an event that was read ends, and where a wrong line of it starts. Assumes nothing.
use Prim.Native.Nat.{ℕ, ◌+◌, ◌-◌, ◌≤◌, ◌<◌}
use mathlib.Core.Path.{◌≡◌, sym, ap, ◌∙◌}
use mathlib.Core.List.{List}
use native.Mathlib.Omega.{arith}
use borrow.Author.Tests.{ltb-true, ltb-false}
use lib.Dec.{ltb}
use lib.IntN.{ℤ, pos, negsuc}
use lib.ListN.{length, take, drop, length-append, length-take}
use Rattle.integer.proofs.BoolLaws.{by_cases}
use Rattle.std.specs.Prelude.{Option, Some, None, Result, Ok, Err}
use Rattle.decimal.specs.Decimal.{decimal_of, text_of}
use Rattle.decimal.proofs.Laws.{small_length, decimal_length}
use Rattle.event.specs.declared.Event.{Event}
use Rattle.event.specs.declared.Kind.{Kind}
use Rattle.event.specs.Kinds.{kind_of, numbers_of}
use Rattle.trace.specs.declared.Misread.{Misread}
use Rattle.trace.specs.Words.{who_name, arg_name, val_name, kind_named, named_by, kind_line}
use Rattle.trace.specs.Trace.{number_named, given_by, number_line, after_val, after_arg, after_who, after_kind, event_at, number_text, numbers_text, event_text}
use Rattle.trace.proofs.Lines.{either}
use Rattle.trace.proofs.Canonical.{canonical}
use Rattle.trace.proofs.Words.{kind_long}

module _ (s : List ℕ) where
  -- ---- the line after one that was read starts further on, within the text

  abbrev Further : ℕ → ℕ → Type 0
  Further at next = (at < next) × (next ≤ length s)

  abbrev AfterField : ℕ → Option (ℤ × ℕ) → Type 0
  AfterField at (Some (v, next)) = Further at next
  AfterField at None = Unit {0}

  abbrev AfterNamed : ℕ → Option (Kind × ℕ) → Type 0
  AfterNamed at (Some (k, next)) = Further at next
  AfterNamed at None = Unit {0}

  after_number : (name : List ℕ) (at : ℕ) → AfterField at (number_line name s at)
  unfolding number_line
  after_number name at = either given_by None (number_named name) s at (AfterField at) tt (λ next l h h' e. given next (number_named name l) h h')
    where
      given : (next : ℕ) (d : Option ℤ) → at < next → next ≤ length s → AfterField at (given_by next d)
      given next (Some z) h h' = (h, h')
      given next None h h' = tt

  after_kind_lem : (at : ℕ) → AfterNamed at (kind_line s at)
  unfolding kind_line
  after_kind_lem at = either named_by None kind_named s at (AfterNamed at) tt (λ next l h h' e. given next (kind_named l) h h')
    where
      given : (next : ℕ) (w : Option Kind) → at < next → next ≤ length s → AfterNamed at (named_by next w)
      given next (Some k) h h' = (h, h')
      given next None h h' = tt

  -- ---- four lines

  -- where a reading leaves its reader: within the text, or at one of the four
  abbrev Left : ℕ → Result (Event × ℕ) Misread → Type 0
  Left at (Ok (e, next)) = next ≤ length s
  Left at (Err w) = (w.line ≤ 3) × (at ≤ w.start) × (at ≤ length s → w.start ≤ length s)

  left : (at : ℕ) → Left at (event_at s at)
  unfolding event_at
  left at = kinds (kind_line s at) (after_kind_lem at)
    where
      vals : (at3 : ℕ) → at ≤ at3 → at3 ≤ length s → (k : Kind) (who arg : ℤ) (f : Option (ℤ × ℕ)) → AfterField at3 f → Left at (after_val at3 k who arg f)
      vals at3 h h' k who arg (Some (val, next)) a = a.1
      vals at3 h h' k who arg None a = (omega arith, omega arith, λ l. h')

      args : (at2 : ℕ) → at ≤ at2 → at2 ≤ length s → (k : Kind) (who : ℤ) (f : Option (ℤ × ℕ)) → AfterField at2 f → Left at (after_arg s at2 k who f)
      args at2 h h' k who (Some (arg, next)) a = vals next (omega arith) (omega arith) k who arg (number_line val_name s next) (after_number val_name next)
      args at2 h h' k who None a = (omega arith, omega arith, λ l. h')

      whos : (at1 : ℕ) → at ≤ at1 → at1 ≤ length s → (k : Kind) (f : Option (ℤ × ℕ)) → AfterField at1 f → Left at (after_who s at1 k f)
      whos at1 h h' k (Some (who, next)) a = args next (omega arith) (omega arith) k who (number_line arg_name s next) (after_number arg_name next)
      whos at1 h h' k None a = (omega arith, omega arith, λ l. h')

      kinds : (n : Option (Kind × ℕ)) → AfterNamed at n → Left at (after_kind s at n)
      kinds (Some (k, next)) a = whos next (omega arith) (omega arith) k (number_line who_name s next) (after_number who_name next)
      kinds None a = (omega arith, omega arith, λ l. l)

-- ---- an event's text

-- a number has a digit
decimal_long : (n : ℕ) → 1 ≤ length (decimal_of n)
decimal_long n =
    by_cases (ltb n 10) (λ y. omega (arith, small_length n (ltb-true n 10 y))) (λ f. omega (arith, decimal_length n (ltb-false n 10 f)))

text_long : (z : ℤ) → 1 ≤ length (text_of z)
unfolding text_of
text_long (pos n) = decimal_long n
text_long (negsuc n) = omega arith

pub event_long : (e : Event) → 27 ≤ length (event_text e)
unfolding event_text numbers_text number_text
event_long e =
    let n = numbers_of e in
    simp length-append (omega (arith, kind_long (kind_of e), text_long n.who, text_long n.arg, text_long n.val))

-- the next event starts an event's text on, within the text
pub onward : (s : List ℕ) (at : ℕ) {e : Event} {next : ℕ} {r : Result (Event × ℕ) Misread} → r ≡ event_at s at → r ≡ Ok (e, next)
    → (at + 27 ≤ next) × (next ≤ length s)
onward s at {e} {next} h q =
    let n : length (take (next - at) (drop at s)) ≡ length (event_text e) = ap length (canonical s at (sym h ∙ q)) in
    (omega (arith, event_long e, length-take (next - at) (drop at s)), rw (sym h ∙ q) at (left s at))

-- a wrong line is one of the four and starts at the first of them or further on, within the text where they start there
pub wrong_place : (s : List ℕ) (at : ℕ) {w : Misread} → event_at s at ≡ Err w → (w.line ≤ 3) × (at ≤ w.start) × (at ≤ length s → w.start ≤ length s)
wrong_place s at q = rw q at (left s at)
