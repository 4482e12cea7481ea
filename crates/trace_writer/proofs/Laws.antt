-- Laws of the trace text as it is written: lines put one behind the other in a text aside, and how long they are. Assumes nothing.
use Prim.Native.Nat.{ℕ, ◌+◌, ◌≤◌}
use mathlib.Core.Path.{◌≡◌, ap, ◌∙◌}
use mathlib.Core.List.{List, [], ◌∷◌, ◌++◌, append_assoc}
use native.Mathlib.Omega.{arith}
use borrow.Author.Rules.{rules}
use borrow.Author.Tests.{leb-true}
use lib.Dec.{leb}
use mathlib.Core.Bool.{true}
use lib.IntN.{ℤ}
use lib.ListN.{length, length-append}
use mir.Syntax.{w32}
use mir.Val.{SFits, to_z, of_z}
use mir.ValLaws.{to_z-of_z}
use Rattle.event.specs.declared.Numbers.{Numbers}
use Rattle.event.specs.declared.Event.{Event}
use Rattle.event.specs.declared.Kind.{Kind}
use Rattle.event.specs.Kinds.{kind_of, numbers_of, kinds, kind_at}
use Rattle.event.proofs.Laws.{Each, every_kind}
use Rattle.decimal.specs.Decimal.{text_of}
use Rattle.decimal.proofs.Laws.{text_width}
use Rattle.buffer.specs.Append.{appended}
use Rattle.buffer.proofs.AppendLaws.{append_then, append_alone}
use Rattle.trace.specs.Words.{kind_text, who_name, arg_name, val_name}
use Rattle.trace.specs.Trace.{ended, number_text, numbers_text, event_text}

-- ---- the line of a kind

Short : Kind → Type 0
Short k = leb (length (ended (kind_text k))) 12 ≡ true

shorts : Each (λ p. Short (kind_at p)) (length kinds)
unfolding Short
shorts = search rules

pub short : (k : Kind) → length (ended (kind_text k)) ≤ 12
unfolding Short
short k = leb-true (length (ended (kind_text k))) 12 (every_kind Short shorts k)

pub kind_appended : (k : Kind) {line : List ℕ} → line ≡ kind_text k → (x x1 : List ℕ) {x2 : List ℕ} → x1 ≡ appended x line → x2 ≡ appended x1 (10 ∷ [])
    → x2 ≡ appended x (ended (kind_text k))
kind_appended k e x x1 h1 h2 = append_then x x1 (kind_text k) (10 ∷ []) (rw e at h1) h2

-- ---- the line of a number

module _ (name : List ℕ) (v : ℤ) (f : SFits w32 v) where
  pub number_short : length (number_text name v) ≤ length name + 12
  unfolding number_text
  number_short = simp length-append (omega (arith, text_width v f))

  pub number_appended : (x x1 x2 : List ℕ) {x3 : List ℕ} → x1 ≡ appended x name → x2 ≡ appended x1 (text_of (to_z w32 (of_z w32 v)))
      → x3 ≡ appended x2 (10 ∷ []) → x3 ≡ appended x (number_text name v)
  unfolding number_text
  number_appended x x1 x2 h1 h2 h3 =
      rw append_assoc (append_then x x1 name (text_of v ++ (10 ∷ [])) h1 (append_then x1 x2 (text_of v) (10 ∷ []) (rw (to_z-of_z w32 v f) at h2) h3))

-- ---- the lines of an event

-- the line of a number that went through a call
abbrev sent : List ℕ → ℤ → List ℕ
sent name v = number_text name (to_z w32 (of_z w32 v))

module _ (n : Numbers) (who : SFits w32 n.who) (arg : SFits w32 n.arg) (val : SFits w32 n.val) where
  numbers_text_lem : sent who_name n.who ++ (sent arg_name n.arg ++ sent val_name n.val) ≡ numbers_text n
  unfolding numbers_text
  numbers_text_lem = rw (to_z-of_z w32 n.who who, to_z-of_z w32 n.arg arg, to_z-of_z w32 n.val val)

  pub numbers_short : length (numbers_text n) ≤ 48
  unfolding numbers_text
  numbers_short = simp length-append (omega (arith, text_width n.who who, text_width n.arg arg, text_width n.val val))

  pub numbers_appended : (x x1 x2 : List ℕ) {x3 : List ℕ} → x1 ≡ appended x (sent who_name n.who) → x2 ≡ appended x1 (sent arg_name n.arg)
      → x3 ≡ appended x2 (sent val_name n.val) → x3 ≡ appended x (numbers_text n)
  numbers_appended x x1 x2 h1 h2 h3 =
      append_then x x1 (sent who_name n.who) (sent arg_name n.arg ++ sent val_name n.val) h1
      (append_then x1 x2 (sent arg_name n.arg) (sent val_name n.val) h2 h3)
      ∙ ap (appended x) numbers_text_lem

module _ (e : Event) {n : Numbers} {k : Kind} (hn : n ≡ numbers_of e) (hk : k ≡ kind_of e) where
  event_text_lem : ended (kind_text k) ++ numbers_text n ≡ event_text e
  unfolding event_text
  event_text_lem = rw (hn, hk)

  pub event_appended : (x x1 x2 : List ℕ) {text : List ℕ} → x ≡ [] → x1 ≡ appended x (ended (kind_text k)) → x2 ≡ appended x1 (numbers_text n)
      → length (ended (kind_text k)) ≤ 12 → length (numbers_text n) ≤ 48 → text ≡ x2 → text ≡ event_text e
  event_appended x x1 x2 h0 h1 h2 s s' q =
      q ∙ append_alone (event_text e)
      (append_then [] x1 (ended (kind_text k)) (numbers_text n) (rw h0 at h1) h2 ∙ ap (appended []) event_text_lem)
      (rw (← event_text_lem, length-append) (omega arith))
