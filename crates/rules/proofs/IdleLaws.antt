-- An event of none of document 01's kinds, after which the diode errors are as before, leaves all but whether INT is let go. Assumes nothing.
use Prim.Native.Nat.{ℕ, ◌≤◌}
use mathlib.Core.Path.{◌≡◌, refl, ◌∙◌}
use mathlib.Core.Bool.{true, false}
use mathlib.Core.List.{◌∷◌}
use native.Mathlib.Omega.{arith}
use lib.Dec.{eqb, leb}
use borrow.Author.Tests.{leb-true, ne_eqb}
use Rattle.part.specs.declared.FanId.{FanId}
use Rattle.event.specs.Kinds.{kind_of, place_of, is_kind}
use Rattle.event.specs.declared.Event.{Event}
use Rattle.event.specs.declared.Kind.{Kind}
use Rattle.event.specs.declared.Kind.TheVariants as kind
use Rattle.rules.specs.Events.{periods}
use Rattle.rules.specs.Stored.{Taken, stored_at}
use Rattle.rules.specs.Duties.{left, failed_in, spin, failed, failures}
use Rattle.rules.specs.Shows.{value, int_due}
use Rattle.rules.proofs.EventLaws.{of_kind}
use Rattle.rules.proofs.CalmLaws.{byte_same, ErrorsKept, Untouched, untouched}
use Rattle.rules.proofs.QuietLaws.{uncounted}
use Rattle.rules.proofs.TurnLaws as turn
use Rattle.rules.proofs.KeptLaws.{BitsKept, bits_kept, value_kept, due_kept}
use Rattle.rules.proofs.PageTachLaws.{run_kept}

-- none of the nine kinds of document 01
abbrev pub Another : Event → Type 0
Another e = (k : Kind) → leb (place_of k) 8 ≡ true → is_kind k e ≡ false

-- so where it is of a kind at a later place of the table
pub later : (e : Event) (n : ℕ) → 9 ≤ n → eqb (place_of (kind_of e)) n ≡ true → Another e
later e n past y k l = of_kind e n y k ∙ ne_eqb n (place_of k) (λ z. omega (arith, leb-true (place_of k) 8 l))

-- ---- what holds whatever the diode errors

module _ (e : Event) (d : Taken) (is-not : Another e) where
  pub settled : Untouched e d
  settled = untouched e d (is-not kind.Power refl) (is-not kind.Write refl) (is-not kind.Sample refl) (is-not kind.Pin refl)

  pub fine : (f : FanId) → failed f e d ≡ false
  unfolding failed
  fine f = rw (is-not kind.Tach refl)

  pub bits : BitsKept e d
  bits =
      bits_kept e d (is-not kind.Power refl) (is-not kind.Write refl) (is-not kind.Read refl) (is-not kind.Sample refl) (is-not kind.Pin refl) fine

  pub byte_kept : (a : ℕ) → stored_at a (e ∷ d) ≡ stored_at a d
  byte_kept a = byte_same e d (is-not kind.Power refl) (is-not kind.Write refl) a (uncounted a e (is-not kind.Tach refl))

  pub run_same : (f : FanId) → failures f (e ∷ d) ≡ failures f d
  run_same f = run_kept f e d (is-not kind.Tach refl) (is-not kind.Power refl) (is-not kind.Write refl)

  -- a fan whose target stays
  module _ (f : FanId) (s : turn.AimKept f e d) where
    no_failure : failed_in f e d (spin f d) ≡ false
    no_failure = rw (is-not kind.Tach refl)

    no_period : periods f e ≡ false
    no_period = rw (is-not kind.Period refl)

    pub duty_kept : (spin f (e ∷ d)).duty ≡ (spin f d).duty
    duty_kept = turn.duty_same f e d s (is-not kind.Clock refl) no_failure no_period

    pub left_kept : left (spin f (e ∷ d)) ≡ left (spin f d)
    left_kept = turn.left_kept f e d s (is-not kind.Clock refl) no_failure no_period

  -- ---- the diode errors are as before

  module _ (errors : ErrorsKept e d) where
    pub value_same : (a : ℕ) → value a (e ∷ d) ≡ value a d
    value_same a = value_kept e d bits errors settled a (byte_kept a)

    pub duty_same : (f : FanId) → (spin f (e ∷ d)).duty ≡ (spin f d).duty
    duty_same f = duty_kept f (turn.aimed_as_before f e d settled errors)

    pub left_same : (f : FanId) → left (spin f (e ∷ d)) ≡ left (spin f d)
    left_same f = left_kept f (turn.aimed_as_before f e d settled errors)

    -- INT stays due if it was
    pub due_same : int_due (e ∷ d) ≡ int_due d
    due_same = due_kept e d bits errors settled
