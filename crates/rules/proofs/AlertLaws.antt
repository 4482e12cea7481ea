-- An alert: it is of none of document 01's kinds, leaves the diode errors, and lets INT go where it is due. Assumes nothing.
use mathlib.Core.Path.{◌≡◌, refl}
use mathlib.Core.Bool.{true, ◌||◌}
use mathlib.Core.List.{◌∷◌}
use native.Mathlib.Omega.{arith}
use Rattle.integer.proofs.BoolLaws.{by_cases}
use Rattle.event.specs.Kinds.{is_kind}
use Rattle.event.specs.declared.Event.{Event}
use Rattle.event.specs.declared.Kind.TheVariants as kind
use Rattle.rules.specs.Stored.{Taken}
use Rattle.rules.specs.Shows.{int_due, silenced}
use Rattle.rules.proofs.EventLaws.{of_kind}
use Rattle.rules.proofs.CalmLaws.{ErrorsKept, error_same}
use Rattle.rules.proofs.KeptLaws.{raises_none}
use Rattle.rules.proofs.IdleLaws.{Another, later, settled, bits}

module _ (e : Event) (d : Taken) (alerts : is_kind kind.Alert e ≡ true) where
  pub is_not : Another e
  is_not = later e 9 (omega arith) alerts

  pub errors : ErrorsKept e d
  errors = error_same e d (is_not kind.Power refl) (of_kind e 9 alerts kind.Diode)

  pub silence_is : silenced (e ∷ d) ≡ (silenced d || int_due d)
  unfolding silenced
  silence_is =
      rw ((settled e d is_not).calm, raises_none e d (bits e d is_not) errors, alerts) (by_cases (silenced d) (λ s. rw s) (λ s. rw s))
