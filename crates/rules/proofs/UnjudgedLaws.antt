-- A count that is not judged changes its register only: status bits, registers and outputs stay. Assumes nothing.
use Prim.Native.Nat.{ℕ}
use mathlib.Core.Path.{◌≡◌, sym, ◌∙◌}
use mathlib.Core.Bool.{true, false, cond}
use mathlib.Core.List.{◌∷◌}
use lib.Dec.{eqb}
use Rattle.part.specs.declared.FanId.{FanId}
use Rattle.event.specs.Kinds.{place_of, is_kind}
use Rattle.event.specs.declared.Event.{Event}
use Rattle.event.specs.declared.Kind.{Kind}
use Rattle.event.specs.declared.Kind.TheVariants as kind
use Rattle.rules.specs.Stored.{Taken, counts}
use Rattle.rules.specs.Duties.{tach_on, duty, judged, failed, failures}
use Rattle.rules.specs.Shows.{value, shown}
use Rattle.rules.proofs.CalmLaws.{byte_same, ErrorsKept, error_same, Untouched, untouched}
use Rattle.rules.proofs.KeptLaws.{BitsKept, bits_kept, value_kept, shown_kept}
use Rattle.rules.proofs.TachLaws.{kind_is, judged_is, failed_is, run_is, run_kept, duty_kept}

-- a count that neither fan is judged by
module _ (e : Event) (d : Taken) (tach : is_kind kind.Tach e ≡ true) (calm : (f : FanId) → judged f e d ≡ false) where
  abbrev is : (k : Kind) → is_kind k e ≡ eqb 5 (place_of k)
  is k = kind_is e d tach k

  fine : (f : FanId) → failed f e d ≡ false
  fine f = failed_is e d tach f ∙ rw (sym (judged_is e d tach f) ∙ calm f)

  duty_same : (f : FanId) → duty f (e ∷ d) ≡ duty f d
  unfolding duty
  duty_same f = duty_kept e d tach f (fine f)

  pub run_then : (f : FanId) → failures f (e ∷ d) ≡ cond (tach_on f d) (failures f d) 0
  run_then f = run_is e d tach f ∙ rw (fine f, calm f)

  run_same : (f : FanId) → failures f (e ∷ d) ≡ failures f d
  run_same f = run_kept e d tach f (fine f) (calm f)

  abbrev settled : Untouched e d
  settled = untouched e d (is kind.Power) (is kind.Write) (is kind.Sample) (is kind.Pin)

  abbrev bits : BitsKept e d
  bits = bits_kept e d (is kind.Power) (is kind.Write) (is kind.Read) (is kind.Sample) (is kind.Pin) fine

  abbrev errors : ErrorsKept e d
  errors = error_same e d (is kind.Power) (is kind.Diode)

  pub value_same : (a : ℕ) → counts a e ≡ false → value a (e ∷ d) ≡ value a d
  value_same a q = value_kept e d bits errors settled a (byte_same e d (is kind.Power) (is kind.Write) a q)

  pub shown_same : shown (e ∷ d) ≡ shown d
  shown_same = shown_kept e d bits errors settled (is kind.Alert) run_same duty_same
