-- The pin's status bit by the kind of the event. Assumes nothing.
use Prim.Native.Nat.{ℕ}
use mathlib.Core.Bool.{Bool, not, ◌&&◌, ◌||◌}
use mathlib.Core.Path.{◌≡◌, ◌∙◌}
use lib.Dec.{eqb}
use Rattle.part.specs.declared.FanId.TheVariants.{Two}
use Rattle.event.specs.declared.Kind.TheVariants as kind
use Rattle.rules.specs.Registers.{status_at}
use Rattle.input.specs.Inputs.{is_a, is_restart, is_read, bit_after}
use Rattle.input.specs.declared.Input.{Input}
use Rattle.chip.specs.Chips.{pulled_after}

pub pulled_is : (pinLow : Bool) (pointer : ℕ) (i : Input) (was : Bool) {p s d b : Bool} {a : ℕ} → p ≡ is_a kind.Pin i → s ≡ is_restart i → a ≡ status_at Two
    → d ≡ is_read a pointer i → b ≡ bit_after (p && (eqb i.val 0 && not pinLow)) (s || d) was → b ≡ pulled_after pinLow pointer i was
pulled_is pinLow pointer i was ep es ea ed eb = eb ∙ rw (ep, es, ed, ea)
