-- The law of the ramp (document 01, "Duty in slots", rule 5; T-13 of document 02): what a run of periods does to a duty.
use Rattle.std.specs.Prelude.{ℕ, ◌+◌, ◌-◌, ◌*◌, ◌≤◌, ◌≡◌, List, [], ◌∷◌, length}
use Rattle.rules.specs.Duties.{nearer}

-- slots of the interval from a to b, both included
abbrev pub Inside : (a b slots : ℕ) → Type 0
Inside a b slots = (a ≤ slots) × (slots ≤ b)

-- how far a duty is outside the interval from a to b
unfoldable pub outside : (a b duty : ℕ) → ℕ
outside a b duty = (a - duty) + (duty - b)

-- the duty after one period for each target, the newest first
unfoldable pub ramped : (rate : ℕ) → List ℕ → ℕ → ℕ
ramped rate [] duty = duty
ramped rate (t ∷ ts) duty = nearer rate t (ramped rate ts duty)

-- each target lies in the interval
unfoldable pub Between : (a b : ℕ) → List ℕ → Type 0
Between a b [] = Unit
Between a b (t ∷ ts) = Inside a b t × Between a b ts

-- The ramp law, over an interval of targets. A target that stands still is the case a = b.
pub record RampLaw (a b rate : ℕ) (ts : List ℕ) (duty : ℕ) : Type 0 where
  -- k periods lessen the distance by k times the rate, to 0 once that covers it
  pub falls : outside a b (ramped rate ts duty) ≡ outside a b duty - length ts * rate
  -- no period takes the duty across the interval
  pub below : duty ≤ b → ramped rate ts duty ≤ b
  pub above : a ≤ duty → a ≤ ramped rate ts duty
