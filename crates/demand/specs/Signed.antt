-- What is held of t, with 1024 added, gives the demand of the rules.
use Rattle.std.specs.Prelude.{ℕ, ◌≡◌, Bool, ℤ, Some}
use Rattle.integer.specs.Range.{eighths_of}
use Rattle.rules.specs.Targets.{demand_z}
use Rattle.demand.specs.Demand.{demand_of}

abbrev pub FaithfulDemand : Type 0
FaithfulDemand = (t : ℤ) (r : ℕ) → eighths_of t ≡ Some r → (flag : Bool) (m tmin range : ℕ) → demand_of flag m tmin range r ≡ demand_z flag m tmin range t
