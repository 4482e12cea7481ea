-- What is read is a byte, and no duty is above 240 slots, after every list of events.
use Rattle.std.specs.Prelude.{ℕ, ◌≤◌, ◌<◌}
use Rattle.part.specs.declared.FanId.{FanId}
use Rattle.rules.specs.Replies.{History, taken}
use Rattle.rules.specs.Duties.{duty}
use Rattle.rules.specs.Shows.{value}

pub record Bounds (h : History) : Type 0 where
  pub byte : (address : ℕ) → value address (taken h) < 256
  pub slots : (f : FanId) → duty f (taken h) ≤ 240
