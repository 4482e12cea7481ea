-- The witnesses of T-03, computed. Assumes nothing.
use mathlib.Core.Path.{◌≡◌}
use mathlib.Core.List.{◌∷◌}
use lib.IntN.{pos}
use Rattle.integer.specs.Bits.{merged_of}
use Rattle.part.specs.declared.FanId.{FanId}
use Rattle.part.specs.declared.FanId.TheVariants.{One, Two}
use Rattle.rules.specs.Registers.{says, table, exists_at, mask_at, reset_at, read_only_at}
use Rattle.rules.specs.Events.{ranges_of}
use Rattle.rules.specs.Stored.{powered, own_address, stored_at, pin_low, diode_error}
use Rattle.rules.specs.Replies.{lowest, reply_to, History, taken}
use Rattle.rules.specs.Offsets.{measured_z}
use Rattle.rules.specs.Temperatures.{temperature, latch, therm_asserted}
use Rattle.rules.specs.Targets.{range_of, flag, demand, assigned_by, target_of, target, overridden}
use Rattle.rules.specs.Duties.{rate_of, spin_up_of, nearer, duty_after, spin_after, spin, duty}
use Rattle.rules.specs.Reasons.{reason_for, why_for}
use Rattle.rules.specs.PageWords.{by_fan, tenth}
use Rattle.rules.specs.PageReasons.{told_of}
use Rattle.reason.specs.Reasoning.{why_of}
use Rattle.history.specs.Agreement.{run}
use Rattle.history.specs.ReasonWitness.{powered44, warm, low_and_disabled, hot_remote, hot_local, ramp_down, ramp_up, by_hand, spun, equal, ahead}
use Rattle.history.specs.ReasonWitness.{ReasonWitness}
use Rattle.history.proofs.Agree.{agreement}

-- what the program tells is what the rules say
pub told : (f : FanId) (h : History) → why_of (run h) (pos (by_fan 1 2 f)) ≡ told_of f h
told f h = (agreement h).why (pos (by_fan 1 2 f))

pub reason_witness : ReasonWitness
unfolding taken reply_to lowest ranges_of exists_at read_only_at mask_at reset_at says table powered own_address stored_at pin_low temperature latch
    therm_asserted diode_error flag demand assigned_by target_of target overridden rate_of spin_up_of nearer duty_after spin_after spin duty merged_of
    range_of measured_z reason_for why_for
reason_witness =
    record {
      disabled = told One low_and_disabled;
      pin = told Two low_and_disabled;
      therm = told One hot_remote;
      lowest = told Two hot_local;
      none = told One powered44;
      starts = told One warm;
      spinning = told One (tenth ∷ warm);
      down = told One ramp_down;
      up = told One ramp_up;
      manual = told One by_hand;
      demand = told One spun;
      lower = told Two equal;
      larger = told Two ahead;
    }
