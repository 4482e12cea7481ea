-- The witnesses of T-05, computed. Assumes nothing.
use mathlib.Core.Path.{refl}
use mathlib.Core.List.{◌∷◌, ◌++◌}
use lib.IntN.{pos}
use Rattle.integer.specs.Bits.{packed, merged_of}
use Rattle.part.specs.declared.FanId.TheVariants.{One, Two}
use Rattle.part.specs.declared.ChannelId.TheVariants.{Remote1}
use Rattle.rules.specs.Registers.{says, table, exists_at, mask_at, reset_at, read_only_at}
use Rattle.rules.specs.Events.{ranges_of}
use Rattle.rules.specs.Stored.{powered, own_address, stored_at, pointer, pin_low, diode_error, pulled_bit}
use Rattle.rules.specs.Replies.{lowest, reply_to, taken}
use Rattle.rules.specs.Offsets.{measured_z}
use Rattle.rules.specs.Temperatures.{temperature, latch, therm_asserted, high_bit, low_bit, therm_bit}
use Rattle.rules.specs.Targets.{range_of, flag, demand, assigned_by, target_of, target, overridden}
use Rattle.rules.specs.Duties.{rate_of, spin_up_of, nearer, duty_after, spin_after, spin, duty, judged, failed, fault_bit, at_alarm, alarm_bit}
use Rattle.rules.specs.Reasons.{reason_for, why_for}
use Rattle.rules.specs.Shows.{status, byte_at, value, pending, int_due, some_risen, silenced, int_asserted, shown, answer}
use Rattle.rules.specs.PageWords.{reported, turned}
use Rattle.history.specs.DiodeWitness.{powered_broken, unwatched, cool21, summer, two_tenths, summer_reset, summer_ramp, alerted_warm}
use Rattle.history.specs.DiodeWitness.{shared_warm, DiodeWitness}
use Rattle.history.proofs.MovingTargetLaws.{shown_is}
use Rattle.history.proofs.AlertWitnessLaws.{int_is}
use Rattle.history.proofs.ReasonWitnessLaws.{told}

pub diode_witness : DiodeWitness
unfolding taken reply_to lowest ranges_of exists_at read_only_at mask_at reset_at says table powered own_address stored_at pointer pin_low diode_error
    pulled_bit temperature latch therm_asserted high_bit low_bit therm_bit flag demand assigned_by target_of target overridden rate_of spin_up_of nearer
    duty_after spin_after spin duty judged failed fault_bit at_alarm alarm_bit merged_of packed range_of measured_z status byte_at value pending int_due
    some_risen silenced int_asserted shown answer reason_for why_for
diode_witness =
    record {
      at_power = shown_is One powered_broken;
      other_fan = shown_is Two powered_broken;
      spins = refl;
      goes = refl;
      unseen = shown_is Two unwatched;
      alone = shown_is One unwatched;
      still = shown_is One cool21;
      found = shown_is One summer;
      stays = shown_is One (two_tenths ++ summer);
      told = told One (two_tenths ++ summer);
      refused = refl;
      others = refl;
      nine = refl;
      read = refl;
      reset = refl;
      full = shown_is One summer_reset;
      mended = shown_is One (reported Remote1 (pos 0) ∷ summer);
      back = refl;
      before = shown_is One summer_ramp;
      aims = refl;
      after = shown_is One (turned One ∷ turned One ∷ summer_ramp);
      quiet = int_is alerted_warm;
      rises = int_is (reported Remote1 (pos 1) ∷ alerted_warm);
      lower = told One shared_warm;
    }
