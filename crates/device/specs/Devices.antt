-- Chip, INT line and stamps after an accepted event.
use Rattle.std.specs.Prelude.{Bool, false, cond, not, ◌&&◌, ◌||◌}
use Rattle.part.specs.declared.FanId.TheVariants.{One, Two}
use Rattle.event.specs.declared.Kind.TheVariants as kind
use Rattle.rules.specs.Shows.{some_risen}
use Rattle.input.specs.declared.Input.{Input}
use Rattle.input.specs.Inputs.{is_a, is_restart}
use Rattle.chip.specs.Chips.{chip_after}
use Rattle.chip.specs.declared.Chip.{Chip}
use Rattle.output.specs.Outputs.{status_of, int_due_of}
use Rattle.device.specs.declared.Device.{Device}
use Rattle.device.specs.Stamping.{stamps_after}

-- any of the sixteen status bits goes from 0 to 1
abbrev pub raises_in : (before after : Chip) → Bool
raises_in before after = some_risen (status_of One before) (status_of One after) || some_risen (status_of Two before) (status_of Two after)

-- T-02: let go by an alert that finds INT asserted, until a status bit is raised, a reset or a power
abbrev pub silenced_after : Input → (was : Bool) (before after : Chip) → Bool
silenced_after i was before after = cond (is_restart i) false (cond was (not (raises_in before after)) (is_a kind.Alert i && int_due_of before))

unfoldable pub device_after : Input → Device → Device
device_after i d =
    record {
      chip = chip_after i d.chip;
      silenced = silenced_after i d.silenced d.chip (chip_after i d.chip);
      stamps = stamps_after i d.stamps d.chip (chip_after i d.chip);
    }
