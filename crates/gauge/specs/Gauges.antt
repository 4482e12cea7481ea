-- T-06 of document 02, of a keeper as it stands: its panel.
use Rattle.std.specs.Prelude.{ℕ, ◌-◌, cond, ltb, ℤ, pos, negsuc, Result, Ok, Err}
use Rattle.event.specs.declared.FanSpeed.{FanSpeed}
use Rattle.event.specs.declared.Panel as panel
use Rattle.event.specs.declared.Refusal.{Refusal}
use Rattle.event.specs.declared.Refusal.TheVariants.{NoPower}
use Rattle.rules.specs.Panels.{degrees_of, speed_of}
use Rattle.stored.specs.declared.FanRegisters.{FanRegisters}
use Rattle.chip.specs.declared.Chip.{Chip}
use Rattle.keeper.specs.declared.Keeper.{Keeper}
use Rattle.keeper.specs.declared.Keeper.TheVariants.{Off, On}

-- the t of a reading that is held as t + 1024
abbrev pub unheld_of : (reading : ℕ) → ℤ
unheld_of reading = cond (ltb reading 1024) (negsuc (1023 - reading)) (pos (reading - 1024))

-- the speed of a fan, by its registers
abbrev pub fan_speed_of : FanRegisters → FanSpeed
fan_speed_of r = speed_of r.speed r.characteristics

unfoldable pub panel_in : Chip → panel.Panel
panel_in k =
    record {
      local = degrees_of (unheld_of k.channels.local.reading);
      remote1 = degrees_of (unheld_of k.channels.remote1.reading);
      remote2 = degrees_of (unheld_of k.channels.remote2.reading);
      fan1 = fan_speed_of k.registers.fans.one;
      fan2 = fan_speed_of k.registers.fans.two;
    }

-- 1 before power
unfoldable pub paneled_of : Keeper → Result panel.Panel Refusal
unfolding panel_in
paneled_of Off = Err NoPower
paneled_of (On d) = Ok (panel_in d.chip)
