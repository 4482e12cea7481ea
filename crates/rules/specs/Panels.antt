-- T-06 of document 02: the panel after the accepted events, in degrees and revolutions a minute.
use Rattle.std.specs.Prelude.{ℕ, suc, ◌*◌, true, false, cond, [], ◌∷◌, eqb, ℤ, pos, negsuc, get_or, Float, Result, Ok, Err}
use Rattle.std.specs.Float.{binary64}
use Rattle.std.specs.Float.Ieee.{round}
use Rattle.part.specs.declared.ChannelId.TheVariants.{Local, Remote1, Remote2}
use Rattle.part.specs.declared.FanId.{FanId}
use Rattle.part.specs.declared.FanId.TheVariants.{One, Two}
use Rattle.event.specs.Answers.{refusal_number}
use Rattle.event.specs.declared.Refusal.TheVariants.{NoPower}
use Rattle.event.specs.declared.FanSpeed.{FanSpeed}
use Rattle.event.specs.declared.FanSpeed.TheVariants.{NotMeasured, Stalled, Speed}
use Rattle.event.specs.declared.Panel as panel
use Rattle.event.specs.declared.Refusal.{Refusal}
use Rattle.rules.specs.Registers.{speed_at, characteristics_at}
use Rattle.rules.specs.Fields.{speed_range}
use Rattle.rules.specs.Stored.{Taken, powered, stored_at}
use Rattle.rules.specs.Temperatures.{temperature}

-- one division of two whole numbers, rounded once: the f64 that IEEE 754 gives for the quotient
unfoldable pub quotient_of : ℤ → ℕ → Float
unfolding round
quotient_of (pos n) d = round binary64 false n d
quotient_of (negsuc n) d = round binary64 true (suc n) d

-- a temperature: the reading, in eighths of a degree, over 8
abbrev pub degrees_of : ℤ → Float
degrees_of t = quotient_of t 8

-- the divisor of a speed range: 1, 2, 4, 8
unfoldable pub divisor_of : (characteristics : ℕ) → ℕ
divisor_of byte = get_or (1 ∷ 2 ∷ 4 ∷ []) (speed_range byte) 8

-- a speed: not measured at count 0, stalled at 255, else 675,000 over the product of count and divisor (000: a clock of 11.25 kHz, 60 seconds)
unfoldable pub speed_of : (count characteristics : ℕ) → FanSpeed
unfolding divisor_of
speed_of count byte = cond (eqb count 0) NotMeasured (cond (eqb count 255) Stalled (Speed (quotient_of (pos 675000) (count * divisor_of byte))))

-- of a fan, by its count and its range as the registers have them
abbrev pub speed_for : FanId → Taken → FanSpeed
speed_for f d = speed_of (stored_at (speed_at f) d) (stored_at (characteristics_at f) d)

unfoldable pub figures : Taken → panel.Panel
unfolding speed_of
figures d =
    record {
      local = degrees_of (temperature Local d);
      remote1 = degrees_of (temperature Remote1 d);
      remote2 = degrees_of (temperature Remote2 d);
      fan1 = speed_for One d;
      fan2 = speed_for Two d;
    }

-- 1 before power
unfoldable pub panel_for : Taken → Result panel.Panel Refusal
unfolding figures
panel_for d = cond (powered d) (Ok (figures d)) (Err NoPower)

-- the number of the reply: 0 where there is a panel
abbrev pub panel_number : Result panel.Panel Refusal → ℕ
panel_number (Ok p) = 0
panel_number (Err r) = refusal_number r
