-- Document 01, "Duty in slots", rule 2, of a reading that is held with 1024 added, so that 8 Tmin is 8 * tmin + 1024.
-- `FaithfulDemand` holds it to the rule, which is in signed numbers.
use Rattle.std.specs.Prelude.{ℕ, ◌+◌, ◌-◌, ◌*◌, ◌/◌, min, Bool, cond, ◌&&◌, ◌||◌}
use Rattle.rules.specs.Fields.{therm_drives_fans}

-- the quotient
unfoldable pub slope_of : (above range : ℕ) → ℕ
slope_of above range = 20 * above / range

-- a channel's demand on a fan with minimum code m
unfoldable pub demand_of : (flag : Bool) (m tmin range reading : ℕ) → ℕ
demand_of flag m tmin range reading = cond flag (min 240 (16 * m + slope_of (reading - (8 * tmin + 1024)) range)) 0

-- rule 4, of the pin, the byte of 0x3F and THERM
abbrev pub overridden_of : (pinLow : Bool) (behaviour : ℕ) (therm : Bool) → Bool
overridden_of pinLow behaviour therm = pinLow || (therm_drives_fans behaviour && therm)
