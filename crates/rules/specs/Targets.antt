-- Document 01, "Duty in slots", rules 1 to 4: run flags, demands, targets, override. A PWM period has 240 slots.
use Rattle.std.specs.Prelude.{ℕ, ◌+◌, ◌*◌, ◌/◌, min, max, Bool, true, false, cond, ◌&&◌, ◌||◌, [], ◌∷◌, eqb, ℤ, pos, ◌-ℤ◌, get_or}
use Rattle.part.specs.declared.ChannelId.{ChannelId}
use Rattle.part.specs.declared.ChannelId.TheVariants.{Local, Remote1, Remote2}
use Rattle.part.specs.declared.FanId.{FanId}
use Rattle.part.specs.declared.FanId.TheVariants.{One, Two}
use Rattle.rules.specs.Registers.{config1, speeds, control_at, behaviour}
use Rattle.rules.specs.Fields.{assignment, automatic, speed_code, range_code, tmin_code, therm_drives_fans}
use Rattle.rules.specs.Events.{natural, samples, restarts}
use Rattle.rules.specs.Stored.{Taken, stored_at, pin_low, diode_error}
use Rattle.rules.specs.Offsets.{measured}
use Rattle.rules.specs.Temperatures.{hysteresis, temperature, therm_asserted}

-- preamble: Tmin steps by 4 degrees from 0 to 124; R is 5, 10, 20, 40, 80 (reply 7 keeps the codes 5 to 7 out)
abbrev pub tmin_of : (control : ℕ) → ℕ
tmin_of control = 4 * tmin_code control

unfoldable pub range_of : (control : ℕ) → ℕ
range_of control = get_or (5 ∷ 10 ∷ 20 ∷ 40 ∷ []) (range_code control) 80

-- ---- rule 1: the run flag, on if t > 8 Tmin, off if t < 8(Tmin - 5), else kept; a write does not touch it

unfoldable pub flag : ChannelId → Taken → Bool
flag c [] = false
flag c (e ∷ d) =
    cond (restarts e) false (cond (samples c e) (hysteresis (flag c d) (pos (tmin_of (stored_at (control_at c) (e ∷ d)))) (measured c e d)) (flag c d))

-- ---- rule 2: demands

-- 0 if the flag is off, else the lesser of 240 and 16m + floor(20 max(0, t - 8 Tmin) / R)
abbrev pub demand_z : (flag : Bool) (m tmin range : ℕ) (t : ℤ) → ℕ
demand_z flag m tmin range t = cond flag (min 240 (16 * m + 20 * natural (t -ℤ pos (8 * tmin)) / range)) 0

-- T-05: 240 while the diode is in error, whatever the run flag
unfoldable pub demand : FanId → ChannelId → Taken → ℕ
demand f c d =
    cond (diode_error c d) 240
    (demand_z (flag c d) (speed_code f (stored_at speeds d)) (tmin_of (stored_at (control_at c) d)) (range_of (stored_at (control_at c) d)) (temperature c d))

-- ---- rule 3: targets

abbrev pub is_remote1 : ChannelId → Bool
is_remote1 Local = false
is_remote1 Remote1 = true
is_remote1 Remote2 = false

abbrev pub is_remote2 : ChannelId → Bool
is_remote2 Local = false
is_remote2 Remote1 = false
is_remote2 Remote2 = true

-- remote 1 to fan 1 and remote 2 to fan 2
abbrev pub is_own : FanId → ChannelId → Bool
is_own One c = is_remote1 c
is_own Two c = is_remote2 c

-- each its own; remote 1 to both; remote 2 to both; all three to both
unfoldable pub assigned_by : (assignment : ℕ) → FanId → ChannelId → Bool
assigned_by a f c =
    cond (eqb a 0) (is_own f c)
    (cond (eqb a 1) (is_remote1 c)
    (cond (eqb a 2) (is_remote2 c) true))

-- what an assigned channel demands; another has no say
abbrev pub demand_if : (assigned : Bool) (demand : ℕ) → ℕ
demand_if assigned demand = cond assigned demand 0

-- automatic: the largest demand among the assigned channels; manual: 16m
unfoldable pub target_of : (config1 speeds : ℕ) → FanId → (local remote1 remote2 : ℕ) → ℕ
target_of config1 speeds f local remote1 remote2 =
    cond (automatic config1)
    (max (demand_if (assigned_by (assignment config1) f Local) local)
    (max (demand_if (assigned_by (assignment config1) f Remote1) remote1)
    (demand_if (assigned_by (assignment config1) f Remote2) remote2)))
    (16 * speed_code f speeds)

unfoldable pub target : FanId → Taken → ℕ
target f d = target_of (stored_at config1 d) (stored_at speeds d) f (demand f Local d) (demand f Remote1 d) (demand f Remote2 d)

-- ---- rule 4: override: pin low, or bit 7 of 0x3F is 1 and a latch is on

unfoldable pub overridden : Taken → Bool
overridden d = pin_low d || (therm_drives_fans (stored_at behaviour d) && therm_asserted d)
