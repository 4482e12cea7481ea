-- Document 01, "Duty in slots", rules 5 to 7: what one event does to a fan.
use Rattle.std.specs.Prelude.{ℕ, ◌-◌, Bool, cond, ◌&&◌, ◌||◌, ltb, eqb}
use Rattle.rules.specs.Duties.{nearer}
use Rattle.drive.specs.declared.Setting.{Setting}
use Rattle.drive.specs.declared.FanInput.{FanInput}
use Rattle.drive.specs.declared.Drive.{Drive}

-- rule 5: the duty after the event, the first that applies; `was` is the duty before it
unfoldable pub duty_of : Setting → (period spinning : Bool) → (was : ℕ) → ℕ
duty_of s period spinning was =
    cond s.enabled
    (cond s.overridden 240
    (cond (eqb s.target 0) 0
    (cond spinning 240
    (cond s.filtered (cond period (nearer s.rate s.target was) was) s.target))))
    0

-- rule 6: whether a spin-up starts
unfoldable pub starts_of : Setting → FanInput → (was : ℕ) → Bool
starts_of s b was = b.failed || (eqb was 0 && (s.enabled && (ltb 0 s.target || s.overridden)))

-- rule 6: the clock events left of the spin-up, before the duty is known
unfoldable pub left_of : Setting → FanInput → Drive → ℕ
left_of s b d = cond (starts_of s b d.duty) s.spin_up (cond b.clock (d.left - 1) d.left)

-- rule 6: a spin-up ends early when the duty becomes 0
abbrev pub drive_at : (duty left : ℕ) → Drive
drive_at duty left = record { duty = duty; left = cond (eqb duty 0) 0 left }

unfoldable pub driven_of : Setting → FanInput → Drive → Drive
driven_of s b d = drive_at (duty_of s b.period (ltb 0 (left_of s b d)) d.duty) (left_of s b d)

-- rule 7: a fan is at alarm speed while enabled and overridden; entering that state sets its alarm bit
abbrev pub alarm_of : Setting → Bool
alarm_of s = s.enabled && s.overridden
