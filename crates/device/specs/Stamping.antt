-- T-07 of document 02: the stamps after an accepted event, and the age of a fan.
use Rattle.std.specs.Prelude.{ℕ, ◌+◌, ◌-◌, ◌%◌, cond, ◌&&◌, ◌||◌, ◌==◌, nat_lt}
use Rattle.part.specs.declared.FanId.{FanId}
use Rattle.part.specs.Each.{of_fan, map_fans}
use Rattle.event.specs.declared.Kind.TheVariants as kind
use Rattle.input.specs.declared.Input.{Input}
use Rattle.input.specs.Inputs.{is_a, is_restart}
use Rattle.fan.specs.declared.Fan.{Fan}
use Rattle.chip.specs.declared.Chip.{Chip}
use Rattle.device.specs.declared.Stamps.{Stamps}

-- 0 at power, one more at a clock, modulo 65,536
abbrev pub stamp_after : Input → (was : ℕ) → ℕ
stamp_after i was = cond (is_a kind.Power i) 0 (cond (is_a kind.Clock i) ((was + 1) % 65536) was)

-- the stamp after the event at power, at reset and where the duty goes from 0 to more
abbrev pub fan_stamp_after : Input → (now was : ℕ) (before after : Fan) → ℕ
fan_stamp_after i now was before after = cond (is_restart i || (before.drive.duty == 0 && nat_lt 0 after.drive.duty)) now was

unfoldable pub stamps_after : Input → Stamps → (before after : Chip) → Stamps
stamps_after i s before after =
    record {
      now = stamp_after i s.now;
      starts = map_fans (λ f was. fan_stamp_after i (stamp_after i s.now) was (of_fan f before.fans) (of_fan f after.fans)) s.starts;
    }

-- the difference modulo 65,536
abbrev pub age_of : FanId → Stamps → ℕ
age_of f s = (s.now + (65536 - of_fan f s.starts)) % 65536
