-- A fan after an event from its parts. Assumes nothing.
use Prim.Native.Nat.{ℕ}
use mathlib.Core.Bool.{Bool, not, ◌&&◌}
use mathlib.Core.Path.{◌≡◌}
use Rattle.part.specs.declared.FanId.{FanId}
use Rattle.part.specs.Each.{of_fan}
use Rattle.rules.specs.Registers.{status_at}
use Rattle.rules.specs.Fields.{tach_enabled}
use Rattle.drive.specs.Drive.{driven_of, alarm_of}
use Rattle.drive.specs.Tach.{failed_of}
use Rattle.drive.specs.declared.Drive.{Drive}
use Rattle.drive.specs.declared.FanInput.{FanInput}
use Rattle.drive.specs.declared.Setting.{Setting}
use Rattle.input.specs.Inputs.{byte_in, is_read, bit_after}
use Rattle.stored.specs.declared.Context.{Context}
use Rattle.fan.specs.Fans.{judges_fan, fan_input_of, fan_run, fan_under}
use Rattle.fan.specs.declared.Fan.{Fan}

pub under_is : (f : FanId) (s : Setting) (m : Context) (w : Fan) {fails alarmed read tach judges alarm fault : Bool} {a run : ℕ} {input : FanInput} {d : Drive}
    → judges ≡ judges_fan f m w.drive → fails ≡ failed_of judges (of_fan f m.registers.fans).limit (byte_in m.input)
    → alarmed ≡ alarm_of s → a ≡ status_at f → read ≡ is_read a m.pointer m.input
    → tach ≡ tach_enabled f m.registers.config2 → input ≡ fan_input_of f fails m.input → d ≡ driven_of s input w.drive
    → run ≡ fan_run tach judges fails w.run
    → alarm ≡ bit_after (alarmed && not w.alarmed) read w.alarm → fault ≡ bit_after fails read w.fault
    → ◌≡◌ {A = Fan} (record { drive = d; run = run; alarmed = alarmed; alarm = alarm; fault = fault }) (fan_under f s m w)
unfolding fan_under
under_is f s m w e1 e2 e3 e4 e5 e6 e7 e8 e9 e10 e11 = rw (e8, e7, e9, e6, e10, e11, e5, e4, e3, e2, e1)
