-- Document 01, "Duty in slots" and "Tach counts": a fan after an event.
use Rattle.std.specs.Prelude.{ℕ, Bool, false, cond, not, ◌&&◌}
use Rattle.part.specs.declared.FanId.{FanId}
use Rattle.event.specs.declared.Kind.TheVariants as kind
use Rattle.rules.specs.Registers.{status_at}
use Rattle.rules.specs.Fields.{output_enabled, tach_enabled, speed_code, filter_enabled}
use Rattle.rules.specs.Targets.{tmin_of, range_of, target_of}
use Rattle.rules.specs.Duties.{rate_of, spin_up_of}
use Rattle.demand.specs.Demand.{demand_of, overridden_of}
use Rattle.drive.specs.Drive.{driven_of, alarm_of}
use Rattle.drive.specs.Tach.{judged_of, failed_of, run_of}
use Rattle.drive.specs.declared.Drive.{Drive}
use Rattle.drive.specs.declared.Setting.{Setting}
use Rattle.drive.specs.declared.FanInput.{FanInput}
use Rattle.input.specs.declared.Input.{Input}
use Rattle.input.specs.Inputs.{is_a, byte_in, is_count, is_period, is_read, is_restart, bit_after}
use Rattle.part.specs.Each.{of_fan}
use Rattle.stored.specs.declared.ChannelRegisters.{ChannelRegisters}
use Rattle.stored.specs.declared.Registers.{Registers}
use Rattle.stored.specs.declared.Context.{Context}
use Rattle.channel.specs.declared.Channel.{Channel}
use Rattle.part.specs.declared.PerChannel.{PerChannel}
use Rattle.channel.specs.Channels.{therm_of}
use Rattle.fan.specs.declared.Fan.{Fan}

-- duty 2: what a channel demands of a fan; T-05: 240 while its diode is in error, whatever the run flag
abbrev pub channel_demand : FanId → (speeds : ℕ) → ChannelRegisters → Channel → ℕ
channel_demand f speeds l ch =
    cond ch.error 240 (demand_of ch.flag (speed_code f speeds) (tmin_of l.control) (range_of l.control) ch.reading)

-- duty 3: the target, from the registers and channels as they stand after the event
unfoldable pub fan_target : FanId → Registers → PerChannel Channel → ℕ
fan_target f s cs =
    target_of s.config1 s.speeds f
    (channel_demand f s.speeds s.channels.local cs.local)
    (channel_demand f s.speeds s.channels.remote1 cs.remote1)
    (channel_demand f s.speeds s.channels.remote2 cs.remote2)

-- duty 3 to 6: what registers, pin and channels ask of a fan
unfoldable pub setting_of : FanId → (pinLow : Bool) → Registers → PerChannel Channel → Setting
setting_of f pinLow s cs =
    record {
      enabled = output_enabled f s.config2;
      overridden = overridden_of pinLow s.behaviour (therm_of cs);
      filtered = filter_enabled f s.filter;
      target = fan_target f s cs;
      rate = rate_of s.filter;
      spin_up = spin_up_of (of_fan f s.fans).characteristics;
    }

-- the fan as it counts before a power or reset: "duties count as 0 before it" (temperatures 9)
abbrev pub stopped : Fan
stopped = record { drive = record { duty = 0; left = 0 }; run = 0; alarmed = false; alarm = false; fault = false }

abbrev pub prior_fan : Input → Fan → Fan
prior_fan i was = cond (is_restart i) stopped was

-- tach counts: whether the event is a judged count of the fan, and a failure; d is the fan's drive before it
abbrev pub judges_fan : FanId → Context → Drive → Bool
judges_fan f m d = is_count f m.input && judged_of (tach_enabled f m.registers.config2) d.duty d.left

abbrev pub fails_fan : FanId → Context → Drive → Bool
fails_fan f m d = failed_of (judges_fan f m d) (of_fan f m.registers.fans).limit (byte_in m.input)

-- what the event is to the fan
abbrev pub fan_input_of : FanId → (failed : Bool) → Input → FanInput
fan_input_of f failed i = record { clock = is_a kind.Clock i; period = is_period f i; failed = failed }

-- tach counts: the run of failures, ended by the tach bit being 0 too
abbrev pub fan_run : (tach judged failed : Bool) → ℕ → ℕ
fan_run tach judged failed was = cond tach (run_of judged failed was) 0

-- the fan after an event: s is what is asked of it then, w the fan before it
unfoldable pub fan_under : FanId → Setting → Context → Fan → Fan
fan_under f s m w =
    record {
      drive = driven_of s (fan_input_of f (fails_fan f m w.drive) m.input) w.drive;
      run = fan_run (tach_enabled f m.registers.config2) (judges_fan f m w.drive) (fails_fan f m w.drive) w.run;
      alarmed = alarm_of s;
      -- duty 7: entering alarm speed sets the bit
      alarm = bit_after (alarm_of s && not w.alarmed) (is_read (status_at f) m.pointer m.input) w.alarm;
      fault = bit_after (fails_fan f m w.drive) (is_read (status_at f) m.pointer m.input) w.fault;
    }

-- a fan, under registers, pin and channels as they stand after the event
unfoldable pub fan_after : FanId → (pinLow : Bool) → Context → PerChannel Channel → Fan → Fan
fan_after f pinLow m cs was = fan_under f (setting_of f pinLow m.registers cs) m (prior_fan m.input was)
