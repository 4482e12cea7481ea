-- The keeper that the rules describe.
use Prim.Native.Nat.{min}
use mathlib.Core.Bool.{cond}
use mathlib.Core.List.{◌∷◌}
use Rattle.part.specs.declared.ChannelId.{ChannelId}
use Rattle.part.specs.declared.FanId.{FanId}
use Rattle.event.specs.declared.Event.{Event}
use Rattle.rules.specs.Registers as at
use Rattle.rules.specs.Stored.{Taken, powered, own_address, stored_at, pointer, pin_low, diode_error, pulled_bit}
use Rattle.rules.specs.Temperatures.{temperature, latch, high_bit, low_bit, therm_bit}
use Rattle.rules.specs.Targets.{flag, target, overridden}
use Rattle.rules.specs.Duties.{enabled, filtered, rate, spin_up_clocks, Spin, left, spin, failures, at_alarm, alarm_bit, fault_bit}
use Rattle.rules.specs.Shows.{silenced}
use Rattle.rules.specs.Stamps.{stamp, fan_stamp}
use Rattle.drive.specs.declared.Drive.{Drive}
use Rattle.drive.specs.declared.Setting.{Setting}
use Rattle.input.specs.Inputs.{eighths_held, input_of}
use Rattle.stored.specs.declared.ChannelRegisters.{ChannelRegisters}
use Rattle.stored.specs.declared.FanRegisters.{FanRegisters}
use Rattle.stored.specs.declared.Registers.{Registers}
use Rattle.stored.specs.declared.Context.{Context}
use Rattle.channel.specs.declared.Channel.{Channel}
use Rattle.part.specs.declared.PerChannel.{PerChannel}
use Rattle.part.specs.Each.{each_channel, each_fan}
use Rattle.fan.specs.declared.Fan.{Fan}
use Rattle.chip.specs.declared.Port.{Port}
use Rattle.chip.specs.declared.Chip.{Chip}
use Rattle.device.specs.declared.Device.{Device}
use Rattle.device.specs.declared.Stamps.{Stamps}
use Rattle.keeper.specs.declared.Keeper.{Keeper}
use Rattle.keeper.specs.declared.Keeper.TheVariants.{Off, On}

unfoldable pub port_by : Taken → Port
port_by d = record { address = own_address d; pointer = pointer d; pin_low = pin_low d; pulled = pulled_bit d }

unfoldable pub channel_registers_by : ChannelId → Taken → ChannelRegisters
channel_registers_by c d =
    record {
      offset = stored_at (at.offset_at c) d;
      high = stored_at (at.high_limit_at c) d;
      low = stored_at (at.low_limit_at c) d;
      therm = stored_at (at.therm_limit_at c) d;
      control = stored_at (at.control_at c) d;
    }

unfoldable pub fan_registers_by : FanId → Taken → FanRegisters
fan_registers_by f d =
    record { speed = stored_at (at.speed_at f) d; limit = stored_at (at.tach_limit_at f) d; characteristics = stored_at (at.characteristics_at f) d }

unfoldable pub registers_by : Taken → Registers
registers_by d =
    record {
      config1 = stored_at at.config1 d;
      config2 = stored_at at.config2 d;
      test = stored_at at.test d;
      speeds = stored_at at.speeds d;
      filter = stored_at at.filter d;
      behaviour = stored_at at.behaviour d;
      channels = each_channel (λ c. channel_registers_by c d);
      fans = each_fan (λ f. fan_registers_by f d);
    }

-- what moves a part at the event e after the accepted events d
abbrev pub context_by : Event → Taken → Context
context_by e d = record { input = input_of e; registers = registers_by (e ∷ d); pointer = pointer d }

-- readings are held with 1024 added
unfoldable pub channel_by : ChannelId → Taken → Channel
channel_by c d =
    record {
      reading = eighths_held (temperature c d);
      latch = latch c d;
      flag = flag c d;
      high = high_bit c d;
      low = low_bit c d;
      therm = therm_bit c d;
      error = diode_error c d;
    }

unfoldable pub channels_by : Taken → PerChannel Channel
channels_by d = each_channel (λ c. channel_by c d)

-- what registers, pin and channels ask of a fan
unfoldable pub setting_by : FanId → Taken → Setting
setting_by f d =
    record {
      enabled = enabled f d;
      overridden = overridden d;
      filtered = filtered f d;
      target = target f d;
      rate = rate d;
      spin_up = spin_up_clocks f d;
    }

-- the program holds what remains of a spin-up and a run of at most 5; the rules count both from the list
abbrev pub drive_by : Spin → Drive
drive_by w = record { duty = w.duty; left = left w }

unfoldable pub fan_by : FanId → Taken → Fan
fan_by f d = record { drive = drive_by (spin f d); run = min 5 (failures f d); alarmed = at_alarm f d; alarm = alarm_bit f d; fault = fault_bit f d }

unfoldable pub chip_by : Taken → Chip
chip_by d = record { port = port_by d; registers = registers_by d; channels = channels_by d; fans = each_fan (λ f. fan_by f d) }

-- the stamps, which the rules count in the list
unfoldable pub stamps_by : Taken → Stamps
stamps_by d = record { now = stamp d; starts = each_fan (λ f. fan_stamp f d) }

unfoldable pub device_by : Taken → Device
device_by d = record { chip = chip_by d; silenced = silenced d; stamps = stamps_by d }

unfoldable pub state_by : Taken → Keeper
state_by d = cond (powered d) (On (device_by d)) Off
