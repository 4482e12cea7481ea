-- The keeper: off, or a device that has power. What each event is answered, and what is shown after it.
use Rattle.std.specs.Prelude.{ℕ, zero, suc, Bool, true, false, cond, List, [], ◌∷◌, ltb, length, Result, Ok, Err}
use Rattle.std.proofs.lemmas.List.Edits.{sets}
use Rattle.event.specs.declared.Event.{Event}
use Rattle.event.specs.declared.Kind.TheVariants as kind
use Rattle.event.specs.declared.Refusal.{Refusal}
use Rattle.event.specs.declared.Refusal.TheVariants.{NoPower, WrongSize}
use Rattle.event.specs.declared.Shown.{Shown}
use Rattle.rules.specs.Fields.{monitors}
use Rattle.rules.specs.Replies.{accepts}
use Rattle.input.specs.Inputs.{is_a, input_of}
use Rattle.input.specs.declared.Input.{Input}
use Rattle.judge.specs.Judged.{lowest_in}
use Rattle.judge.specs.declared.Standing.{Standing}
use Rattle.stored.specs.declared.ChannelRegisters.{ChannelRegisters}
use Rattle.stored.specs.declared.FanRegisters.{FanRegisters}
use Rattle.channel.specs.declared.Channel.{Channel}
use Rattle.fan.specs.Fans.{stopped}
use Rattle.chip.specs.declared.Chip.{Chip}
use Rattle.output.specs.Outputs.{register_at, shown_of}
use Rattle.device.specs.Devices.{device_after}
use Rattle.device.specs.declared.Device.{Device}
use Rattle.part.specs.Each.{each_channel, each_fan}
use Rattle.keeper.specs.declared.Keeper.{Keeper}
use Rattle.keeper.specs.declared.Keeper.TheVariants.{Off, On}
use Rattle.keeper.specs.declared.Outcome.{Outcome}

-- a chip that never had power: its bytes and readings are 0, a reading held with 1024 added
abbrev pub no_channel_registers : ChannelRegisters
no_channel_registers = record { offset = 0; high = 0; low = 0; therm = 0; control = 0 }

abbrev pub no_fan_registers : FanRegisters
no_fan_registers = record { speed = 0; limit = 0; characteristics = 0 }

abbrev pub no_channel : Channel
no_channel = record { reading = 1024; latch = false; flag = false; high = false; low = false; therm = false; error = false }

abbrev pub blank : Chip
blank =
    record {
      port = record { address = 0; pointer = 0; pin_low = false; pulled = false };
      registers =
          record {
            config1 = 0;
            config2 = 0;
            test = 0;
            speeds = 0;
            filter = 0;
            behaviour = 0;
            channels = each_channel (λ _. no_channel_registers);
            fans = each_fan (λ _. no_fan_registers);
          };
      channels = each_channel (λ _. no_channel);
      fans = each_fan (λ _. stopped);
    }

abbrev pub blank_device : Device
blank_device = record { chip = blank; silenced = false; stamps = record { now = 0; starts = each_fan (λ _. 0) } }

-- a keeper that never had power has a device too: the one before the first event
abbrev pub is_on : Keeper → Bool
is_on Off = false
is_on (On d) = true

abbrev pub device_in : Keeper → Device
device_in Off = blank_device
device_in (On d) = d

abbrev pub chip_in : Keeper → Chip
chip_in k = (device_in k).chip

-- what a reply asks of it
abbrev pub standing_with : (on : Bool) → Chip → Standing
standing_with on c =
    record {
      on = on;
      address = c.port.address;
      monitoring = monitors c.registers.config1;
      error1 = c.channels.remote1.error;
      error2 = c.channels.remote2.error;
    }

abbrev pub standing_of : Keeper → Standing
standing_of k = standing_with (is_on k) (chip_in k)

-- before the first power all outputs are 0
unfoldable pub shown_by : Keeper → Shown
shown_by Off = record { int = 0; therm = 0; fault = 0; duty1 = 0; duty2 = 0 }
shown_by (On d) = shown_of d.chip d.silenced

-- the device of a keeper: 1 before the first power
abbrev pub powered_device : Keeper → Result Device Refusal
powered_device Off = Err NoPower
powered_device (On d) = Ok d

-- T-07: the stamp, 0 before the first power
unfoldable pub stamp_by : Keeper → ℕ
stamp_by Off = 0
stamp_by (On d) = d.stamps.now

-- only a read returns data: that of the register at the pointer
abbrev pub data_for : Chip → Input → ℕ
data_for c i = cond (is_a kind.Read i) (register_at c c.port.pointer) 0

-- an accepted event moves the device; a refusal leaves the keeper
abbrev pub accepted_by : Device → Input → Outcome
accepted_by d i =
    record {
      keeper = On (device_after i d);
      answer = Ok (data_for d.chip i);
      shown = shown_of (device_after i d).chip (device_after i d).silenced;
    }

abbrev pub refused_by : Keeper → Result ℕ Refusal → Outcome
refused_by k a = record { keeper = k; answer = a; shown = shown_by k }

abbrev pub decided : Keeper → Device → Input → Result ℕ Refusal → Outcome
decided k d i a = cond (accepts a) (accepted_by d i) (refused_by k a)

unfoldable pub outcome_of : Keeper → Event → Outcome
outcome_of k e = decided k (device_in k) (input_of e) (lowest_in (standing_of k) (input_of e))

-- the register image (below the reply table): place a holds what a read of a would return
unfoldable pub image_from : (from count : ℕ) → Chip → List ℕ
image_from a zero c = []
image_from a (suc n) c = register_at c a ∷ image_from (suc a) n c

unfoldable pub image_answer : Keeper → (buffer : List ℕ) → Result ℕ Refusal
image_answer Off buffer = Err NoPower
image_answer (On d) buffer = cond (ltb (length buffer) 64) (Err WrongSize) (Ok 0)

-- with 1 or 11 no byte of the buffer changes; bytes after the 64th stay
unfoldable pub image_buffer : Keeper → List ℕ → List ℕ
image_buffer Off buffer = buffer
image_buffer (On d) buffer = cond (ltb (length buffer) 64) buffer (sets buffer 0 (image_from 0 64 d.chip))
