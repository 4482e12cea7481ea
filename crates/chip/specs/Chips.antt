-- The chip after an accepted event: each part by its rule, in the order in which they depend on each other.
use Rattle.std.specs.Prelude.{ℕ, ◌%◌, Bool, false, cond, not, ◌&&◌, ◌||◌, eqb}
use Rattle.part.specs.declared.FanId.TheVariants.{Two}
use Rattle.part.specs.Each.{map_fans}
use Rattle.event.specs.declared.Kind.TheVariants as kind
use Rattle.rules.specs.Registers.{status_at}
use Rattle.input.specs.declared.Input.{Input}
use Rattle.input.specs.Inputs.{is_a, is_restart, is_read, bit_after}
use Rattle.stored.specs.Stored.{registers_after}
use Rattle.stored.specs.declared.Registers.{Registers}
use Rattle.stored.specs.declared.Context.{Context}
use Rattle.channel.specs.Channels.{channels_after}
use Rattle.part.specs.declared.PerChannel.{PerChannel}
use Rattle.channel.specs.declared.Channel.{Channel}
use Rattle.fan.specs.Fans.{fan_after}
use Rattle.chip.specs.declared.Port.{Port}
use Rattle.chip.specs.declared.Chip.{Chip}

-- the own address (reply 2) comes from power
abbrev pub address_after : Input → ℕ → ℕ
address_after i was = cond (is_a kind.Power i) (i.who % 256) was

-- below the reply table: the pointer is 0 after power; a write that is done sets it too, the software reset to 1
abbrev pub pointer_after : Input → ℕ → ℕ
pointer_after i was = cond (is_a kind.Power i) 0 (cond (is_a kind.Write i || is_a kind.Point i) (i.arg % 256) was)

-- below the reply table: the pin is high after power; a reset leaves it (temperatures 9)
abbrev pub pin_low_after : Input → Bool → Bool
pin_low_after i was = cond (is_a kind.Power i) false (cond (is_a kind.Pin i) (eqb i.val 0) was)

-- temperatures 6: the pin going from high to low
abbrev pub pulled_after : (pinLow : Bool) (pointer : ℕ) → Input → Bool → Bool
pulled_after pinLow pointer i was =
    bit_after (is_a kind.Pin i && (eqb i.val 0 && not pinLow)) (is_restart i || is_read (status_at Two) pointer i) was

unfoldable pub port_after : Input → Port → Port
port_after i p =
    record {
      address = address_after i p.address;
      pointer = pointer_after i p.pointer;
      pin_low = pin_low_after i p.pin_low;
      pulled = pulled_after p.pin_low p.pointer i p.pulled;
    }

-- port and channels as they stand after the event, the fans as they stood before it
unfoldable pub chip_with : Port → Context → PerChannel Channel → Chip → Chip
chip_with port m cs k =
    record {
      port = port;
      registers = m.registers;
      channels = cs;
      fans = map_fans (λ f was. fan_after f port.pin_low m cs was) k.fans;
    }

-- under the registers as they stand after the event; the pointer as it stood before it
abbrev pub context_of : Input → Registers → Chip → Context
context_of i s k = record { input = i; registers = s; pointer = k.port.pointer }

unfoldable pub chip_under : Context → Chip → Chip
chip_under m k = chip_with (port_after m.input k.port) m (channels_after m k.channels) k

unfoldable pub chip_after : Input → Chip → Chip
chip_after i k = chip_under (context_of i (registers_after i k.registers) k) k
