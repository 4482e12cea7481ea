-- An event as plain numbers, and what it is to a part of the chip. The agreement holds these tests to those of the rules.
use Rattle.std.specs.Prelude.{ℕ, ◌%◌, Bool, true, false, cond, ◌&&◌, ◌||◌, eqb, ℤ, pos, negsuc, Option, Some, None}
use Rattle.std.specs.Option.{unwrap_or}
use Rattle.integer.specs.Bits.{bit_of}
use Rattle.integer.specs.Range.{eighths_of}
use Rattle.part.specs.declared.ChannelId.{ChannelId}
use Rattle.part.specs.declared.FanId.{FanId}
use Rattle.event.specs.Kinds.{kind_of, place_of, numbers_of}
use Rattle.event.specs.declared.Event.{Event}
use Rattle.event.specs.declared.Kind.{Kind}
use Rattle.event.specs.declared.Kind.TheVariants as kind
use Rattle.rules.specs.Registers.{config2}
use Rattle.rules.specs.Events.{channel_number, fan_number}
use Rattle.input.specs.declared.Input.{Input}

-- a number from 0 up; 2,147,483,648, which is no number of 32 bits, stands for every negative one
abbrev pub plain_of : ℤ → ℕ
plain_of (pos n) = n
plain_of (negsuc n) = 2147483648

-- eighths of a degree from -1024 to 1023, with 1024 added; 2048 stands for every other number
abbrev pub eighths_held : ℤ → ℕ
eighths_held t = unwrap_or (eighths_of t) 2048

abbrev pub input_of : Event → Input
input_of e =
    record {
      kind = Some (kind_of e);
      who = plain_of (numbers_of e).who;
      arg = plain_of (numbers_of e).arg;
      val = plain_of (numbers_of e).val;
      sample = eighths_held (numbers_of e).val;
    }

-- whether it is that kind; what is no kind is none of them
abbrev pub same_kind : Kind → Option Kind → Bool
same_kind k None = false
same_kind k (Some q) = eqb (place_of q) (place_of k)

abbrev pub is_a : Kind → Input → Bool
is_a k i = same_kind k i.kind

-- the byte that a write or a count carries
abbrev pub byte_in : Input → ℕ
byte_in i = i.val % 256

-- a sample of the channel, a report on its diode; a count, a period of the fan
abbrev pub is_sample : ChannelId → Input → Bool
is_sample c i = is_a kind.Sample i && eqb i.who (channel_number c)

abbrev pub is_report : ChannelId → Input → Bool
is_report c i = is_a kind.Diode i && eqb i.who (channel_number c)

abbrev pub is_count : FanId → Input → Bool
is_count f i = is_a kind.Tach i && eqb i.who (fan_number f)

abbrev pub is_period : FanId → Input → Bool
is_period f i = is_a kind.Period i && eqb i.who (fan_number f)

-- a write to the register at an address; a read of it
abbrev pub is_write : (address : ℕ) → Input → Bool
is_write a i = is_a kind.Write i && eqb i.arg a

abbrev pub is_read : (address pointer : ℕ) → Input → Bool
is_read a pointer i = is_a kind.Read i && eqb pointer a

-- the software reset; a power or a software reset
abbrev pub is_reset : Input → Bool
is_reset i = is_write config2 i && bit_of (byte_in i) 7

abbrev pub is_restart : Input → Bool
is_restart i = is_a kind.Power i || is_reset i

-- a status bit that an event may set or clear; what sets it wins
abbrev pub bit_after : (sets clears was : Bool) → Bool
bit_after sets clears was = cond sets true (cond clears false was)
