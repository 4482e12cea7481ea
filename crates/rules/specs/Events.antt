-- Document 01, "Events and what each carries": what an event is to the chip, by its raw numbers.
use Rattle.std.specs.Prelude.{ℕ, Bool, false, ◌&&◌, ◌||◌, List, [], ◌∷◌, leb, eqb, ℤ, pos, negsuc, get_or}
use Rattle.std.specs.Int.Signed.{le_z}
use Rattle.integer.specs.Bits.{bit_of}
use Rattle.part.specs.declared.ChannelId.{ChannelId}
use Rattle.part.specs.declared.ChannelId.TheVariants.{Local, Remote1, Remote2}
use Rattle.part.specs.declared.FanId.{FanId}
use Rattle.part.specs.declared.FanId.TheVariants.{One, Two}
use Rattle.event.specs.Kinds.{kind_of, place_of, numbers_of, is_kind}
use Rattle.event.specs.declared.Event.{Event}
use Rattle.event.specs.declared.Kind.TheVariants as kind
use Rattle.rules.specs.Registers.{config2}

abbrev pub who : Event → ℤ
who e = (numbers_of e).who

abbrev pub arg : Event → ℤ
arg e = (numbers_of e).arg

abbrev pub val : Event → ℤ
val e = (numbers_of e).val

-- ---- numbers

-- v is n
abbrev pub is_number : ℤ → ℕ → Bool
is_number (pos m) n = eqb m n
is_number (negsuc m) n = false

-- low ≤ v ≤ high
abbrev pub within : (low high : ℕ) → ℤ → Bool
within low high (pos m) = leb low m && leb m high
within low high (negsuc m) = false

-- max(0, v)
abbrev pub natural : ℤ → ℕ
natural (pos n) = n
natural (negsuc n) = 0

-- the register of a write or point; the byte of a write, the count of a tach
abbrev pub register_given : Event → ℕ
register_given e = natural (arg e)

abbrev pub byte_given : Event → ℕ
byte_given e = natural (val e)

-- ---- what each carries

-- the ends of a number's range, both included
pub record Range : Type 0 where
  pub low : ℤ
  pub high : ℤ

abbrev pub up_to : ℕ → Range
up_to n = record { low = pos 0; high = pos n }

abbrev pub from_to : (low high : ℤ) → Range
from_to low high = record { low = low; high = high }

abbrev pub lies : Range → ℤ → Bool
lies r v = le_z r.low v && le_z v r.high

-- who, arg and val of a kind of event
pub record Ranges : Type 0 where
  pub who : Range
  pub arg : Range
  pub val : Range

abbrev pub ranges : (who arg val : Range) → Ranges
ranges who arg val = record { who = who; arg = arg; val = val }

-- an unused number is 0
abbrev pub unused : Range
unused = up_to 0

-- the table: power, write, point, read, sample, tach, pin, clock, period; alert (T-02), diode (T-05). A bus address has 7 bits and a
-- register 8; which of them are ours is judged by replies 2 and 4.
abbrev pub carried : List Ranges
carried =
    ranges (from_to (pos 44) (pos 46)) (up_to 1) (up_to 1)
    ∷ ranges (up_to 127) (up_to 255) (up_to 255)
    ∷ ranges (up_to 127) (up_to 255) unused
    ∷ ranges (up_to 127) unused unused
    ∷ ranges (up_to 2) unused (from_to (negsuc 1023) (pos 1023))
    ∷ ranges (from_to (pos 1) (pos 2)) unused (up_to 255)
    ∷ ranges unused unused (up_to 1)
    ∷ ranges unused unused unused
    ∷ ranges (from_to (pos 1) (pos 2)) unused unused
    ∷ ranges (up_to 127) unused unused
    ∷ ranges (from_to (pos 1) (pos 2)) unused (up_to 1)
    ∷ []

unfoldable pub ranges_of : Event → Ranges
ranges_of e = get_or carried (place_of (kind_of e)) (ranges unused unused unused)

-- ---- what an event is to a part of the chip

-- channels and fans by their numbers
abbrev pub channel_number : ChannelId → ℕ
channel_number Local = 0
channel_number Remote1 = 1
channel_number Remote2 = 2

abbrev pub fan_number : FanId → ℕ
fan_number One = 1
fan_number Two = 2

-- a sample of a channel, a report on its diode (T-05); a count, a period of a fan
abbrev pub samples : ChannelId → Event → Bool
samples c e = is_kind kind.Sample e && is_number (who e) (channel_number c)

abbrev pub reports : ChannelId → Event → Bool
reports c e = is_kind kind.Diode e && is_number (who e) (channel_number c)

abbrev pub measures : FanId → Event → Bool
measures f e = is_kind kind.Tach e && is_number (who e) (fan_number f)

abbrev pub periods : FanId → Event → Bool
periods f e = is_kind kind.Period e && is_number (who e) (fan_number f)

-- a write of the register at an address; a read of it, which is one while the pointer is there
abbrev pub writes : (address : ℕ) → Event → Bool
writes a e = is_kind kind.Write e && is_number (arg e) a

abbrev pub reads : (address pointer : ℕ) → Event → Bool
reads a pointer e = is_kind kind.Read e && eqb pointer a

-- temperatures 9: a write of 0x01 with bit 7 set is the software reset
abbrev pub resets : Event → Bool
resets e = writes config2 e && bit_of (byte_given e) 7

-- what starts afresh: power, and the software reset
abbrev pub restarts : Event → Bool
restarts e = is_kind kind.Power e || resets e
