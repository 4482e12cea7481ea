-- Document 01, the sentences below the reply table, over the accepted events, the newest first: power, stored bytes, pointer, pin, diode errors.
use Rattle.std.specs.Prelude.{ℕ, Bool, false, true, cond, not, ◌&&◌, ◌||◌, List, [], ◌∷◌, eqb}
use Rattle.integer.specs.Bits.{merged_of}
use Rattle.part.specs.declared.ChannelId.{ChannelId}
use Rattle.part.specs.declared.ChannelId.TheVariants.{Local, Remote1, Remote2}
use Rattle.part.specs.declared.FanId.TheVariants.{One, Two}
use Rattle.event.specs.Kinds.{is_kind}
use Rattle.event.specs.declared.Event.{Event}
use Rattle.event.specs.declared.Kind.TheVariants as kind
use Rattle.rules.specs.Registers.{speed_at, status_at, mask_at, reset_at}
use Rattle.rules.specs.Events.{who, arg, val, is_number, natural, register_given, byte_given, reports, measures, writes, reads, restarts}

-- the accepted events, the newest first
abbrev pub Taken : Type 0
Taken = List Event

-- whether there was a power
unfoldable pub powered : Taken → Bool
powered [] = false
powered (e ∷ d) = is_kind kind.Power e || powered d

-- the own address, of the last power
unfoldable pub own_address : Taken → ℕ
own_address [] = 0
own_address (e ∷ d) = cond (is_kind kind.Power e) (natural (who e)) (own_address d)

-- tach counts: a count is stored in the fan's speed register
abbrev pub counts : (address : ℕ) → Event → Bool
counts a e = (eqb a (speed_at One) && measures One e) || (eqb a (speed_at Two) && measures Two e)

-- the byte stored at an address: its byte after power; what is written, read-only bits keeping theirs; a fan's count
unfoldable pub stored_at : (address : ℕ) → Taken → ℕ
stored_at a [] = 0
stored_at a (e ∷ d) =
    cond (restarts e) (reset_at a)
    (cond (writes a e) (merged_of (mask_at a) (stored_at a d) (byte_given e))
    (cond (counts a e) (byte_given e) (stored_at a d)))

-- the pointer: 0 after power; a write that is done sets it too, so that it is 1 after a software reset
unfoldable pub pointer : Taken → ℕ
pointer [] = 0
pointer (e ∷ d) = cond (is_kind kind.Power e) 0 (cond (is_kind kind.Write e || is_kind kind.Point e) (register_given e) (pointer d))

-- the pin from outside: high after power; a software reset leaves it (temperatures 9)
unfoldable pub pin_low : Taken → Bool
pin_low [] = false
pin_low (e ∷ d) = cond (is_kind kind.Power e) false (cond (is_kind kind.Pin e) (is_number (val e) 0) (pin_low d))

-- temperatures 5 and 9, T-05: a diode error comes from power or from a report on the diode, and stands until the next of these; a reset leaves it
abbrev pub error_given : ChannelId → Event → Bool
error_given Local e = false
error_given Remote1 e = is_number (arg e) 1
error_given Remote2 e = is_number (val e) 1

unfoldable pub diode_error : ChannelId → Taken → Bool
diode_error c [] = false
diode_error c (e ∷ d) = cond (is_kind kind.Power e) (error_given c e) (cond (reports c e) (is_number (val e) 1) (diode_error c d))

-- temperatures 6: bit 7 of 0x03 is set when the pin goes from high to low
unfoldable pub pulled_bit : Taken → Bool
pulled_bit [] = false
pulled_bit (e ∷ d) =
    cond (is_kind kind.Pin e && (is_number (val e) 0 && not (pin_low d))) true
    (cond (restarts e || reads (status_at Two) (pointer d) e) false (pulled_bit d))
