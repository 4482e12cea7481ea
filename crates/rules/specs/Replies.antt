-- Document 01, "The reply numbers": when each applies, that the lowest is given, and so which events are accepted.
use Rattle.std.specs.Prelude.{ℕ, ◌%◌, Bool, false, cond, not, ◌&&◌, ◌||◌, List, [], ◌∷◌, leb, eqb, ℤ, pos, negsuc, Result, Ok, Err}
use Rattle.part.specs.declared.ChannelId.TheVariants.{Remote1, Remote2}
use Rattle.event.specs.Kinds.{is_kind}
use Rattle.event.specs.Answers.{number_of}
use Rattle.event.specs.declared.Refusal.{Refusal}
use Rattle.event.specs.declared.Refusal.TheVariants.{NoPower, OtherAddress, NoSuchPart, NoSuchRegister, ReadOnly, OutOfRange, BadRangeCode, OddLocal}
use Rattle.event.specs.declared.Refusal.TheVariants.{NotMonitoring, BrokenDiode}
use Rattle.event.specs.declared.Event.{Event}
use Rattle.event.specs.declared.Kind.TheVariants as kind
use Rattle.rules.specs.Registers.{config1, exists_at, read_only_at}
use Rattle.rules.specs.Fields.{monitors, range_code}
use Rattle.rules.specs.Events.{who, arg, val, is_number, within, natural, byte_given, Ranges, lies, ranges_of, samples}
use Rattle.rules.specs.Stored.{Taken, powered, own_address, stored_at, diode_error}

-- ---- when each number applies

-- 1: any event but power before the first accepted power
abbrev pub no_power : (on : Bool) → Event → Bool
no_power on e = not on && not (is_kind kind.Power e)

-- 2: write, point, read, alert: not our address
abbrev pub other_address : (own : ℕ) → Event → Bool
other_address own e =
    (is_kind kind.Write e || (is_kind kind.Point e || (is_kind kind.Read e || is_kind kind.Alert e))) && not (is_number (who e) own)

-- 3: no such channel or fan; a report on a diode (T-05) is of a remote channel
abbrev pub no_part : Event → Bool
no_part e =
    (is_kind kind.Sample e && not (within 0 2 (who e)))
    || ((is_kind kind.Tach e || (is_kind kind.Period e || is_kind kind.Diode e)) && not (within 1 2 (who e)))

-- 4: register not in the table
abbrev pub is_register : ℤ → Bool
is_register (pos a) = exists_at a
is_register (negsuc a) = false

abbrev pub no_register : Event → Bool
no_register e = (is_kind kind.Write e || is_kind kind.Point e) && not (is_register (arg e))

-- 5: write to a wholly read-only register
abbrev pub read_only : Event → Bool
read_only e = is_kind kind.Write e && read_only_at (natural (arg e))

-- 6: number out of its range, or an unused one not 0
abbrev pub fits_in : Ranges → Event → Bool
fits_in r e = lies r.who (who e) && (lies r.arg (arg e) && lies r.val (val e))

abbrev pub out_of_range : Event → Bool
out_of_range e = not (fits_in (ranges_of e) e)

-- 7: range code 5 to 7 written to a control register (0x24 to 0x26)
abbrev pub bad_code : Event → Bool
bad_code e = is_kind kind.Write e && (within 0x24 0x26 (arg e) && leb 5 (range_code (byte_given e)))

-- 8: local sample that is odd; -1, which is `negsuc 0`, is odd
abbrev pub is_odd : ℤ → Bool
is_odd (pos n) = eqb (n % 2) 1
is_odd (negsuc n) = eqb (n % 2) 0

abbrev pub odd_local : Event → Bool
odd_local e = is_kind kind.Sample e && (is_number (who e) 0 && is_odd (val e))

-- 9: sample or tach while monitoring is off
abbrev pub not_monitoring : (monitoring : Bool) → Event → Bool
not_monitoring monitoring e = (is_kind kind.Sample e || is_kind kind.Tach e) && not monitoring

-- 13 (T-05): a sample of a channel whose diode is in error
abbrev pub broken_diode : (error1 error2 : Bool) → Event → Bool
broken_diode error1 error2 e = (samples Remote1 e && error1) || (samples Remote2 e && error2)

-- ---- the reply

-- the lowest that applies, in what is asked of the past: power, own address, monitoring, diode errors; a read's data is filled in by what it reads
unfoldable pub lowest : (on : Bool) (own : ℕ) (monitoring error1 error2 : Bool) → Event → Result ℕ Refusal
lowest on own monitoring error1 error2 e =
    cond (no_power on e) (Err NoPower)
    (cond (other_address own e) (Err OtherAddress)
    (cond (no_part e) (Err NoSuchPart)
    (cond (no_register e) (Err NoSuchRegister)
    (cond (read_only e) (Err ReadOnly)
    (cond (out_of_range e) (Err OutOfRange)
    (cond (bad_code e) (Err BadRangeCode)
    (cond (odd_local e) (Err OddLocal)
    (cond (not_monitoring monitoring e) (Err NotMonitoring)
    (cond (broken_diode error1 error2 e) (Err BrokenDiode) (Ok 0))))))))))

-- the reply to the next event after the accepted ones
unfoldable pub reply_to : Event → Taken → Result ℕ Refusal
reply_to e d = lowest (powered d) (own_address d) (monitors (stored_at config1 d)) (diode_error Remote1 d) (diode_error Remote2 d) e

-- an event is accepted where its reply number is 0
abbrev pub accepts : Result ℕ Refusal → Bool
accepts a = eqb (number_of a) 0

-- every event that was given, with any numbers, the newest first; and those of them that were accepted
abbrev pub History : Type 0
History = List Event

unfoldable pub taken : History → Taken
taken [] = []
taken (e ∷ h) = cond (accepts (reply_to e (taken h))) (e ∷ taken h) (taken h)

abbrev pub accepted : Event → History → Bool
accepted e h = accepts (reply_to e (taken h))
