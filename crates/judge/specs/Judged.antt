-- The replies in plain numbers: the tests of the rules, as the code makes them. `Right` holds them to the rules.
use Rattle.std.specs.Prelude.{ℕ, ◌%◌, ◌<◌, ◌≡◌, Bool, cond, not, ◌&&◌, ◌||◌, leb, eqb, get_or, Option, Some, None, Result, Ok, Err}
use Rattle.std.specs.Int.Signed.{non_neg}
use Rattle.part.specs.declared.ChannelId.TheVariants.{Remote1, Remote2}
use Rattle.event.specs.declared.Refusal.{Refusal}
use Rattle.event.specs.declared.Refusal.TheVariants.{NoPower, OtherAddress, NoSuchPart, NoSuchRegister, ReadOnly, OutOfRange, BadRangeCode, OddLocal}
use Rattle.event.specs.declared.Refusal.TheVariants.{NotMonitoring, BrokenDiode}
use Rattle.event.specs.declared.Event.{Event}
use Rattle.event.specs.Kinds.{place_of}
use Rattle.event.specs.declared.Kind.{Kind}
use Rattle.event.specs.declared.Kind.TheVariants as kind
use Rattle.rules.specs.Registers.{exists_at, read_only_at}
use Rattle.rules.specs.Fields.{range_code}
use Rattle.rules.specs.Events.{natural, Ranges, ranges, unused, carried}
use Rattle.rules.specs.Replies.{lowest}
use Rattle.input.specs.Inputs.{is_a, byte_in, is_sample, input_of}
use Rattle.input.specs.declared.Input.{Input}
use Rattle.judge.specs.declared.PlainRanges.{PlainRanges}
use Rattle.judge.specs.declared.Standing.{Standing}

-- who from a low to a high end, arg and val from 0 to theirs; a signed val, which is a sample's, is judged as a sample
abbrev pub plain_ranges : Ranges → PlainRanges
plain_ranges r =
    record {
      low = natural r.who.low;
      high = natural r.who.high;
      arg = natural r.arg.high;
      val = cond (non_neg r.val.low) (natural r.val.high) 2147483648;
      sample = cond (non_neg r.val.low) 2048 2047;
    }

-- what is no kind carries nothing
unfoldable pub row_of : Option Kind → PlainRanges
row_of None = plain_ranges (ranges unused unused unused)
row_of (Some k) = plain_ranges (get_or carried (place_of k) (ranges unused unused unused))

abbrev pub fits_row : PlainRanges → Input → Bool
fits_row r i =
    (leb r.low i.who && leb i.who r.high)
    && (leb i.arg r.arg && (leb i.val r.val && leb i.sample r.sample))

-- ---- when each number applies

abbrev pub no_power_in : Standing → Input → Bool
no_power_in s i = not s.on && not (is_a kind.Power i)

abbrev pub other_address_in : Standing → Input → Bool
other_address_in s i =
    (is_a kind.Write i || (is_a kind.Point i || (is_a kind.Read i || is_a kind.Alert i))) && not (eqb i.who s.address)

abbrev pub no_part_in : Input → Bool
no_part_in i =
    (is_a kind.Sample i && not (leb i.who 2))
    || ((is_a kind.Tach i || (is_a kind.Period i || is_a kind.Diode i)) && not (leb 1 i.who && leb i.who 2))

abbrev pub no_register_in : Input → Bool
no_register_in i = (is_a kind.Write i || is_a kind.Point i) && not (leb i.arg 255 && exists_at (i.arg % 256))

abbrev pub read_only_in : Input → Bool
read_only_in i = is_a kind.Write i && read_only_at (i.arg % 256)

abbrev pub out_of_range_in : Input → Bool
out_of_range_in i = not (fits_row (row_of i.kind) i)

abbrev pub bad_code_in : Input → Bool
bad_code_in i = is_a kind.Write i && ((leb 0x24 i.arg && leb i.arg 0x26) && leb 5 (range_code (byte_in i)))

abbrev pub odd_local_in : Input → Bool
odd_local_in i = is_a kind.Sample i && (eqb i.who 0 && eqb (i.sample % 2) 1)

abbrev pub not_monitoring_in : Standing → Input → Bool
not_monitoring_in s i = (is_a kind.Sample i || is_a kind.Tach i) && not s.monitoring

abbrev pub broken_diode_in : Standing → Input → Bool
broken_diode_in s i = (is_sample Remote1 i && s.error1) || (is_sample Remote2 i && s.error2)

-- the lowest that applies
unfoldable pub lowest_in : Standing → Input → Result ℕ Refusal
lowest_in s i =
    cond (no_power_in s i) (Err NoPower)
    (cond (other_address_in s i) (Err OtherAddress)
    (cond (no_part_in i) (Err NoSuchPart)
    (cond (no_register_in i) (Err NoSuchRegister)
    (cond (read_only_in i) (Err ReadOnly)
    (cond (out_of_range_in i) (Err OutOfRange)
    (cond (bad_code_in i) (Err BadRangeCode)
    (cond (odd_local_in i) (Err OddLocal)
    (cond (not_monitoring_in s i) (Err NotMonitoring)
    (cond (broken_diode_in s i) (Err BrokenDiode) (Ok 0))))))))))

-- the reply is that of the rules, for every event with every number; an address is a byte
abbrev pub Right : Type 0
Right =
    (s : Standing) (e : Event) → s.address < 256 →
    lowest_in s (input_of e) ≡ lowest s.on s.address s.monitoring s.error1 s.error2 e
