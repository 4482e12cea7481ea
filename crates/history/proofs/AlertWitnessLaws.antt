-- The witnesses of T-02, computed. Assumes nothing.
use Prim.Native.Nat.{ℕ, suc, zero, ◌<◌, ◌≤◌}
use mathlib.Core.Path.{◌≡◌, refl, sym, ap}
use mathlib.Core.Bool.{Bool, true, not, ◌&&◌, ◌||◌, true≢false}
use mathlib.Core.List.{List, [], ◌∷◌, ◌++◌}
use native.Mathlib.Omega.{arith}
use lib.IntN.{pos}
use borrow.Author.Tests.{not-true}
use Rattle.integer.proofs.BoolLaws.{both}
use Rattle.event.specs.declared.Event.{Event}
use Rattle.event.specs.declared.Shown.{Shown}
use Rattle.integer.specs.Bits.{packed, merged_of}
use Rattle.rules.specs.Registers.{says, table, exists_at, mask_at, reset_at, read_only_at}
use Rattle.rules.specs.Events.{ranges_of, restarts}
use Rattle.rules.specs.Stored.{powered, own_address, stored_at, pointer, pin_low, diode_error, pulled_bit}
use Rattle.rules.specs.Replies.{lowest, reply_to, History, taken, accepted}
use Rattle.rules.specs.Offsets.{measured_z}
use Rattle.rules.specs.Temperatures.{latch, therm_asserted, high_bit, low_bit, therm_bit}
use Rattle.rules.specs.Targets.{overridden}
use Rattle.rules.specs.Duties.{at_alarm, alarm_bit, failed, fault_bit}
use Rattle.rules.specs.Shows.{status, byte_at, value, pending, int_due, some_risen, raises, silenced, int_asserted, shown}
use Rattle.rules.specs.AlertRow.{outside_in, has_address, twice_in, asserts_in, lowest_asserting, row_answer, row_after}
use Rattle.rules.specs.PageAlerts.{alerted, AllQuiet, Unanswered}
use Rattle.rules.specs.PageAlertRow.{address_at, asserts_at, AllInside, AllDifferent, Lowest}
use Rattle.rules.proofs.IntLaws.{quiet_by}
use Rattle.history.specs.AlertWitness.{shown_int, watching, hot, quiet, read_away, silent, line, AlertWitness}
use Rattle.history.proofs.Agree.{agreement}

-- what the program shows is what the rules say
pub int_is : (h : History) → shown_int h ≡ (shown (taken h)).int
int_is h = ap (λ (s : Shown). s.int) (agreement h).shows

-- a list of quiet events by one test that computes
quiets : List Event → History → Bool
quiets [] h = true
quiets (e ∷ t) h = quiets t h && (not (accepted e (t ++ h)) || (not (restarts e) && not (raises e (taken (t ++ h)))))

all_quiet : (t : List Event) (h : History) → quiets t h ≡ true → AllQuiet t h
unfolding quiets AllQuiet
all_quiet [] h y = tt
all_quiet (e ∷ t) h y =
    let p = both (quiets t h) _ y in
    (all_quiet t h p.0, λ go. let q = both (not (restarts e)) _ (rw go at p.1) in quiet_by e (t ++ h) go (not-true _ q.0) (not-true _ q.1))

-- the row, place by place
inside : AllInside line
inside zero l = (omega arith, omega arith)
inside (suc zero) l = (omega arith, omega arith)
inside (suc (suc zero)) l = (omega arith, omega arith)
inside (suc (suc (suc i))) l = absurd (omega arith)

different : AllDifferent line
different i zero o l q = absurd (omega arith)
different zero (suc zero) o l q = absurd (omega arith)
different (suc i) (suc zero) o l q = absurd (omega arith)
different zero (suc (suc zero)) o l q = absurd (omega arith)
different (suc zero) (suc (suc zero)) o l q = absurd (omega arith)
different (suc (suc i)) (suc (suc zero)) o l q = absurd (omega arith)
different i (suc (suc (suc j))) o l q = absurd (omega arith)

lowest_here : Lowest 2 line
lowest_here = (refl, below)
  where
    below : (j : ℕ) → j < 3 → asserts_at j line ≡ true → 45 ≤ address_at j line
    below zero l y = omega arith
    below (suc zero) l y = absurd (true≢false (sym y))
    below (suc (suc zero)) l y = omega arith
    below (suc (suc (suc j))) l y = absurd (omega arith)

pub alert_witness : AlertWitness
unfolding quiets Unanswered taken reply_to lowest ranges_of exists_at read_only_at mask_at reset_at says table powered own_address stored_at pointer pin_low
    diode_error pulled_bit measured_z latch therm_asserted high_bit low_bit therm_bit overridden at_alarm alarm_bit failed fault_bit status byte_at value
    pending int_due some_risen silenced int_asserted shown packed merged_of outside_in has_address twice_in asserts_in lowest_asserting row_answer row_after
alert_witness =
    record {
      early = ((((tt, λ y go. refl), λ y go. refl), λ y go. refl), λ y go. refl);
      asserted = int_is (hot ∷ watching);
      goes = refl;
      let_go = int_is (alerted (pos 44) ∷ hot ∷ watching);
      stays = all_quiet (read_away ++ quiet) (alerted (pos 44) ∷ hot ∷ watching) refl;
      still = int_is silent;
      set = refl;
      gone = refl;
      again = refl;
      back = int_is (hot ∷ (read_away ++ silent));
      inside = inside;
      different = different;
      lowest = lowest_here;
      found = (refl, refl);
      left = refl;
    }
