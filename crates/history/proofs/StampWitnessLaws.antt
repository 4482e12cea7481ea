-- The witnesses of T-07: the short lists computed, the long one by what holds of so many clocks. Assumes nothing.
use Prim.Native.Nat.{ℕ, zero, suc, ◌+◌, ◌%◌}
use mathlib.Core.Path.{◌≡◌, refl, sym, ap, ◌∙◌}
use mathlib.Core.Bool.{true, true≢false}
use mathlib.Core.List.{◌∷◌, ◌++◌}
use native.Mathlib.Omega.{arith}
use lib.IntN.{pos}
use Rattle.integer.specs.Bits.{merged_of}
use Rattle.integer.proofs.BoolLaws.{by_cases}
use Rattle.part.specs.declared.FanId.{FanId}
use Rattle.part.specs.declared.FanId.TheVariants.{One, Two}
use Rattle.part.specs.declared.ChannelId.TheVariants.{Local}
use Rattle.event.specs.Kinds.{is_kind}
use Rattle.std.specs.Prelude.{Ok}
use Rattle.event.specs.declared.Kind.TheVariants as kind
use Rattle.rules.specs.Registers.{config2, says, table, exists_at, mask_at, reset_at, read_only_at}
use Rattle.rules.specs.Events.{ranges_of}
use Rattle.rules.specs.Stored.{Taken, powered, own_address, stored_at, pin_low, diode_error}
use Rattle.rules.specs.Replies.{lowest, reply_to, History, taken}
use Rattle.rules.specs.Offsets.{measured_z}
use Rattle.rules.specs.Temperatures.{temperature, latch, therm_asserted}
use Rattle.rules.specs.Targets.{range_of, flag, demand, assigned_by, target_of, target, overridden}
use Rattle.rules.specs.Duties.{rate_of, spin_up_of, nearer, duty_after, spin_after, spin, duty}
use Rattle.rules.specs.Shows.{shown}
use Rattle.rules.specs.Stamps.{clocks, stamp, sets_stamp, fan_stamp, age, age_for}
use Rattle.rules.specs.PageWords.{write, sampled, tenth, Accepted, reply_number}
use Rattle.rules.specs.PageReplies.{power_on}
use Rattle.rules.specs.PageStamps.{stamp_out, aged_fan, tenths_in, Unpowered, NoStart, NoStarts, AgeSince}
use Rattle.rules.proofs.TakenLaws.{accepted_is}
use Rattle.rules.proofs.CalmLaws.{Untouched, untouched, error_same, target_same, override_same}
use Rattle.rules.proofs.FanWordsLaws.{duty_is}
use Rattle.rules.proofs.SoundLaws.{wanted, sound}
use Rattle.rules.proofs.StampLaws.{counts_on, stays_on}
use Rattle.rules.proofs.PageRepliesLaws.{page_replies}
use Rattle.rules.proofs.PageStampsLaws.{page_stamps}
use Rattle.history.specs.ReasonWitness.{powered44}
use Rattle.history.specs.StampWitness.{Dated, tenths, started_late, ran_on, stopped1, again1, reset_then, power_then, long_run, StampWitness}
use Rattle.history.proofs.Agree.{agreement}
use Rattle.history.proofs.MovingTargetLaws.{shown_is}

-- ---- a clock starts no fan

module _ (f : FanId) (d : Taken) where
  abbrev u : Untouched tenth d
  u = untouched tenth d refl refl refl refl

  wanted_same : wanted f (tenth ∷ d) ≡ wanted f d
  wanted_same = rw (u.byte config2 refl, target_same tenth d u (error_same tenth d refl refl) f, override_same tenth d u)

  still : (spin f d).duty ≡ 0 → (spin f (tenth ∷ d)).duty ≡ 0
  still z =
      by_cases (wanted f d)
      (λ y. absurd (omega (arith, (sound f d).turning y)))
      (λ n. (sound f (tenth ∷ d)).at_rest_lem (wanted_same ∙ n))

no_start : (f : FanId) (g : History) → Accepted tenth g → NoStart f tenth g
no_start f g go =
    record {
      no_power = refl;
      no_reset = λ w b q. absurd (true≢false (ap (is_kind kind.Clock) q));
      still = λ z.
          duty_is (tenth ∷ g) (tenth ∷ taken g) (accepted_is tenth g go) f ∙ still f (taken g) (sym (duty_is g (taken g) refl f) ∙ z);
    }

-- ---- so many clocks, with power

no_starts : (f : FanId) (n : ℕ) (h : History) → NoStarts f (tenths n) h
unfolding tenths NoStarts
no_starts f zero h = tt
no_starts f (suc n) h = (no_starts f n h, no_start f (tenths n ++ h))

no_powers : (n : ℕ) (h : History) → Unpowered (tenths n) h
unfolding tenths Unpowered
no_powers zero h = tt
no_powers (suc n) h = (no_powers n h, λ go. refl)

module _ (h : History) (on : power_on h ≡ true) where
  done : (n : ℕ) → reply_number tenth (tenths n ++ h) ≡ 0
  done n = (page_replies (tenths n ++ h)).clocks (pos 0) (pos 0) (pos 0) ∙ rw (stays_on (tenths n) h on)

  all_count : (n : ℕ) → tenths_in (tenths n) h ≡ n
  unfolding tenths tenths_in
  all_count zero = refl
  all_count (suc n) = rw (done n, all_count n)

  long_stamp : (n : ℕ) → stamp_out (tenths n ++ h) ≡ (clocks (taken h) + n) % 65536
  unfolding stamp
  long_stamp n = rw (counts_on (tenths n) h (no_powers n h), all_count n)

  long_age : (f : FanId) (n : ℕ) → AgeSince f h → aged_fan f (tenths n ++ h) ≡ Ok (n % 65536)
  long_age f n since = since.modulo (tenths n) (no_starts f n h) ∙ rw (all_count n)

-- ---- the witnesses

dated : (h : History) {now one two : ℕ} → stamp (taken h) ≡ now → aged_fan One h ≡ Ok one → aged_fan Two h ≡ Ok two → Dated h now one two
dated h p q r = record { stamp = (agreement h).stamp ∙ p; fan1 = (agreement h).age (pos 1) ∙ q; fan2 = (agreement h).age (pos 2) ∙ r }

-- the list before the sample that starts both fans
abbrev waiting : History
waiting = write (pos 44) (pos 0x00) (pos 0xF1) ∷ tenth ∷ tenth ∷ tenth ∷ powered44

since_start : (f : FanId) → AgeSince f started_late
unfolding taken reply_to lowest ranges_of exists_at read_only_at mask_at reset_at says table powered own_address stored_at pin_low temperature latch
    therm_asserted diode_error flag demand assigned_by target_of target overridden rate_of spin_up_of nearer duty_after spin_after spin duty merged_of
    range_of measured_z shown
since_start One = (page_stamps waiting).started One (sampled Local (pos 320)) refl (omega arith)
since_start Two = (page_stamps waiting).started Two (sampled Local (pos 320)) refl (omega arith)

late_on : power_on started_late ≡ true
unfolding taken reply_to lowest ranges_of exists_at read_only_at mask_at reset_at says table powered own_address stored_at diode_error merged_of
late_on = refl

late_clocks : clocks (taken started_late) ≡ 3
unfolding taken reply_to lowest ranges_of exists_at read_only_at mask_at reset_at says table powered own_address stored_at diode_error merged_of clocks
late_clocks = refl

long : Dated long_run 8 5 5
long =
    dated long_run
    (long_stamp started_late late_on 65541 ∙ rw late_clocks (omega arith))
    (long_age started_late late_on One 65541 (since_start One) ∙ ap Ok (omega arith))
    (long_age started_late late_on Two 65541 (since_start Two) ∙ ap Ok (omega arith))

pub stamp_witness : StampWitness
unfolding taken reply_to lowest ranges_of exists_at read_only_at mask_at reset_at says table powered own_address stored_at pin_low temperature latch
    therm_asserted diode_error flag demand assigned_by target_of target overridden rate_of spin_up_of nearer duty_after spin_after spin duty merged_of
    range_of measured_z clocks stamp sets_stamp fan_stamp age age_for
stamp_witness =
    record {
      starts = dated started_late refl refl refl;
      on = dated ran_on refl refl refl;
      spinning = shown_is One started_late;
      turning = shown_is One ran_on;
      still = dated stopped1 refl refl refl;
      rests = shown_is One stopped1;
      again = dated again1 refl refl refl;
      reset = dated reset_then refl refl refl;
      power = dated power_then refl refl refl;
      broken = shown_is One power_then;
      wraps = long;
      count = all_count started_late late_on 65541;
    }
