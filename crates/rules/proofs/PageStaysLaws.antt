-- The page, what an event leaves as it was: every sentence holds after every list of events. Assumes nothing.
use Prim.Native.Nat.{ℕ}
use mathlib.Core.Path.{◌≡◌, refl, sym, ap, ◌∙◌}
use mathlib.Core.Bool.{Bool, true, false, not, ◌&&◌, ◌||◌, and-false, true≢false}
use mathlib.Core.List.{◌∷◌}
use lib.Dec.{eqb}
use lib.IntN.{ℤ, pos}
use borrow.Author.Tests.{eqb-true, le-ltb}
use Rattle.integer.proofs.BoolLaws.{by_cases, neither}
use Rattle.part.specs.declared.ChannelId.{ChannelId}
use Rattle.part.specs.declared.ChannelId.TheVariants.{Local, Remote1, Remote2}
use Rattle.part.specs.declared.FanId.{FanId}
use Rattle.part.specs.declared.FanId.TheVariants.{One, Two}
use Rattle.event.specs.Kinds.{kind_of, place_of, is_kind}
use Rattle.event.specs.declared.Event.{Event}
use Rattle.event.specs.declared.Kind.{Kind}
use Rattle.event.specs.declared.Kind.TheVariants as kind
use Rattle.rules.specs.Registers.{extended, value_at}
use Rattle.rules.specs.Events.{measures, samples, restarts}
use Rattle.rules.specs.Stored.{Taken, powered, own_address}
use Rattle.rules.specs.Replies.{History, taken}
use Rattle.rules.specs.Temperatures.{temperature}
use Rattle.rules.specs.Duties.{judged, failed}
use Rattle.rules.specs.Shows.{value}
use Rattle.rules.specs.PageWords.{power, write, pin, sampled, Accepted, register, duty_out, by_channel, by_fan, alarm_status, fault_status}
use Rattle.rules.specs.PageTemperatures.{reset}
use Rattle.rules.specs.PageDuties.{clocks_left, failure_run}
use Rattle.rules.specs.PageStays.{alarmed, PageStays}
use Rattle.rules.proofs.TakenLaws.{accepted_is}
use Rattle.rules.proofs.ReplyLaws.{number_is}
use Rattle.rules.proofs.ReplyWords.{register_is}
use Rattle.rules.proofs.QuietLaws.{uncounted}
use Rattle.rules.proofs.OffsetLaws.{figure_is}
use Rattle.rules.proofs.ReadingLaws.{last_reading_lem, rest_same}
use Rattle.rules.proofs.StatusLaws.{high_shown, low_shown, therm_shown, pulled_shown}
use Rattle.rules.proofs.StayLaws.{another, sampled_kind}
use Rattle.rules.proofs.FanWordsLaws.{duty_is, left_is, tach_is, limit_is, alarm_is, fault_is, alarmed_by}
use Rattle.rules.proofs.CalmLaws.{no_restart, byte_same, error_same, untouched}
use Rattle.rules.proofs.KeptLaws.{flag_kept_lem, reading_kept, register_kept, alarm_step, BitsKept, bits_kept, value_kept}
use Rattle.rules.proofs.OrdinaryLaws.{reading_left, high_masked, low_masked, therm_masked, fault_left, pulled_left, run_left, reset_image}
use Rattle.rules.proofs.TachLaws as tach
use Rattle.rules.proofs.TachLaws.{judgeable}
use Rattle.rules.proofs.PageTemperaturesLaws.{enabled_is}
use Rattle.rules.proofs.PageTachLaws.{count, is_tach, own, given, elsewhere, judgeable_by}

-- ---- kinds

-- two numbers that a test tells apart
apart : (test : ℕ → Bool) (n m : ℕ) → test n ≡ true → test m ≡ false → eqb n m ≡ false
apart test n m y q = by_cases (eqb n m) (λ same. absurd (true≢false (sym y ∙ (ap test (eqb-true n m same) ∙ q)))) (λ other. other)

-- the places of point, clock and period
abbrev quiet : ℕ → Bool
quiet place = eqb place 2 || (eqb place 7 || eqb place 8)

idle_kept : (e : Event) (d : Taken) (a : ℕ) → quiet (place_of (kind_of e)) ≡ true → value a (e ∷ d) ≡ value a d
unfolding failed
idle_kept e d a y =
    value_kept e d bits (error_same e d (is_not kind.Power refl) (is_not kind.Diode refl))
    (untouched e d (is_not kind.Power refl) (is_not kind.Write refl) (is_not kind.Sample refl) (is_not kind.Pin refl)) a
    (byte_same e d (is_not kind.Power refl) (is_not kind.Write refl) a (uncounted a e (is_not kind.Tach refl)))
  where
    is_not : (k : Kind) → quiet (place_of k) ≡ false → is_kind k e ≡ false
    is_not k q = apart quiet (place_of (kind_of e)) (place_of k) y q

    bits : BitsKept e d
    bits =
        bits_kept e d (is_not kind.Power refl) (is_not kind.Write refl) (is_not kind.Read refl) (is_not kind.Sample refl) (is_not kind.Pin refl)
        (λ f. rw (is_not kind.Tach refl))

-- a sample shows in 0x06 and in its channel's register alone
unsampled :
    (c x : ChannelId) (t : ℤ) (a : ℕ) → (eqb a 0x06 || eqb a (by_channel 0x0A 0x0B 0x0C c)) ≡ false →
    (samples x (sampled c t) && (eqb a extended || eqb a (value_at x))) ≡ false
unsampled Local Local t a q = q
unsampled Local Remote1 t a q = refl
unsampled Local Remote2 t a q = refl
unsampled Remote1 Local t a q = refl
unsampled Remote1 Remote1 t a q = q
unsampled Remote1 Remote2 t a q = refl
unsampled Remote2 Local t a q = refl
unsampled Remote2 Remote1 t a q = refl
unsampled Remote2 Remote2 t a q = q

-- a count of another fan is none of this one
other_count_lem : (f g : FanId) (n : ℕ) → (f ≡ g → ⊥) → measures f (count g n) ≡ false
other_count_lem One One n ne = absurd (ne refl)
other_count_lem One Two n ne = refl
other_count_lem Two One n ne = refl
other_count_lem Two Two n ne = absurd (ne refl)

-- ---- readings

module _ (d : Taken) (t : ℤ) where
  another_reading : (c other : ChannelId) → (c ≡ other → ⊥) → temperature c (sampled other t ∷ d) ≡ temperature c d
  another_reading c other n =
      reading_kept (sampled other t) d (sampled_kind kind.Power other t) (sampled_kind kind.Write other t) c (another c other t n)

-- ---- after a list of events

module _ (h : History) where
  abbrev d : Taken
  d = taken h

  sampled_kept :
      (c : ChannelId) (t : ℤ) (a : ℕ) → Accepted (sampled c t) h →
      (eqb a 0x02 || (eqb a 0x03 || (eqb a 0x06 || eqb a (by_channel 0x0A 0x0B 0x0C c)))) ≡ false → register a (sampled c t ∷ h) ≡ register a h
  sampled_kept c t a go q =
      let q2 = neither (eqb a 0x02) _ q in
      let q3 = neither (eqb a 0x03) _ q2.1 in
      rw (accepted_is (sampled c t) h go)
      (register_kept (sampled c t) d (sampled_kind kind.Power c t) (sampled_kind kind.Write c t) a (rw (q2.0, q3.0))
      (uncounted a (sampled c t) (sampled_kind kind.Tach c t)) (λ x. unsampled c x t a q3.1))

  alarms :
      (f : FanId) (e : Event) → Accepted e h → restarts e ≡ false → is_kind kind.Read e ≡ false →
      alarm_status f (e ∷ h) ≡ (alarm_status f h || (alarmed f (e ∷ h) && not (alarmed f h)))
  alarms f e go no_restart no_read =
      let q = accepted_is e h go in
      alarm_is (e ∷ h) (e ∷ d) q f
      ∙ (alarm_step f e d no_restart no_read ∙ rw (alarmed_by (e ∷ h) (e ∷ d) q f refl, alarmed_by h d refl f refl, ← alarm_is h d refl f))

  -- what a count of fan g leaves, of the registers and of fan f
  module _ (f g : FanId) (n : ℕ) (go : Accepted (count g n) h) where
    abbrev then : taken (count g n ∷ h) ≡ (count g n ∷ d)
    then = accepted_is (count g n) h go

    kind_of_lem : (k : Kind) → is_kind k (count g n) ≡ eqb 5 (place_of k)
    kind_of_lem k = tach.kind_is (count g n) d (is_tach g n) k

    counted_kept : (a : ℕ) → (eqb a 0x02 || (eqb a 0x03 || eqb a (by_fan 0x08 0x09 g))) ≡ false → register a (count g n ∷ h) ≡ register a h
    counted_kept a q =
        let q2 = neither (eqb a 0x02) _ q in
        let q3 = neither (eqb a 0x03) _ q2.1 in
        rw then
        (register_kept (count g n) d (kind_of_lem kind.Power) (kind_of_lem kind.Write) a (rw (q2.0, q3.0)) (elsewhere g n a q3.1)
        (λ c. rw (kind_of_lem kind.Sample)))

    left_stays : failed f (count g n) d ≡ false → clocks_left f (count g n ∷ h) ≡ clocks_left f h
    left_stays fine = left_is (count g n ∷ h) (count g n ∷ d) then f ∙ tach.left_kept (count g n) d (is_tach g n) f fine

    apart_kept :
        (f ≡ g → ⊥) →
        (failure_run f (count g n ∷ h) ≡ failure_run f h) × (fault_status f (count g n ∷ h) ≡ fault_status f h)
        × (clocks_left f (count g n ∷ h) ≡ clocks_left f h) × (duty_out f (count g n ∷ h) ≡ duty_out f h)
    apart_kept other =
        let fine : failed f (count g n) d ≡ false = tach.failed_is (count g n) d (is_tach g n) f ∙ rw (other_count_lem f g n other) in
        let calm : judged f (count g n) d ≡ false = tach.judged_is (count g n) d (is_tach g n) f ∙ rw (other_count_lem f g n other) in (
          rw then (tach.run_kept (count g n) d (is_tach g n) f fine calm),
          fault_is (count g n ∷ h) (count g n ∷ d) then f ∙ (tach.fault_is (count g n) d (is_tach g n) f ∙ rw fine (sym (fault_is h d refl f))),
          left_stays fine,
          duty_is (count g n ∷ h) (count g n ∷ d) then f ∙ (tach.duty_kept (count g n) d (is_tach g n) f fine ∙ sym (duty_is h d refl f)),
        )

pub page_stays : (h : History) → PageStays h
unfolding powered own_address temperature
page_stays h =
    let d = taken h in
    record {
      accepts = λ e. rw (number_is e h);
      off = (unfold taken in refl);
      on = λ e go. rw (accepted_is e h go);
      address_stays = λ e go no_power. rw (accepted_is e h go, no_power);
      nowhere = λ a none. (unfold value in rw (register_is (pos a) ∙ none));
      idle = λ e a go y. rw (accepted_is e h go) (idle_kept e d a y);
      by_pin = λ v a go q.
          rw (accepted_is (pin (pos 0) (pos 0) v) h go)
          (register_kept (pin (pos 0) (pos 0) v) d refl refl a q (uncounted a (pin (pos 0) (pos 0) v) refl) (λ c. refl));
      by_sample = sampled_kept h;
      by_count = λ f n a go q. counted_kept h f f n go a q;
      rest_by_another = λ c other t n go.
          rw (accepted_is (sampled other t) h go)
          (rest_same c (sampled other t ∷ d) d (another_reading d t c other n));
      status_by_write = λ c w a b go q. let e = write w (pos a) (pos b) in
          rw (
            accepted_is e h go,
            high_shown (e ∷ d) c,
            high_shown d c,
            low_shown (e ∷ d) c,
            low_shown d c,
            therm_shown (e ∷ d) c,
            therm_shown d c,
            enabled_is (e ∷ d) c,
          )
          (high_masked d w a b q c, low_masked d w a b q c, therm_masked d w a b q c);
      fault_by_write = λ f w a b go q. let e = write w (pos a) (pos b) in let then = accepted_is e h go in (
        fault_is (e ∷ h) (e ∷ d) then f ∙ (fault_left d w a b q f ∙ sym (fault_is h d refl f)),
        rw then (pulled_shown (e ∷ d) ∙ (pulled_left d w a b q ∙ sym (pulled_shown d))),
      );
      reset_registers = λ w b a go seven l q. rw (accepted_is (reset w b) h go) (reset_image d w b a seven l q);
      flag_by_another = λ c other t n go.
          rw (accepted_is (sampled other t) h go)
          (flag_kept_lem (sampled other t) d (sampled_kind kind.Power other t) (sampled_kind kind.Write other t) c (another c other t n));
      last_reading = λ c t go. rw (accepted_is (sampled c t) h go) (last_reading_lem d t c ∙ figure_is c t h);
      unread_after_power = λ c w x y go. rw (accepted_is (power w x y) h go);
      unread_after_reset = λ c w b go seven. rw (accepted_is (reset w b) h go, seven);
      reading_stays = λ c e go s no_power no_write. rw (accepted_is e h go) (reading_kept e d no_power no_write c (rw s));
      reading_by_another = λ c other t n go. rw (accepted_is (sampled other t) h go) (another_reading d t c other n);
      reading_by_write = λ c w a b go q. rw (accepted_is (write w (pos a) (pos b)) h go) (reading_left d w a b q c);
      waits_unjudged = λ f n go y.
          left_stays h f f n go (tach.failed_is (count f n) d (is_tach f n) f ∙ rw (own f n, judgeable_by h f y));
      waits_after_good = λ f n go l. let below = le-ltb _ n (rw (limit_is h d refl) at l) in
          left_stays h f f n go
          (tach.failed_is (count f n) d (is_tach f n) f ∙ rw (given f n, below, and-false (measures f (count f n) && judgeable f d)));
      alarm = λ f e go no_power no_write no_read. alarms h f e go (no_restart e d no_power no_write) no_read;
      alarm_by_write = λ f w a b go q. alarms h f (write w (pos a) (pos b)) go (rw q) refl;
      other_count = λ f g n other go. apart_kept h f g n go other;
      run_by_write = λ f w a b go q on. let e = write w (pos a) (pos b) in let then = accepted_is e h go in
          rw then (run_left d w a b q f (sym (tach_is (e ∷ h) (e ∷ d) then f) ∙ on));
    }
