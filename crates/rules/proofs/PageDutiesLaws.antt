-- The page, "Duty in slots": every sentence holds after every list of events. Assumes nothing.
use Prim.Native.Nat.{ℕ, ◌*◌, ◌<◌, ◌≤◌}
use mathlib.Core.Path.{◌≡◌, refl, sym, ap, ◌∙◌}
use mathlib.Core.Bool.{Bool, true, false, cond, ◌&&◌, ◌||◌, and-false}
use mathlib.Core.List.{◌∷◌}
use native.Mathlib.Omega.{arith}
use lib.Dec.{eqb}
use lib.IntN.{ℤ, pos}
use Rattle.integer.proofs.BoolLaws.{by_cases, either}
use Rattle.integer.specs.Bits.{flag_of}
use Rattle.part.specs.declared.ChannelId.{ChannelId}
use Rattle.part.specs.declared.ChannelId.TheVariants.{Local, Remote1, Remote2}
use Rattle.part.specs.declared.FanId.{FanId}
use Rattle.part.specs.declared.FanId.TheVariants.{One, Two}
use Rattle.event.specs.Kinds.{is_kind}
use Rattle.event.specs.declared.Event.{Event}
use Rattle.event.specs.declared.Kind.TheVariants as kind
use Rattle.rules.specs.Registers.{config1, speeds, control_at, exists_at}
use Rattle.rules.specs.Fields.{assignment, automatic, speed_code}
use Rattle.rules.specs.Events.{periods, restarts}
use Rattle.rules.specs.Stored.{Taken, stored_at, pin_low, diode_error}
use Rattle.rules.specs.Replies.{History, taken}
use Rattle.rules.specs.Offsets.{measured}
use Rattle.rules.specs.Temperatures.{hysteresis}
use Rattle.rules.specs.Targets.{tmin_of, flag, demand, assigned_by, demand_if, target_of, target, overridden}
use Rattle.rules.specs.Duties.{enabled, filtered, rate, nearer, left, spin, at_alarm, alarm_bit}
use Rattle.rules.specs.Shows.{byte_at, value, shown}
use Rattle.rules.specs.PageWords.{write, sampled, turned, tenth, Accepted, bit, out, duty_out, output_bit, filter_bit, tmin_figure, rate_figure, control}
use Rattle.rules.specs.PageWords.{reading_figure}
use Rattle.rules.specs.PageDuties.{running, aim, clocks_left, forced, PageDuties}
use Rattle.rules.proofs.TakenLaws.{accepted_is}
use Rattle.rules.proofs.OffsetLaws.{figure_is}
use Rattle.rules.proofs.FanWordsLaws.{duty_is, left_is, alarm_is, spin_up_is, rate_is, minimum_is, control_is, demanded_is, assigned_is, enabled_by}
use Rattle.rules.proofs.FanWordsLaws.{filtered_by, turning_by, wanted_by, alarmed_by}
use Rattle.rules.proofs.CalmLaws.{no_restart, flag_same}
use Rattle.rules.proofs.OrdinaryLaws.{flag_left}
use Rattle.rules.proofs.SoundLaws.{nearer_is, sound}
use Rattle.rules.proofs.TurnLaws.{fresh_start, left_step, free_step, aim_by_kind, filter_step, turns_on}

-- ---- 1: run flags

flag_sampled :
    (c : ChannelId) (t : ℤ) (d : Taken) →
    flag c (sampled c t ∷ d) ≡ hysteresis (flag c d) (pos (tmin_of (stored_at (control_at c) d))) (measured c (sampled c t) d)
unfolding flag stored_at
flag_sampled Local t d = refl
flag_sampled Remote1 t d = refl
flag_sampled Remote2 t d = refl

-- ---- 3: targets

module _ (f : FanId) (d : Taken) (auto : automatic (stored_at config1 d) ≡ true) where
  abbrev given : ChannelId → Bool
  given c = assigned_by (assignment (stored_at config1 d)) f c

  at_least : (c : ChannelId) → given c ≡ true → demand f c d ≤ target f d
  unfolding target target_of
  at_least Local y = rw (auto, y) (omega arith)
  at_least Remote1 y = rw (auto, y) (omega arith)
  at_least Remote2 y = rw (auto, y) (omega arith)

  at_most : (bound : ℕ) → ((c : ChannelId) → given c ≡ true → demand f c d ≤ bound) → target f d ≤ bound
  unfolding target target_of
  at_most bound all = rw auto (omega (arith, counts Local, counts Remote1, counts Remote2))
    where
      counts : (c : ChannelId) → demand_if (given c) (demand f c d) ≤ bound
      counts c = by_cases (given c) (λ y. rw y (all c y)) (λ n. rw n (omega arith))

-- no demand is above 240 slots
pub demand_small : (f : FanId) (c : ChannelId) (d : Taken) → demand f c d ≤ 240
unfolding demand
demand_small f c d = either (λ x. x ≤ 240) (diode_error c d) (omega arith) (either (λ x. x ≤ 240) (flag c d) (omega arith) (omega arith))

set_by_hand : (f : FanId) (d : Taken) → automatic (stored_at config1 d) ≡ false → target f d ≡ 16 * speed_code f (stored_at speeds d)
unfolding target target_of
set_by_hand f d off = rw off

flag_one : (b : Bool) → eqb (flag_of b) 1 ≡ b
flag_one true = refl
flag_one false = refl

-- ---- 7: alarm bits

module _ (f : FanId) (e : Event) (d : Taken) where
  alarm_set : at_alarm f d ≡ false → at_alarm f (e ∷ d) ≡ true → alarm_bit f (e ∷ d) ≡ true
  unfolding alarm_bit
  alarm_set off on = rw (on, off) (by_cases (restarts e) (λ r. rw r) (λ r. rw r))

  alarm_kept : is_kind kind.Power e ≡ false → is_kind kind.Write e ≡ false → is_kind kind.Read e ≡ false → at_alarm f d ≡ true →
      alarm_bit f (e ∷ d) ≡ alarm_bit f d
  unfolding alarm_bit
  alarm_kept no_power no_write no_read on = rw (no_power, no_write, no_read, on, and-false)

-- ---- periods and clocks

-- a period moves a filtered fan by the rate if it is the fan's own
turned_step :
    (f g : FanId) (d : Taken) → enabled f d ≡ true → overridden d ≡ false → 0 < target f d → left (spin f (turned g ∷ d)) ≡ 0 → filtered f d ≡ true →
    (spin f (turned g ∷ d)).duty ≡ cond (periods f (turned g)) (nearer (rate d) (target f d) (spin f d).duty) (spin f d).duty
turned_step f One d = filter_step f (turned One) d (aim_by_kind f (turned One) d refl refl refl refl refl)
turned_step f Two d = filter_step f (turned Two) d (aim_by_kind f (turned Two) d refl refl refl refl refl)

own_period : (f : FanId) → periods f (turned f) ≡ true
own_period One = refl
own_period Two = refl

other_period : (f g : FanId) → (f ≡ g → ⊥) → periods f (turned g) ≡ false
other_period One One n = absurd (n refl)
other_period One Two n = refl
other_period Two One n = refl
other_period Two Two n = absurd (n refl)

module _ (h : History) where
  abbrev d : Taken
  d = taken h

  sampled_is :
      (c : ChannelId) (t : ℤ) → Accepted (sampled c t) h →
      running c (sampled c t ∷ h) ≡ hysteresis (running c h) (pos (tmin_figure (control c h))) (reading_figure c t h)
  sampled_is c t go =
      rw (accepted_is (sampled c t) h go)
      (flag_sampled c t d
      ∙ (ap (λ (n : ℕ). hysteresis (flag c d) (pos (tmin_of n)) (measured c (sampled c t) d)) (sym (control_is h d refl c))
      ∙ ap (λ (v : ℤ). hysteresis (flag c d) (pos (tmin_figure (control c h))) v) (figure_is c t h)))

  override_is : forced h ≡ (pin_low (taken h) || (bit 0x3F 7 h && eqb (out h).therm 1))
  unfolding overridden value byte_at exists_at shown
  override_is = rw flag_one

  automatic_by : {b : Bool} → bit 0x00 7 h ≡ b → automatic (stored_at config1 d) ≡ b
  unfolding value byte_at exists_at
  automatic_by q = q

  duty_now : (f : FanId) → duty_out f h ≡ (spin f d).duty
  duty_now f = duty_is h d refl f

  turned_is :
      (f g : FanId) → Accepted (turned g) h → output_bit f h ≡ true → forced h ≡ false → 0 < aim f h → clocks_left f (turned g ∷ h) ≡ 0 →
      filter_bit f h ≡ true →
      duty_out f (turned g ∷ h) ≡ cond (periods f (turned g)) (nearer (rate_figure h) (aim f h) (duty_out f h)) (duty_out f h)
  turned_is f g go on free up z p =
      let q = accepted_is (turned g) h go in
      duty_is (turned g ∷ h) (turned g ∷ d) q f
      ∙ (turned_step f g d (enabled_by h d refl f on) free up (rw q at z) (filtered_by h d refl f p) ∙ rw (← rate_is h d refl, ← duty_now f))

pub page_duties : (h : History) → PageDuties h
page_duties h =
    let d = taken h in
    record {
      flag_on = λ c t go y. sampled_is h c t go ∙ rw y;
      flag_off = λ c t go n y. sampled_is h c t go ∙ rw (n, y);
      flag_kept = λ c t go n m. sampled_is h c t go ∙ rw (n, m);
      flag_stays = λ c e go no-sample no_power no_write. rw (accepted_is e h go, flag_same e d no_power no_write no-sample c);
      flag_by_write = λ c w a b go q. rw (accepted_is (write w (pos a) (pos b)) h go) (flag_left d w a b q c);
      largest = λ f c auto y. rw (demanded_is h d refl) (at_least f d (automatic_by h auto) c (sym (assigned_is h d refl f c) ∙ y));
      nothing = λ f bound auto all. at_most f d (automatic_by h auto) bound (λ c y. rw (demanded_is h d refl) at (all c (assigned_is h d refl f c ∙ y)));
      manual = λ f off. set_by_hand f d (automatic_by h off) ∙ rw (minimum_is h d refl);
      override = override_is h;
      disabled = λ f off. duty_now h f ∙ (sound f d).at_rest_lem (rw (enabled_by h d refl f off));
      full = λ f on over. duty_now h f ∙ (sound f d).at_full (enabled_by h d refl f on) over;
      none = λ f on free z. duty_now h f ∙ (sound f d).at_rest_lem (rw (z, free, and-false));
      spinning = λ f on free up l. duty_now h f ∙ (sound f d).spinning (enabled_by h d refl f on) free up l;
      unfiltered = λ f on free up z p. duty_now h f ∙ (sound f d).at_target (enabled_by h d refl f on) free up z (filtered_by h d refl f p);
      still = λ f e go no-period no_power no_write on free up z p. let q = accepted_is e h go in
          duty_is (e ∷ h) (e ∷ d) q f
          ∙ (free_step f e d (no_restart e d no_power no_write) (enabled_by (e ∷ h) (e ∷ d) q f on) (rw q at free) (rw q at up) (rw q at z)
          ∙ rw (filtered_by (e ∷ h) (e ∷ d) q f p, no-period) (sym (duty_now h f)));
      still_by_write = λ f w a b go fine on free up z p. let e = write w (pos a) (pos b) in let q = accepted_is e h go in
          duty_is (e ∷ h) (e ∷ d) q f
          ∙ (free_step f e d (rw fine) (enabled_by (e ∷ h) (e ∷ d) q f on) (rw q at free) (rw q at up) (rw q at z)
          ∙ rw (filtered_by (e ∷ h) (e ∷ d) q f p) (sym (duty_now h f)));
      upward = λ f go on free up z p le. turned_is h f f go on free up z p ∙ rw (own_period f, nearer_is) (omega arith);
      downward = λ f go on free up z p le. turned_is h f f go on free up z p ∙ rw (own_period f, nearer_is) (omega arith);
      other_fan = λ f g n go on free up z p. turned_is h f g go on free up z p ∙ rw (other_period f g n);
      starts = λ f e go z y. let q = accepted_is e h go in
          left_is (e ∷ h) (e ∷ d) q f
          ∙ (fresh_start f e d (wanted_by (e ∷ h) (e ∷ d) q f y) (sym (duty_now h f) ∙ z) ∙ sym (spin_up_is (e ∷ h) (e ∷ d) q f));
      ticks = λ f go on. let was = turning_by h d refl f on in
          left_is (tenth ∷ h) (tenth ∷ d) (accepted_is tenth h go) f
          ∙ left_step f tenth d refl refl was (turns_on f tenth d (aim_by_kind f tenth d refl refl refl refl refl) was);
      waits = λ f e go no-clock no-tach no_power no_write was on. let q = accepted_is e h go in
          left_is (e ∷ h) (e ∷ d) q f
          ∙ (left_step f e d (no_restart e d no_power no_write) (rw no-tach) (turning_by h d refl f was) (turning_by (e ∷ h) (e ∷ d) q f on)
          ∙ rw no-clock (omega arith));
      waits_by_write = λ f w a b go fine was on. let e = write w (pos a) (pos b) in let q = accepted_is e h go in
          left_is (e ∷ h) (e ∷ d) q f
          ∙ (left_step f e d (rw fine) refl (turning_by h d refl f was) (turning_by (e ∷ h) (e ∷ d) q f on) ∙ omega arith);
      ends = λ f z. (sound f d).idle (sym (duty_now h f) ∙ z);
      alarms = λ f e go off on. let q = accepted_is e h go in
          alarm_is (e ∷ h) (e ∷ d) q f ∙ alarm_set f e d (alarmed_by h d refl f off) (alarmed_by (e ∷ h) (e ∷ d) q f on);
      stays_alarmed = λ f e go no_power no_write no_read on.
          alarm_is (e ∷ h) (e ∷ d) (accepted_is e h go) f
          ∙ (alarm_kept f e d no_power no_write no_read (alarmed_by h d refl f on) ∙ sym (alarm_is h d refl f));
    }
