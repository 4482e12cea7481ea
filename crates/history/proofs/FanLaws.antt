-- One accepted event: the fans of the engine move as the rules say. Assumes nothing.
use Prim.Native.Nat.{ℕ, suc, ◌-◌, min}
use mathlib.Core.Path.{◌≡◌, refl, sym, ap}
use mathlib.Core.Bool.{Bool, true, false, cond, ◌||◌}
use mathlib.Core.List.{◌∷◌}
use native.Mathlib.Omega.{arith}
use lib.Dec.{eqb}
use borrow.Author.Tests.{eqb-true}
use Rattle.integer.proofs.BoolLaws.{by_cases, both}
use Rattle.part.specs.declared.ChannelId.{ChannelId}
use Rattle.part.specs.declared.ChannelId.TheVariants.{Local, Remote1, Remote2}
use Rattle.part.specs.declared.FanId.{FanId}
use Rattle.event.specs.Kinds.{is_kind, place_of, kind_of}
use Rattle.event.specs.declared.Event.{Event}
use Rattle.event.specs.declared.Kind.TheVariants as kind
use Rattle.rules.specs.Registers.{speeds, control_at, status_at}
use Rattle.rules.specs.Fields.{speed_code}
use Rattle.rules.specs.Events.{measures, periods, reads, restarts}
use Rattle.rules.specs.Stored.{Taken, stored_at, pointer, pin_low, diode_error}
use Rattle.rules.specs.Replies as replies
use Rattle.rules.specs.Temperatures.{temperature, therm_asserted}
use Rattle.rules.specs.Targets.{tmin_of, range_of, flag, demand, target, overridden}
use Rattle.rules.specs.Duties.{tach_on, Spin, prior, judged_in, failed_in, spin_up_starts, given_after, since_after, duty_after, spin_at, spin_after, spin}
use Rattle.rules.specs.Duties.{judged, failed, failures, at_alarm, alarm_bit, fault_bit}
use Rattle.demand.specs.Demand.{demand_of}
use Rattle.demand.proofs.SignedLaws.{faithful_demand}
use Rattle.drive.specs.Drive.{duty_of, starts_of, left_of, drive_at, driven_of}
use Rattle.drive.specs.Tach.{run_of}
use Rattle.input.specs.Inputs.{eighths_held, input_of, bit_after}
use Rattle.input.proofs.PlainLaws.{count_is, period_is}
use Rattle.part.specs.Each.{of_fan}
use Rattle.part.proofs.Laws.{of_each_fan}
use Rattle.fan.specs.Fans.{fan_target, setting_of, prior_fan, judges_fan, fails_fan, fan_input_of, fan_run, fan_under, fan_after}
use Rattle.history.proofs.State.{channel_registers_by, fan_registers_by, registers_by, context_by, channel_by, channels_by, setting_by, drive_by, fan_by}
use Rattle.history.proofs.AcceptedLaws.{counted_is, restart_is}
use Rattle.history.proofs.HeldLaws.{held}

-- ---- what is asked of a fan

module _ (f : FanId) (d : Taken) where
  pub demand_is : (c : ChannelId)
      → cond (diode_error c d) 240
      (demand_of (flag c d) (speed_code f (stored_at speeds d)) (tmin_of (stored_at (control_at c) d)) (range_of (stored_at (control_at c) d))
      (eighths_held (temperature c d)))
      ≡ demand f c d
  unfolding demand
  demand_is c = ap (cond (diode_error c d) 240) (faithful_demand (temperature c d) (eighths_held (temperature c d)) (held d c) _ _ _ _)

  own_registers : of_fan f (registers_by d).fans ≡ fan_registers_by f d
  unfolding registers_by
  own_registers = of_each_fan (λ f. fan_registers_by f d) f

  pub setting_is : setting_of f (pin_low d) (registers_by d) (channels_by d) ≡ setting_by f d
  unfolding setting_of fan_target setting_by target overridden therm_asserted registers_by channel_registers_by fan_registers_by channels_by channel_by
  setting_is = rw (own_registers, demand_is Local, demand_is Remote1, demand_is Remote2)

-- ---- spin-up: counting what was given and the clocks since is counting down what is left

at_drive : (duty given since : ℕ) → drive_by (spin_at duty given since) ≡ drive_at duty (given - since)
at_drive duty given since = by_cases (eqb duty 0) (λ z. simp (eqb-true duty 0 z)) (λ z. simp z)

module _ (f : FanId) (e : Event) (d : Taken) (w : Spin) where
  left_after : given_after f e d w - since_after f e d w ≡ left_of (setting_by f (e ∷ d)) (fan_input_of f (failed_in f e d w) (input_of e)) (drive_by w)
  unfolding left_of starts_of setting_by
  left_after =
      by_cases (spin_up_starts f e d w)
      (λ s. simp s (omega arith))
      (λ s. by_cases (is_kind kind.Clock e) (λ c. simp (s, c) (omega arith)) (λ c. simp (s, c)))

  duty_is : (spinning : Bool) (was : ℕ) → duty_after f e d spinning was ≡ duty_of (setting_by f (e ∷ d)) (periods f e) spinning was
  unfolding duty_after duty_of setting_by
  duty_is spinning was = refl

  spin_driven : drive_by (spin_after f e d w) ≡ driven_of (setting_by f (e ∷ d)) (fan_input_of f (failed_in f e d w) (input_of e)) (drive_by w)
  unfolding spin_after driven_of
  spin_driven = rw (← left_after, period_is f e, ← duty_is) (at_drive _ _ _)

-- ---- the run of failures

-- a restart is no measurement
restart_measures : (f : FanId) (e : Event) → restarts e ≡ true → measures f e ≡ false
restart_measures f e p =
    by_cases (is_kind kind.Power e)
    (λ z. rw (eqb-true (place_of (kind_of e)) 0 z))
    (λ z. rw (eqb-true (place_of (kind_of e)) 1 (both (is_kind kind.Write e) _ (both _ _ (rw z at p)).0).0))

-- a run held at 5 is the count of failures held at 5
run_law : (tach start judged failed : Bool) (n : ℕ) → (start ≡ true → (judged ≡ false) × (failed ≡ false))
    → fan_run tach judged failed (cond start 0 (min 5 n)) ≡ min 5 (cond tach (cond failed (suc n) (cond (start || judged) 0 n)) 0)
unfolding run_of
run_law false start judged failed n calm = refl
run_law true true judged failed n calm = rw ((calm refl).0, (calm refl).1)
run_law true false judged true n calm = omega arith
run_law true false true false n calm = refl
run_law true false false false n calm = refl

-- ---- a fan

module _ (e : Event) (d : Taken) (fine : replies.out_of_range e ≡ false) (f : FanId) where
  abbrev w : Spin
  w = prior e (spin f d)

  judged_is : judges_fan f (context_by e d) (drive_by w) ≡ judged_in f e d w
  unfolding registers_by
  judged_is = rw (count_is f e)

  failed_is : fails_fan f (context_by e d) (drive_by w) ≡ failed_in f e d w
  unfolding fan_registers_by
  failed_is =
      rw (judged_is, own_registers f (e ∷ d))
      (by_cases (measures f e)
      (λ y. rw (counted_is e fine (both (is_kind kind.Tach e) _ y).0))
      (λ y. rw y))

  prior_is : prior_fan (input_of e) (fan_by f d) ≡ record {
    drive = drive_by w;
    run = cond (restarts e) 0 (min 5 (failures f d));
    alarmed = cond (restarts e) false (at_alarm f d);
    alarm = cond (restarts e) false (alarm_bit f d);
    fault = cond (restarts e) false (fault_bit f d);
  }
  unfolding fan_by
  prior_is = rw (restart_is e fine) (by_cases (restarts e) (λ p. rw p) (λ p. rw p))

  run_is : fan_run (tach_on f (e ∷ d)) (judged_in f e d w) (failed_in f e d w) (cond (restarts e) 0 (min 5 (failures f d))) ≡ min 5 (failures f (e ∷ d))
  unfolding failures failed judged
  run_is =
      run_law (tach_on f (e ∷ d)) (restarts e) (judged_in f e d w) (failed_in f e d w) (failures f d)
      (λ p. (rw (restart_measures f e p), rw (restart_measures f e p)))

  drive_is : driven_of (setting_by f (e ∷ d)) (fan_input_of f (failed_in f e d w) (input_of e)) (drive_by w) ≡ drive_by (spin f (e ∷ d))
  unfolding spin
  drive_is = sym (spin_driven f e d w)

  bit_is : (sets was : Bool) → bit_after sets (reads (status_at f) (pointer d) e) (cond (restarts e) false was)
      ≡ cond sets true (cond (restarts e || reads (status_at f) (pointer d) e) false was)
  bit_is sets was = by_cases (restarts e) (λ p. rw p (by_cases (reads (status_at f) (pointer d) e) (λ q. rw q) (λ q. rw q))) (λ p. rw p)

  under_is : fan_under f (setting_by f (e ∷ d)) (context_by e d) (prior_fan (input_of e) (fan_by f d)) ≡ fan_by f (e ∷ d)
  unfolding fan_under fan_by registers_by at_alarm alarm_bit fault_bit failed setting_by
  under_is = rw (prior_is, failed_is, judged_is, drive_is, run_is, bit_is, bit_is)

  pub fan_is : fan_after f (pin_low (e ∷ d)) (context_by e d) (channels_by (e ∷ d)) (fan_by f d) ≡ fan_by f (e ∷ d)
  unfolding fan_after
  fan_is = rw (setting_is f (e ∷ d)) under_is
