-- What stands after power, whatever came before, and before the first one. Assumes nothing.
use Prim.Native.Nat.{ℕ, zero, suc, ◌*◌, ◌≤◌}
use mathlib.Core.Path.{◌≡◌, refl, ap, ◌∙◌}
use mathlib.Core.Bool.{Bool, true, false, cond, and-false}
use mathlib.Core.List.{[], ◌∷◌}
use native.Mathlib.Omega.{arith}
use lib.Dec.{eqb}
use lib.IntN.{ℤ, pos}
use Rattle.integer.specs.Bits.{packed}
use Rattle.integer.proofs.BoolLaws.{by_cases}
use Rattle.part.specs.declared.ChannelId.{ChannelId}
use Rattle.part.specs.declared.ChannelId.TheVariants.{Local, Remote1, Remote2}
use Rattle.part.specs.declared.FanId.{FanId}
use Rattle.part.specs.declared.FanId.TheVariants.{One, Two}
use Rattle.event.specs.declared.Event.{Event}
use Rattle.event.specs.declared.Shown.{Shown}
use Rattle.rules.specs.Registers.{behaviour, exists_at, reset_at}
use Rattle.rules.specs.Fields.{therm_drives_fans}
use Rattle.rules.specs.Events.{measures, restarts}
use Rattle.rules.specs.Stored.{Taken, stored_at, pin_low, diode_error, pulled_bit}
use Rattle.rules.specs.Temperatures.{temperature, latch, therm_asserted, high_bit, low_bit, therm_bit}
use Rattle.rules.specs.Targets.{flag, demand, assigned_by, target_of, target, overridden}
use Rattle.rules.specs.Duties.{spin_up_of, Spin, left, duty_after, spin_after, at_rest, spin, duty, judged, failed, failures, fault_bit, at_alarm, alarm_bit}
use Rattle.rules.specs.Shows.{status, byte_at, value, int_due, int_asserted, fault_asserted, shown, values_from}
use Rattle.rules.specs.PageWords.{power, by_fan}
use Rattle.rules.specs.PageReplies.{power_image}

abbrev pub dark : Shown
dark = record { int = 0; therm = 0; fault = 0; duty1 = 0; duty2 = 0 }

pub none_shown : shown [] ≡ dark
unfolding shown int_asserted int_due fault_asserted therm_asserted stored_at latch duty spin
none_shown = refl

-- ---- power or reset, with the pin high: a fan stands still, or starts for a diode in error

-- the channel that is assigned to a fan after a restart
abbrev pub own : FanId → ChannelId
own f = by_fan Remote1 Remote2 f

abbrev pub started_by : (error : Bool) → Spin
started_by error = cond error (record { duty = 240; given = 20; since = 0 }) at_rest

module _ (e : Event) (d : Taken) (afresh : restarts e ≡ true) where
  pub restart_target : (f : FanId) → target f (e ∷ d) ≡ cond (diode_error (own f) (e ∷ d)) 240 0
  unfolding target target_of assigned_by demand flag stored_at reset_at
  restart_target One = rw afresh (by_cases (diode_error Remote1 (e ∷ d)) (λ y. rw y) (λ n. rw n))
  restart_target Two = rw afresh (by_cases (diode_error Remote2 (e ∷ d)) (λ y. rw y) (λ n. rw n))

  pub restart_spin : overridden (e ∷ d) ≡ false → (f : FanId) → spin f (e ∷ d) ≡ started_by (diode_error (own f) (e ∷ d))
  unfolding spin spin_after duty_after spin_up_of stored_at reset_at
  restart_spin free One =
      rw (restart_target One, afresh, free, and-false (measures One e)) (by_cases (diode_error Remote1 (e ∷ d)) (λ y. rw y) (λ n. rw n))
  restart_spin free Two =
      rw (restart_target Two, afresh, free, and-false (measures Two e)) (by_cases (diode_error Remote2 (e ∷ d)) (λ y. rw y) (λ n. rw n))

  restart_duty : overridden (e ∷ d) ≡ false → (f : FanId) → duty f (e ∷ d) ≡ (started_by (diode_error (own f) (e ∷ d))).duty
  unfolding duty
  restart_duty free f = ap (λ (s : Spin). s.duty) (restart_spin free f)

  pub restart_latch : (c : ChannelId) → latch c (e ∷ d) ≡ false
  unfolding latch
  restart_latch c = rw afresh

  pub restart_flag : (c : ChannelId) → flag c (e ∷ d) ≡ false
  unfolding flag
  restart_flag c = rw afresh

  pub restart_run : (f : FanId) → failures f (e ∷ d) ≡ 0
  unfolding failures failed judged stored_at reset_at
  restart_run One = rw (afresh, and-false (measures One e))
  restart_run Two = rw (afresh, and-false (measures Two e))

  -- INT and FAN_FAULT are not enabled, no latch is on
  pub restart_shown :
      overridden (e ∷ d) ≡ false →
      shown (e ∷ d)
      ≡ record {
        int = 0;
        therm = 0;
        fault = 0;
        duty1 = (started_by (diode_error Remote1 (e ∷ d))).duty;
        duty2 = (started_by (diode_error Remote2 (e ∷ d))).duty;
      }
  unfolding shown int_asserted int_due fault_asserted therm_asserted stored_at reset_at
  restart_shown free =
      rw (
        restart_duty free One,
        restart_duty free Two,
        restart_run One,
        restart_run Two,
        restart_latch Local,
        restart_latch Remote1,
        restart_latch Remote2,
        afresh,
      )

-- ---- power

module _ (d : Taken) (w : ℤ) where
  pub power_free : (a v : ℤ) → overridden (power w a v ∷ d) ≡ false
  unfolding overridden therm_asserted latch pin_low
  power_free a v = rw (and-false (therm_drives_fans (stored_at behaviour (power w a v ∷ d))))

  -- the errors that it brings, 0 or 1
  started_duty : (a : ℕ) → a ≤ 1 → (started_by (eqb a 1)).duty ≡ 240 * a
  started_duty zero p = refl
  started_duty (suc zero) p = refl
  started_duty (suc (suc a)) p = absurd (omega arith)

  started_left : (a : ℕ) → a ≤ 1 → left (started_by (eqb a 1)) ≡ 20 * a
  started_left zero p = refl
  started_left (suc zero) p = refl
  started_left (suc (suc a)) p = absurd (omega arith)

  pub power_left : (a b : ℕ) → a ≤ 1 → b ≤ 1 → (f : FanId) → left (spin f (power w (pos a) (pos b) ∷ d)) ≡ 20 * by_fan a b f
  unfolding diode_error
  power_left a b p q One = rw (restart_spin (power w (pos a) (pos b)) d refl (power_free (pos a) (pos b)) One) (started_left a p)
  power_left a b p q Two = rw (restart_spin (power w (pos a) (pos b)) d refl (power_free (pos a) (pos b)) Two) (started_left b q)

  pub power_shown :
      (a b : ℕ) → a ≤ 1 → b ≤ 1 →
      shown (power w (pos a) (pos b) ∷ d) ≡ record { int = 0; therm = 0; fault = 0; duty1 = 240 * a; duty2 = 240 * b }
  unfolding diode_error
  power_shown a b p q = restart_shown (power w (pos a) (pos b)) d refl (power_free (pos a) (pos b)) ∙ rw (started_duty a p, started_duty b q)

  -- the diode errors, 0 or 1, are all that the status bytes hold
  power_status : (a b : ℕ) → a ≤ 1 → b ≤ 1 → (f : FanId) → status f (power w (pos a) (pos b) ∷ d) ≡ 32 * by_fan a b f
  unfolding status packed high_bit low_bit therm_bit diode_error pulled_bit fault_bit alarm_bit at_alarm failed overridden pin_low therm_asserted stored_at
      reset_at latch
  power_status zero b p q One = refl
  power_status (suc zero) b p q One = refl
  power_status (suc (suc a)) b p q One = absurd (omega arith)
  power_status a zero p q Two = refl
  power_status a (suc zero) p q Two = refl
  power_status a (suc (suc b)) p q Two = absurd (omega arith)

  pub power_image_lem : (a b : ℕ) → a ≤ 1 → b ≤ 1 → values_from 0 64 (power w (pos a) (pos b) ∷ d) ≡ power_image a b
  unfolding values_from value byte_at exists_at reset_at stored_at temperature
  power_image_lem a b p q = rw (power_status a b p q One, power_status a b p q Two)
