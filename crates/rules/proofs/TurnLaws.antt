-- What one accepted event does to the duty and the spin-up of a fan. Assumes nothing.
use Prim.Native.Nat.{◌-◌, ◌<◌}
use mathlib.Core.Path.{◌≡◌, refl, sym, ◌∙◌}
use mathlib.Core.Bool.{true, false, cond, or-true}
use mathlib.Core.List.{◌∷◌}
use native.Mathlib.Omega.{arith}
use lib.Dec.{eqb}
use borrow.Author.Tests.{eqb-true, eqb-false, eq-eqb, ne_eqb}
use Rattle.integer.proofs.BoolLaws.{by_cases, both}
use Rattle.part.specs.declared.FanId.{FanId}
use Rattle.event.specs.Kinds.{is_kind}
use Rattle.event.specs.declared.Event.{Event}
use Rattle.event.specs.declared.Kind.TheVariants as kind
use Rattle.rules.specs.Registers.{config2, filter}
use Rattle.rules.specs.Events.{periods, restarts}
use Rattle.rules.specs.Stored.{Taken}
use Rattle.rules.specs.Targets.{target, overridden}
use Rattle.rules.specs.Duties.{enabled, filtered, rate, nearer, spin_up_clocks, Spin, left, prior, failed_in, spin_up_starts, spin_after, spin}
use Rattle.rules.proofs.CalmLaws.{ErrorsKept, error_same, Untouched, untouched, target_same, override_same}
use Rattle.rules.proofs.SoundLaws.{wanted, aimed, left_then, freely, left_then_lem, began, turns, settled, sound, is_wanted}

-- ---- a spin-up starts

module _ (f : FanId) (e : Event) (d : Taken) (y : wanted f (e ∷ d) ≡ true) where
  start_left : (w : Spin) → spin_up_starts f e d w ≡ true → left (spin_after f e d w) ≡ spin_up_clocks f (e ∷ d)
  start_left w s = left_then_lem f e d w (turns f e d w y) ∙ began f e d w s

  pub fresh_start : (spin f d).duty ≡ 0 → left (spin f (e ∷ d)) ≡ spin_up_clocks f (e ∷ d)
  unfolding spin
  fresh_start z = start_left (prior e (spin f d)) (simp (eq-eqb _ _ still, y, or-true))
    where
      still : (prior e (spin f d)).duty ≡ 0
      still = by_cases (restarts e) (λ r. rw r) (λ r. rw r z)

-- ---- an event that is no restart

module _ (f : FanId) (e : Event) (d : Taken) (no-restart : restarts e ≡ false) where
  stepped : spin f (e ∷ d) ≡ spin_after f e d (spin f d)
  unfolding spin
  stepped = rw no-restart

  pub failure_left : wanted f (e ∷ d) ≡ true → failed_in f e d (spin f d) ≡ true → left (spin f (e ∷ d)) ≡ spin_up_clocks f (e ∷ d)
  failure_left y bad = rw stepped (start_left f e d y (spin f d) (simp bad))

  -- a spin-up goes on

  goes_on : (w : Spin) → failed_in f e d w ≡ false → 0 < w.duty → left_then f e d w ≡ left w - cond (is_kind kind.Clock e) 1 0
  goes_on w fine k =
      simp (fine, ne_eqb w.duty 0 (λ z. omega arith))
      (by_cases (is_kind kind.Clock e) (λ c. simp c (omega arith)) (λ c. simp c (omega arith)))

  pub left_step :
      failed_in f e d (spin f d) ≡ false → 0 < (spin f d).duty → 0 < (spin f (e ∷ d)).duty →
      left (spin f (e ∷ d)) ≡ left (spin f d) - cond (is_kind kind.Clock e) 1 0
  left_step fine was now = rw stepped (left_then_lem f e d (spin f d) (rw stepped at now) ∙ goes_on (spin f d) fine was)

  -- a fan that is to turn, not overridden, with nothing left of its spin-up
  pub free_step :
      enabled f (e ∷ d) ≡ true → overridden (e ∷ d) ≡ false → 0 < target f (e ∷ d) → left (spin f (e ∷ d)) ≡ 0 →
      (spin f (e ∷ d)).duty ≡ freely f e d (spin f d)
  free_step on free aim z = rw stepped (settled f e d (spin f d) on free aim (rw stepped at z))

-- ---- an event that leaves what the fan goes by: it turns on as it did

pub record AimKept (f : FanId) (e : Event) (d : Taken) : Type 0 where
  pub settled : Untouched e d
  pub aim : target f (e ∷ d) ≡ target f d

pub aimed_as_before : (f : FanId) (e : Event) (d : Taken) → Untouched e d → ErrorsKept e d → AimKept f e d
aimed_as_before f e d u x = record { settled = u; aim = target_same e d u x f }

-- one that is no power, write, sample, pin or report on a diode
pub aim_by_kind :
    (f : FanId) (e : Event) (d : Taken) → is_kind kind.Power e ≡ false → is_kind kind.Write e ≡ false → is_kind kind.Sample e ≡ false →
    is_kind kind.Pin e ≡ false → is_kind kind.Diode e ≡ false → AimKept f e d
aim_by_kind f e d no_power no_write no-sample no_pin no-diode =
    aimed_as_before f e d (untouched e d no_power no_write no-sample no_pin) (error_same e d no_power no-diode)

module _ (f : FanId) (e : Event) (d : Taken) (s : AimKept f e d) where
  abbrev u : Untouched e d
  u = s.settled

  enabled_same : enabled f (e ∷ d) ≡ enabled f d
  enabled_same = rw (u.byte config2 refl)

  aim_same : target f (e ∷ d) ≡ target f d
  aim_same = s.aim

  free_same : overridden (e ∷ d) ≡ overridden d
  free_same = override_same e d u

  pub wanted_same : wanted f (e ∷ d) ≡ wanted f d
  wanted_same = rw (enabled_same, aim_same, free_same)

  pub turns_on : 0 < (spin f d).duty → 0 < (spin f (e ∷ d)).duty
  turns_on was = (sound f (e ∷ d)).turning (wanted_same ∙ is_wanted f d was)

  -- filtered, with nothing left of the spin-up: by periods of the fan alone
  pub filter_step :
      enabled f d ≡ true → overridden d ≡ false → 0 < target f d → left (spin f (e ∷ d)) ≡ 0 → filtered f d ≡ true →
      (spin f (e ∷ d)).duty ≡ cond (periods f e) (nearer (rate d) (target f d) (spin f d).duty) (spin f d).duty
  filter_step on free aim z p =
      free_step f e d u.calm (enabled_same ∙ on) (free_same ∙ free) (omega (arith, aim_same)) z ∙ rw (u.byte filter refl, p, aim_same)

  -- neither a clock, a failure nor a period of the fan: the duty stays
  module _ (no-clock : is_kind kind.Clock e ≡ false) (fine : failed_in f e d (spin f d) ≡ false) (no-period : periods f e ≡ false) where
    left_same : 0 < (spin f d).duty → left (spin f (e ∷ d)) ≡ left (spin f d)
    left_same was = left_step f e d u.calm fine was (turns_on was) ∙ rw no-clock (omega arith)

    module _ (on : enabled f d ≡ true) (free : overridden d ≡ false) (aim : 0 < target f d) (kept : left (spin f (e ∷ d)) ≡ left (spin f d)) where
      spins_on : 0 < left (spin f d) → (spin f (e ∷ d)).duty ≡ (spin f d).duty
      spins_on l =
          (sound f (e ∷ d)).spinning (enabled_same ∙ on) (free_same ∙ free) (omega (arith, aim_same)) (omega arith)
          ∙ sym ((sound f d).spinning on free aim l)

      freely_on : left (spin f d) ≡ 0 → (spin f (e ∷ d)).duty ≡ (spin f d).duty
      freely_on z =
          free_step f e d u.calm (enabled_same ∙ on) (free_same ∙ free) (omega (arith, aim_same)) (kept ∙ z)
          ∙ rw (u.byte filter refl, no-period, aim_same)
          (by_cases (filtered f d) (λ p. rw p) (λ p. rw p (sym ((sound f d).at_target on free aim z p))))

    turned_on : wanted f d ≡ true → (spin f (e ∷ d)).duty ≡ (spin f d).duty
    turned_on y =
        let on = (both (enabled f d) _ y).0 in
        let kept = left_same ((sound f d).turning y) in
        by_cases (overridden d)
        (λ o. (sound f (e ∷ d)).at_full (enabled_same ∙ on) (free_same ∙ o) ∙ sym ((sound f d).at_full on o))
        (λ o. by_cases (eqb (left (spin f d)) 0)
        (λ z. freely_on on o (aimed f d y o) kept (eqb-true _ _ z))
        (λ z. spins_on on o (aimed f d y o) kept (omega (arith, eqb-false (left (spin f d)) 0 z))))

    pub duty_same : (spin f (e ∷ d)).duty ≡ (spin f d).duty
    duty_same = by_cases (wanted f d) turned_on (λ n. (sound f (e ∷ d)).at_rest_lem (wanted_same ∙ n) ∙ sym ((sound f d).at_rest_lem n))

    pub left_kept : left (spin f (e ∷ d)) ≡ left (spin f d)
    left_kept =
        by_cases (eqb (spin f d).duty 0)
        (λ z. let rest = eqb-true (spin f d).duty 0 z in (sound f (e ∷ d)).idle (duty_same ∙ rest) ∙ sym ((sound f d).idle rest))
        (λ z. left_same (omega (arith, eqb-false (spin f d).duty 0 z)))
