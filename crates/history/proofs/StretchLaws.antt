-- Through a stretch whose target stays in an interval: the spin-up falls by the clock events, and the duty is ramped toward the target of each period.
-- Assumes nothing.
use Prim.Native.Nat.{ℕ, ◌-◌, ◌<◌}
use mathlib.Core.Path.{◌≡◌, refl, ◌∙◌, subst}
use mathlib.Core.Bool.{true, false, cond, ◌&&◌, ◌||◌}
use mathlib.Core.List.{List, [], ◌∷◌, ◌++◌, append_assoc}
use native.Mathlib.Omega.{arith}
use lib.ListN.{length}
use Rattle.integer.proofs.BoolLaws.{by_cases, neither}
use Rattle.part.specs.declared.FanId.{FanId}
use Rattle.event.specs.Kinds.{is_kind}
use Rattle.event.specs.declared.Event.{Event}
use Rattle.event.specs.declared.Kind.TheVariants as kind
use Rattle.rules.specs.Registers.{filter}
use Rattle.rules.specs.Events.{periods, restarts}
use Rattle.rules.specs.Stored.{Taken, stored_at}
use Rattle.rules.specs.Replies.{History, taken, accepted}
use Rattle.rules.specs.Targets.{target, overridden}
use Rattle.rules.specs.Duties.{enabled, filtered, rate, nearer, Spin, left, failed_in, spin, duty, failed}
use Rattle.rules.proofs.TakenLaws.{refused_is, accepted_is}
use Rattle.rules.proofs.CalmLaws.{no_restart, same_prior, byte_same}
use Rattle.rules.proofs.SoundLaws.{wants, sound}
use Rattle.rules.proofs.TurnLaws.{left_step, free_step}
use Rattle.drive.specs.Ramp.{ramped, Between}
use Rattle.history.specs.Demand3.{spin_left, periods_in, clocks_in, disturbs}
use Rattle.history.specs.MovingTarget.{Within, MovingStretch}

-- ---- one accepted event that does not disturb

module _ (f : FanId) (e : Event) (d : Taken) (calm : ((is_kind kind.Write e || is_kind kind.Power e) || failed f e d) ≡ false) where
  no_write : is_kind kind.Write e ≡ false
  no_write = (neither (is_kind kind.Write e) (is_kind kind.Power e) (neither _ (failed f e d) calm).0).0

  no_power_lem : is_kind kind.Power e ≡ false
  no_power_lem = (neither (is_kind kind.Write e) (is_kind kind.Power e) (neither _ (failed f e d) calm).0).1

  runs_on : restarts e ≡ false
  runs_on = no_restart e d no_power_lem no_write

  filter_byte : stored_at filter (e ∷ d) ≡ stored_at filter d
  filter_byte = byte_same e d no_power_lem no_write filter refl

  no_failure : failed_in f e d (spin f d) ≡ false
  unfolding failed
  no_failure =
      subst (λ (w : Spin). failed_in f e d w ≡ false) (same_prior e d no_power_lem no_write (spin f d))
      (neither (is_kind kind.Write e || is_kind kind.Power e) (failed f e d) calm).1

  spin_after_lem : 0 < (spin f d).duty → 0 < (spin f (e ∷ d)).duty → left (spin f (e ∷ d)) ≡ left (spin f d) - cond (is_kind kind.Clock e) 1 0
  spin_after_lem = left_step f e d runs_on no_failure

  duty_after_lem : enabled f (e ∷ d) ≡ true → overridden (e ∷ d) ≡ false → 0 < target f (e ∷ d) → left (spin f (e ∷ d)) ≡ 0 → filtered f d ≡ true
      → (spin f (e ∷ d)).duty ≡ cond (periods f e) (nearer (rate d) (target f (e ∷ d)) (spin f d).duty) (spin f d).duty
  duty_after_lem on free aim z p = free_step f e d runs_on on free aim z ∙ rw (filter_byte, p)

-- ---- one event of a stretch, refused or not

-- a fan whose target lies in an interval above 0 turns
module _ (f : FanId) (a b : ℕ) (h : History) (pos : 0 < a) (w : Within f a b h) where
  pub aimed : 0 < target f (taken h)
  aimed = omega (arith, w.aim.0)

  turning : 0 < (spin f (taken h)).duty
  turning = (sound f (taken h)).turning (wants f (taken h) w.on aimed)

module _ (f : FanId) (e : Event) (h : History) (still : disturbs f e h ≡ false) where
  calm : accepted e h ≡ true → ((is_kind kind.Write e || is_kind kind.Power e) || failed f e (taken h)) ≡ false
  unfolding disturbs
  calm r = rw r at still

  filter_same : stored_at filter (taken (e ∷ h)) ≡ stored_at filter (taken h)
  filter_same =
      by_cases (accepted e h)
      (λ r. rw (accepted_is e h r) (filter_byte f e (taken h) (calm r)))
      (λ r. rw (refused_is e h r))

  module _ (a b : ℕ) (pos : 0 < a) (before : Within f a b h) (after : Within f a b (e ∷ h)) where
    left_after : spin_left f (e ∷ h) ≡ spin_left f h - cond (accepted e h && is_kind kind.Clock e) 1 0
    left_after =
        by_cases (accepted e h)
        (λ r. let q = accepted_is e h r in rw (q, r)
        (spin_after_lem f e (taken h) (calm r) (turning f a b h pos before) (rw q at (turning f a b (e ∷ h) pos after))))
        (λ r. rw (refused_is e h r, r) (omega arith))

    duty_next : spin_left f h ≡ 0 → filtered f (taken h) ≡ true
        → duty f (taken (e ∷ h)) ≡ cond (accepted e h && periods f e) (nearer (rate (taken h)) (target f (taken (e ∷ h))) (duty f (taken h))) (duty f (taken h))
    unfolding duty
    duty_next z p =
        by_cases (accepted e h)
        (λ r. let q = accepted_is e h r in
        let none : spin_left f (e ∷ h) ≡ 0 = omega (arith, left_after) in rw (q, r)
        (duty_after_lem f e (taken h) (calm r) (rw q at after.on) (rw q at after.free) (rw q at (aimed f a b (e ∷ h) pos after)) (rw q at none) p))
        (λ r. rw (refused_is e h r, r))

-- ---- all of a stretch

-- the target at each accepted period of the fan, the newest first
pub targets_in : FanId → List Event → History → List ℕ
targets_in f [] h = []
targets_in f (e ∷ s) h = cond (accepted e (s ++ h) && periods f e) (target f (taken (e ∷ (s ++ h))) ∷ targets_in f s h) (targets_in f s h)

pub targets_counted : (f : FanId) (s : List Event) (h : History) → length (targets_in f s h) ≡ periods_in f s h
unfolding targets_in periods_in
targets_counted f [] h = refl
targets_counted f (e ∷ s) h =
    by_cases (accepted e (s ++ h) && periods f e) (λ c. simp (c, targets_counted f s h)) (λ c. simp (c, targets_counted f s h))

module _ (f : FanId) (a b : ℕ) where
  pub within_at_end : (s : List Event) (h : History) → MovingStretch f a b s h → Within f a b (s ++ h)
  unfolding MovingStretch
  within_at_end [] h st = st
  within_at_end (e ∷ s) h st = st.2

  -- the second part of a stretch is one
  pub split : (t s : List Event) (h : History) → MovingStretch f a b (t ++ s) h → MovingStretch f a b t (s ++ h)
  unfolding MovingStretch
  split [] s h st = within_at_end s h st
  split (e ∷ t) s h st = (
    split t s h st.0,
    subst (λ (l : History). disturbs f e l ≡ false) (append_assoc t s h) st.1,
    subst (λ (l : History). Within f a b (e ∷ l)) (append_assoc t s h) st.2,
  )

  byte_kept : (s : List Event) (h : History) → MovingStretch f a b s h → stored_at filter (taken (s ++ h)) ≡ stored_at filter (taken h)
  unfolding MovingStretch
  byte_kept [] h st = refl
  byte_kept (e ∷ s) h st = filter_same f e (s ++ h) st.1 ∙ byte_kept s h st.0

  pub filter_kept : (s : List Event) (h : History) → MovingStretch f a b s h → filtered f (taken (s ++ h)) ≡ filtered f (taken h)
  filter_kept s h st = rw (byte_kept s h st)

  rate_kept : (s : List Event) (h : History) → MovingStretch f a b s h → rate (taken (s ++ h)) ≡ rate (taken h)
  rate_kept s h st = rw (byte_kept s h st)

  pub targets_between : (s : List Event) (h : History) → MovingStretch f a b s h → Between a b (targets_in f s h)
  unfolding MovingStretch targets_in Between
  targets_between [] h st = tt
  targets_between (e ∷ s) h st =
      by_cases (accepted e (s ++ h) && periods f e)
      (λ c. rw c (st.2.aim, targets_between s h st.0))
      (λ c. rw c (targets_between s h st.0))

  module _ (pos : 0 < a) where
    pub spin_falls : (s : List Event) (h : History) → MovingStretch f a b s h → spin_left f (s ++ h) ≡ spin_left f h - clocks_in s h
    unfolding MovingStretch clocks_in
    spin_falls [] h st = omega arith
    spin_falls (e ∷ s) h st =
        left_after f e (s ++ h) st.1 a b pos (within_at_end s h st.0) st.2
        ∙ by_cases (accepted e (s ++ h) && is_kind kind.Clock e)
        (λ c. simp c (omega (arith, spin_falls s h st.0)))
        (λ c. simp c (omega (arith, spin_falls s h st.0)))

    pub duty_ramps : (s : List Event) (h : History) → MovingStretch f a b s h → spin_left f h ≡ 0 → filtered f (taken h) ≡ true
        → duty f (taken (s ++ h)) ≡ ramped (rate (taken h)) (targets_in f s h) (duty f (taken h))
    unfolding MovingStretch targets_in ramped
    duty_ramps [] h st z p = refl
    duty_ramps (e ∷ s) h st z p =
        duty_next f e (s ++ h) st.1 a b pos (within_at_end s h st.0) st.2 (omega (arith, spin_falls s h st.0)) (filter_kept s h st.0 ∙ p)
        ∙ by_cases (accepted e (s ++ h) && periods f e)
        (λ c. simp (c, rate_kept s h st.0, duty_ramps s h st.0 z p))
        (λ c. simp c (duty_ramps s h st.0 z p))
