-- Duty and spin-up of a fan after every list of accepted events. Assumes nothing.
use Prim.Native.Nat.{ℕ, suc, zero, ◌+◌, ◌-◌, ◌%◌, ◌<◌, ◌≤◌, min, max}
use mathlib.Core.Path.{◌≡◌, refl, sym, ◌∙◌}
use mathlib.Core.Bool.{Bool, true, false, cond, ◌&&◌, ◌||◌, or-true, or-false, true≢false}
use mathlib.Core.List.{List, [], ◌∷◌}
use native.Mathlib.Omega.{arith}
use lib.Dec.{ltb, eqb}
use lib.ListN.{get_or}
use borrow.Author.Tests.{ltb-true, ltb-false, eqb-true, eqb-false, lt-ltb, eq-eqb, ne_eqb}
use Rattle.integer.proofs.BoolLaws.{by_cases, either, both}
use Rattle.part.specs.declared.FanId.{FanId}
use Rattle.part.specs.declared.FanId.TheVariants.{One, Two}
use Rattle.event.specs.declared.Event.{Event}
use Rattle.rules.specs.Events.{periods}
use Rattle.rules.specs.Registers.{characteristics_at}
use Rattle.rules.specs.Stored.{Taken, stored_at}
use Rattle.rules.specs.Targets.{target, overridden}
use Rattle.rules.specs.Duties.{enabled, filtered, rate, spin_up_of, spin_up_clocks, Spin, left, spin_up_starts, given_after, since_after, nearer, duty_after}
use Rattle.rules.specs.Duties.{spin_at, spin_after, prior, spin}

-- ---- one step of the filter

pub nearer_is : (r t d : ℕ) → nearer r t d ≡ max (d - r) (min (d + r) t)
unfolding nearer
nearer_is r t d =
    by_cases (ltb d t)
    (λ e. simp e (omega (arith, ltb-true d t e)))
    (λ e. simp e (omega (arith, ltb-false d t e)))

-- ---- a spin-up is given at least 2 clocks

all_from_two : List ℕ → Bool
all_from_two [] = true
all_from_two (x ∷ xs) = ltb 1 x && all_from_two xs

at_all : (xs : List ℕ) (d n : ℕ) → all_from_two xs ≡ true → 1 < d → 1 < get_or xs n d
unfolding all_from_two
at_all [] d n h k = k
at_all (x ∷ xs) d zero h k = ltb-true 1 x (both (ltb 1 x) (all_from_two xs) h).0
at_all (x ∷ xs) d (suc n) h k = at_all xs d n (both (ltb 1 x) (all_from_two xs) h).1 k

pub two_clocks : (b : ℕ) → 2 ≤ spin_up_of b
unfolding spin_up_of all_from_two
two_clocks b = at_all (2 ∷ 4 ∷ 6 ∷ 8 ∷ 10 ∷ 20 ∷ 40 ∷ []) 80 (b % 8) refl (omega arith)

-- ---- a fan is to turn where it is enabled and its target is above 0 or it is overridden

abbrev pub wanted : FanId → Taken → Bool
wanted f d = enabled f d && (ltb 0 (target f d) || overridden d)

pub aimed : (f : FanId) (d : Taken) → wanted f d ≡ true → overridden d ≡ false → 0 < target f d
aimed f d y o = ltb-true 0 (target f d) (simp (o, or-false) at (both (enabled f d) _ y).1)

pub wants : (f : FanId) (d : Taken) → enabled f d ≡ true → 0 < target f d → wanted f d ≡ true
wants f d on t = simp (on, lt-ltb 0 (target f d) t)

-- what holds of every fan after every list
pub record Sound (f : FanId) (d : Taken) (w : Spin) : Type 0 where
  pub at_rest_lem : wanted f d ≡ false → w.duty ≡ 0
  pub turning : wanted f d ≡ true → 0 < w.duty
  pub at_full : enabled f d ≡ true → overridden d ≡ true → w.duty ≡ 240
  pub spinning : enabled f d ≡ true → overridden d ≡ false → 0 < target f d → 0 < left w → w.duty ≡ 240
  pub at_target : enabled f d ≡ true → overridden d ≡ false → 0 < target f d → left w ≡ 0 → filtered f d ≡ false → w.duty ≡ target f d
  pub idle : w.duty ≡ 0 → left w ≡ 0

on_or_off : (e o : Bool) (t x : ℕ) → cond e (cond o 240 (cond (eqb t 0) 0 x)) 0 ≡ cond (e && (ltb 0 t || o)) (cond o 240 x) 0
on_or_off true true t x = simp or-true
on_or_off true false zero x = refl
on_or_off true false (suc t) x = simp (lt-ltb 0 (suc t) (omega arith), ne_eqb (suc t) 0 (λ z. omega arith))
on_or_off false o t x = refl

at_duty : (duty given since : ℕ) → (spin_at duty given since).duty ≡ duty
at_duty duty given since = by_cases (eqb duty 0) (λ z. simp (eqb-true duty 0 z)) (λ z. simp z)

at_left : (duty given since : ℕ) → 0 < (spin_at duty given since).duty → left (spin_at duty given since) ≡ given - since
at_left duty given since h = simp (ne_eqb duty 0 (λ z. omega (arith, at_duty duty given since)))

at_idle : (duty given since : ℕ) → (spin_at duty given since).duty ≡ 0 → left (spin_at duty given since) ≡ 0
at_idle duty given since z = simp (eq-eqb duty 0 (sym (at_duty duty given since) ∙ z))

-- ---- one event, w being the fan before it

module _ (f : FanId) (e : Event) (d : Taken) (w : Spin) where
  -- what is left of the spin-up while the fan turns
  abbrev pub left_then : ℕ
  left_then = given_after f e d w - since_after f e d w

  -- the duty of a fan that turns freely
  abbrev pub freely : ℕ
  freely = cond (filtered f (e ∷ d)) (cond (periods f e) (nearer (rate (e ∷ d)) (target f (e ∷ d)) w.duty) w.duty) (target f (e ∷ d))

  duty_then_lem : (spin_after f e d w).duty ≡ cond (wanted f (e ∷ d)) (cond (overridden (e ∷ d)) 240 (cond (ltb 0 left_then) 240 freely)) 0
  unfolding spin_after duty_after
  duty_then_lem = at_duty _ _ _ ∙ on_or_off (enabled f (e ∷ d)) (overridden (e ∷ d)) (target f (e ∷ d)) _

  rests : wanted f (e ∷ d) ≡ false → (spin_after f e d w).duty ≡ 0
  rests n = duty_then_lem ∙ rw n

  duty_wanted : (o : Bool) → wanted f (e ∷ d) ≡ true → overridden (e ∷ d) ≡ o → (spin_after f e d w).duty ≡ cond o 240 (cond (ltb 0 left_then) 240 freely)
  duty_wanted o y q = duty_then_lem ∙ cc

  abbrev duty_then : ℕ
  duty_then = duty_after f e d (ltb 0 left_then) w.duty

  pub left_then_lem : 0 < (spin_after f e d w).duty → left (spin_after f e d w) ≡ left_then
  unfolding spin_after
  left_then_lem h = at_left duty_then (given_after f e d w) (since_after f e d w) h

  idle_then : (spin_after f e d w).duty ≡ 0 → left (spin_after f e d w) ≡ 0
  unfolding spin_after
  idle_then z = at_idle duty_then (given_after f e d w) (since_after f e d w) z

  pub began : spin_up_starts f e d w ≡ true → left_then ≡ spin_up_clocks f (e ∷ d)
  began s = simp s (omega arith)

  spins : spin_up_starts f e d w ≡ true → ltb 0 left_then ≡ true
  spins s = lt-ltb 0 left_then (omega (arith, began s, two_clocks (stored_at (characteristics_at f) (e ∷ d))))

  -- a fan that is to turn and starts no spin-up was turning
  was_turning : wanted f (e ∷ d) ≡ true → spin_up_starts f e d w ≡ false → 0 < w.duty
  was_turning y n =
      by_cases (eqb w.duty 0)
      (λ z. absurd (true≢false (simp (z, y, or-true) at n)))
      (λ z. omega (arith, eqb-false w.duty 0 z))

  freely_turns : 0 < target f (e ∷ d) → 0 < w.duty → 0 < freely
  freely_turns t k =
      either (λ n. 0 < n) (filtered f (e ∷ d)) (either (λ n. 0 < n) (periods f e) (rw nearer_is (omega arith)) k) t

  -- a fan that is to turn does
  pub turns : wanted f (e ∷ d) ≡ true → 0 < (spin_after f e d w).duty
  turns y =
      by_cases (overridden (e ∷ d))
      (λ o. rw (duty_wanted true y o) (omega arith))
      (λ o. rw (duty_wanted false y o)
      (by_cases (spin_up_starts f e d w)
      (λ s. rw (spins s) (omega arith))
      (λ s. either (λ n. 0 < n) (ltb 0 left_then) (omega arith) (freely_turns (aimed f (e ∷ d) y o) (was_turning y s)))))

  -- and where it is not overridden, it spins up or turns freely
  module _ (on : enabled f (e ∷ d) ≡ true) (free : overridden (e ∷ d) ≡ false) (t : 0 < target f (e ∷ d)) where
    left_free : left (spin_after f e d w) ≡ left_then
    left_free = left_then_lem (turns (wants f (e ∷ d) on t))

    at_240 : 0 < left (spin_after f e d w) → (spin_after f e d w).duty ≡ 240
    at_240 l = duty_wanted false (wants f (e ∷ d) on t) free ∙ rw (lt-ltb 0 left_then (omega (arith, left_free)))

    pub settled : left (spin_after f e d w) ≡ 0 → (spin_after f e d w).duty ≡ freely
    settled z = duty_wanted false (wants f (e ∷ d) on t) free ∙ rw (sym left_free ∙ z)

  sound_after : Sound f (e ∷ d) (spin_after f e d w)
  sound_after =
      record {
        at_rest_lem = rests;
        turning = turns;
        at_full = λ on o. duty_wanted true (simp (on, o, or-true)) o;
        spinning = at_240;
        at_target = λ on free t z p. settled on free t z ∙ rw p;
        idle = idle_then;
      }

off : (f : FanId) → enabled f [] ≡ false
unfolding stored_at
off One = refl
off Two = refl

pub sound : (f : FanId) (d : Taken) → Sound f d (spin f d)
sound f [] =
    record {
      at_rest_lem = λ n. (unfold spin in refl);
      turning = λ y. absurd (true≢false (sym y ∙ rw (off f)));
      at_full = λ on o. absurd (true≢false (sym on ∙ off f));
      spinning = λ on free t l. absurd (true≢false (sym on ∙ off f));
      at_target = λ on free t z p. absurd (true≢false (sym on ∙ off f));
      idle = λ z. (unfold spin in refl);
    }
sound f (e ∷ d) = (unfold spin in sound_after f e d (prior e (spin f d)))

-- a fan that turns is to turn
pub is_wanted : (f : FanId) (d : Taken) → 0 < (spin f d).duty → wanted f d ≡ true
is_wanted f d was = by_cases (wanted f d) (λ y. y) (λ n. absurd (omega (arith, (sound f d).at_rest_lem n)))
