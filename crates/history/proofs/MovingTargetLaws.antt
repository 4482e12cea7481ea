-- T-13 holds of every list: while its target stays in an interval, a duty nears the interval and stays inside. Assumes nothing.
use Prim.Native.Nat.{ℕ, ◌-◌, ◌*◌, ◌<◌, ◌≤◌}
use mathlib.Core.Path.{◌≡◌, ap, ◌∙◌}
use mathlib.Core.Bool.{true, false}
use mathlib.Core.List.{List, ◌++◌}
use native.Mathlib.Omega.{arith}
use Rattle.integer.proofs.BoolLaws.{by_cases}
use Rattle.part.specs.declared.FanId.{FanId}
use Rattle.part.specs.declared.FanId.TheVariants.{One, Two}
use Rattle.event.specs.declared.Event.{Event}
use Rattle.event.specs.declared.Shown.{Shown}
use Rattle.rules.specs.Replies.{History, taken}
use Rattle.rules.specs.Targets.{target}
use Rattle.rules.specs.Duties.{filtered, rate, duty}
use Rattle.rules.specs.Shows as shows
use Rattle.rules.proofs.SoundLaws.{sound}
use Rattle.drive.specs.Ramp.{Inside, outside, ramped, RampLaw}
use Rattle.drive.proofs.RampLaws.{no_distance, ramp_law}
use Rattle.history.specs.Demand3.{shown_duty, spin_left, periods_in}
use Rattle.history.specs.MovingTarget.{Within, MovingStretch, Nearing, MovingTarget}
use Rattle.history.proofs.Agree.{agreement}
use Rattle.history.proofs.StretchLaws.{aimed, targets_in, targets_counted, within_at_end, split, filter_kept, targets_between, spin_falls, duty_ramps}

-- the program shows the duty of the rules
pub shown_is : (f : FanId) (h : History) → shown_duty f h ≡ duty f (taken h)
unfolding shown_duty shows.shown
shown_is One h = ap (λ (s : Shown). s.duty1) (agreement h).shows
shown_is Two h = ap (λ (s : Shown). s.duty2) (agreement h).shows

at_target : (f : FanId) (a b : ℕ) (h : History) → 0 < a → Within f a b h → spin_left f h ≡ 0 → filtered f (taken h) ≡ false
    → duty f (taken h) ≡ target f (taken h)
unfolding duty
at_target f a b h pos w = (sound f (taken h)).at_target w.on w.free (aimed f a b h pos w)

module _ (f : FanId) (a b : ℕ) (t : List Event) (h : History) (pos : 0 < a) (st : MovingStretch f a b t h) (z : spin_left f h ≡ 0) where
  flat : filtered f (taken h) ≡ false → Inside a b (shown_duty f (t ++ h))
  flat p =
      let w = within_at_end f a b t h st in
      let none : spin_left f (t ++ h) ≡ 0 = omega (arith, spin_falls f a b pos t h st) in
      rw (shown_is f (t ++ h) ∙ at_target f a b (t ++ h) pos w none (filter_kept f a b t h st ∙ p)) w.aim

  law : RampLaw a b (rate (taken h)) (targets_in f t h) (duty f (taken h))
  law = ramp_law a b (rate (taken h)) (targets_in f t h) (duty f (taken h)) (targets_between f a b t h st)

  shown : filtered f (taken h) ≡ true → shown_duty f (t ++ h) ≡ ramped (rate (taken h)) (targets_in f t h) (duty f (taken h))
  shown p = shown_is f (t ++ h) ∙ duty_ramps f a b pos t h st z p

  ramp : filtered f (taken h) ≡ true → outside a b (shown_duty f (t ++ h)) ≡ outside a b (duty f (taken h)) - periods_in f t h * rate (taken h)
  ramp p = rw (shown p) (rw (targets_counted f t h) at law.falls)

  below : filtered f (taken h) ≡ true → duty f (taken h) ≤ b → shown_duty f (t ++ h) ≤ b
  below p l = rw (shown p) (law.below l)

  above : filtered f (taken h) ≡ true → a ≤ duty f (taken h) → a ≤ shown_duty f (t ++ h)
  above p l = rw (shown p) (law.above l)

  nearing : Nearing f a b t h
  nearing =
      record {
        flat = flat;
        ramp = ramp;
        there = λ p far. no_distance a b (shown_duty f (t ++ h)) (ramp p ∙ omega arith);
        stays = λ i. by_cases (filtered f (taken h)) (λ p. (above p i.0, below p i.1)) flat;
        below = below;
        above = above;
      }

pub moving_target_lem : (es : History) → MovingTarget es
moving_target_lem es =
    record {
      nears = λ f a b later t s before q pos st z. nearing f a b t (s ++ before) pos (split f a b t s before st) z;
      spin = λ f a b later s before q pos st. spin_falls f a b pos s before st;
    }
