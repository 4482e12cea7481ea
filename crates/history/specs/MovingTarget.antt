-- T-13 of document 02: demand 3's stretch with a target that moves in an interval, over every list of events, the newest first.
use Rattle.std.specs.Prelude.{ℕ, ◌-◌, ◌*◌, ◌<◌, ◌≤◌, ◌≡◌, true, false, List, [], ◌∷◌, ◌++◌}
use Rattle.part.specs.declared.FanId.{FanId}
use Rattle.event.specs.declared.Event.{Event}
use Rattle.rules.specs.Replies.{History, taken}
use Rattle.rules.specs.Targets.{target, overridden}
use Rattle.rules.specs.Duties.{enabled, filtered, rate, duty}
use Rattle.drive.specs.Ramp.{Inside, outside}
use Rattle.history.specs.Demand3.{shown_duty, spin_left, periods_in, clocks_in, disturbs}

-- after h the fan is enabled, neither of the two holds, and its worked-out target lies between a and b, both included
pub record Within (f : FanId) (a b : ℕ) (h : History) : Type 0 where
  pub on : enabled f (taken h) ≡ true
  pub free : overridden (taken h) ≡ false
  pub aim : Inside a b (target f (taken h))

-- the stretch s, the newest event first, that came after h: demand 3's, but the target only stays between a and b
unfoldable pub MovingStretch : FanId → (a b : ℕ) → List Event → History → Type 0
MovingStretch f a b [] h = Within f a b h
MovingStretch f a b (e ∷ s) h = MovingStretch f a b s h × (disturbs f e (s ++ h) ≡ false) × Within f a b (e ∷ (s ++ h))

-- h is a point of a stretch where nothing of the spin-up remains, and t the rest of the stretch, the newest event first.
-- The gap is the distance from the interval of the duty that the rules give at h; the periods are counted in t.
pub record Nearing (f : FanId) (a b : ℕ) (t : List Event) (h : History) : Type 0 where
  -- an unfiltered duty is inside at once
  pub flat : filtered f (taken h) ≡ false → Inside a b (shown_duty f (t ++ h))
  -- the distance of a filtered duty is the gap less k times the ramp rate, and exactly 0 once that covers the gap
  pub ramp :
      filtered f (taken h) ≡ true →
      outside a b (shown_duty f (t ++ h)) ≡ outside a b (duty f (taken h)) - periods_in f t h * rate (taken h)
  pub there :
      filtered f (taken h) ≡ true → outside a b (duty f (taken h)) ≤ periods_in f t h * rate (taken h) →
      Inside a b (shown_duty f (t ++ h))
  -- a duty that is inside stays inside
  pub stays : Inside a b (duty f (taken h)) → Inside a b (shown_duty f (t ++ h))
  -- the side of the interval, which the letter leaves open
  pub below : filtered f (taken h) ≡ true → duty f (taken h) ≤ b → shown_duty f (t ++ h) ≤ b
  pub above : filtered f (taken h) ≡ true → a ≤ duty f (taken h) → a ≤ shown_duty f (t ++ h)

-- The list is later ++ (t ++ (s ++ before)): the stretch, t ++ s, came after `before`.
pub record MovingTarget (es : History) : Type 0 where
  -- from any point of the stretch, the first among them, where nothing of the spin-up remains
  pub nears :
      (f : FanId) (a b : ℕ) (later t s before : History) → es ≡ later ++ (t ++ (s ++ before)) →
      0 < a → MovingStretch f a b (t ++ s) before → spin_left f (s ++ before) ≡ 0 → Nearing f a b t (s ++ before)
  -- when that is: what remains falls by the clock events accepted
  pub spin :
      (f : FanId) (a b : ℕ) (later s before : History) → es ≡ later ++ (s ++ before) →
      0 < a → MovingStretch f a b s before → spin_left f (s ++ before) ≡ spin_left f before - clocks_in s before
