-- A target that stands still is the case a = b: what demand 3 says of its stretch follows from the statement of a moving target. Assumes nothing.
use Prim.Native.Nat.{ℕ, ◌-◌, ◌<◌}
use mathlib.Core.Path.{◌≡◌}
use mathlib.Core.List.{List, [], ◌∷◌, ◌++◌}
use native.Mathlib.Omega.{arith}
use Rattle.part.specs.declared.FanId.{FanId}
use Rattle.event.specs.declared.Event.{Event}
use Rattle.rules.specs.Replies.{History}
use Rattle.drive.specs.Ramp.{Inside}
use Rattle.history.specs.Demand3.{spin_left, clocks_in, Settled, Stretch, Steady}
use Rattle.history.specs.MovingTarget.{Within, MovingStretch, Nearing, MovingTarget}

one_point : (d n : ℕ) → Inside d d n → n ≡ d
one_point d n (l, k) = omega arith

-- the two stretches are one
module _ (f : FanId) (d : ℕ) where
  within : (h : History) → Settled f d h → Within f d d h
  within h w = record { on = w.on; free = w.free; aim = (omega (arith, w.aim), omega (arith, w.aim)) }

  settled : (h : History) → Within f d d h → Settled f d h
  settled h w = record { on = w.on; free = w.free; aim = one_point d _ w.aim }

  still : (s : List Event) (h : History) → Stretch f d s h → MovingStretch f d d s h
  unfolding Stretch MovingStretch
  still [] h st = within h st
  still (e ∷ s) h st = (still s h st.0, st.1, within (e ∷ (s ++ h)) st.2)

  pub stretch : (s : List Event) (h : History) → MovingStretch f d d s h → Stretch f d s h
  unfolding Stretch MovingStretch
  stretch [] h st = settled h st
  stretch (e ∷ s) h st = (stretch s h st.0, st.1, settled (e ∷ (s ++ h)) st.2)

  steady : (t : List Event) (h : History) → Nearing f d d t h → Steady f d t h
  steady t h w =
      record {
        flat = λ p. one_point d _ (w.flat p);
        ramp = w.ramp;
        there = λ p far. one_point d _ (w.there p far);
        below = w.below;
        above = w.above;
      }

module _ (es : History) (moving : MovingTarget es) where
  pub steady_follows :
      (f : FanId) (d : ℕ) (later t s before : History) → es ≡ later ++ (t ++ (s ++ before)) →
      0 < d → Stretch f d (t ++ s) before → spin_left f (s ++ before) ≡ 0 → Steady f d t (s ++ before)
  steady_follows f d later t s before q pos st z =
      steady f d t (s ++ before) (moving.nears f d d later t s before q pos (still f d (t ++ s) before st) z)

  pub spin_follows :
      (f : FanId) (d : ℕ) (later s before : History) → es ≡ later ++ (s ++ before) →
      0 < d → Stretch f d s before → spin_left f (s ++ before) ≡ spin_left f before - clocks_in s before
  spin_follows f d later s before q pos st = moving.spin f d d later s before q pos (still f d s before st)
