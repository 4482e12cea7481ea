-- The ramp law, and what it rests on: one step of the filter. Assumes nothing.
use Prim.Native.Nat.{ℕ, zero, suc, ◌+◌, ◌-◌, ◌*◌, ◌≤◌, min, max}
use mathlib.Core.Path.{◌≡◌, ap, ◌∙◌}
use mathlib.Core.List.{List, [], ◌∷◌}
use native.Mathlib.Nat.{suc-mul}
use native.Mathlib.Omega.{arith}
use lib.Dec.{ltb}
use lib.ListN.{length, replicate}
use borrow.Author.Tests.{ltb-true, ltb-false}
use Rattle.integer.proofs.BoolLaws.{by_cases}
use Rattle.rules.specs.Duties.{nearer}
use Rattle.rules.proofs.SoundLaws.{nearer_is}
use Rattle.drive.specs.Ramp.{Inside, outside, ramped, Between, RampLaw}

up : (r t d : ℕ) → d ≤ t → nearer r t d ≡ min (d + r) t
up r t d h = rw nearer_is (omega arith)

down : (r t d : ℕ) → t ≤ d → nearer r t d ≡ max (d - r) t
down r t d h = rw nearer_is (omega arith)

sides : {P : Type 0} (d t : ℕ) → (d ≤ t → P) → (t ≤ d → P) → P
sides d t f g = by_cases (ltb d t) (λ e. f (omega (arith, ltb-true d t e))) (λ e. g (ltb-false d t e))

-- two steps toward one target are one of both amounts
nearer_sum : (i j t d : ℕ) → nearer i t (nearer j t d) ≡ nearer (i + j) t d
nearer_sum i j t d =
    sides d t
    (λ h. rw (up j t d h, up i t (min (d + j) t) (omega arith), up (i + j) t d h) (omega arith))
    (λ h. rw (down j t d h, down i t (max (d - j) t) (omega arith), down (i + j) t d h) (omega arith))

under : (a b d : ℕ) → d ≤ b → outside a b d ≡ a - d
unfolding outside
under a b d h = omega arith

over : (a b d : ℕ) → a ≤ d → outside a b d ≡ d - b
unfolding outside
over a b d h = omega arith

-- a duty at distance 0 is inside
pub no_distance : (a b d : ℕ) → outside a b d ≡ 0 → Inside a b d
unfolding outside
no_distance a b d z = (omega arith, omega arith)

nearer_step : (a b r t d : ℕ) → Inside a b t → outside a b (nearer r t d) ≡ outside a b d - r
nearer_step a b r t d (h, k) =
    sides d t
    (λ l. rw (up r t d l, under a b (min (d + r) t) (omega arith), under a b d (omega arith)) (omega arith))
    (λ l. rw (down r t d l, over a b (max (d - r) t) (omega arith), over a b d (omega arith)) (omega arith))

module _ (a b rate : ℕ) where
  falls : (ts : List ℕ) (duty : ℕ) → Between a b ts → outside a b (ramped rate ts duty) ≡ outside a b duty - length ts * rate
  unfolding ramped Between
  falls [] duty h = omega arith
  falls (t ∷ ts) duty (h, hs) = omega (arith, nearer_step a b rate t (ramped rate ts duty) h, falls ts duty hs, suc-mul (length ts) rate)

  below : (ts : List ℕ) (duty : ℕ) → Between a b ts → duty ≤ b → ramped rate ts duty ≤ b
  unfolding ramped Between
  below [] duty h l = l
  below (t ∷ ts) duty (h, hs) l = rw nearer_is (omega (arith, h.1, below ts duty hs l))

  above : (ts : List ℕ) (duty : ℕ) → Between a b ts → a ≤ duty → a ≤ ramped rate ts duty
  unfolding ramped Between
  above [] duty h l = l
  above (t ∷ ts) duty (h, hs) l = rw nearer_is (omega (arith, h.0, above ts duty hs l))

pub ramp_law : (a b rate : ℕ) (ts : List ℕ) (duty : ℕ) → Between a b ts → RampLaw a b rate ts duty
ramp_law a b rate ts duty h =
    record { falls = falls a b rate ts duty h; below = below a b rate ts duty h; above = above a b rate ts duty h }

-- a target that stands still for k periods
pub ramp_still : (rate t duty k : ℕ) → ramped rate (replicate k t) duty ≡ nearer (k * rate) t duty
unfolding ramped
ramp_still rate t duty zero = rw nearer_is (omega arith)
ramp_still rate t duty (suc k) =
    ap (nearer rate t) (ramp_still rate t duty k) ∙ (nearer_sum rate (k * rate) t duty ∙ ap (λ (n : ℕ). nearer n t duty) (omega (arith, suc-mul k rate)))
