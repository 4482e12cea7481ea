-- The demand of a reading that is held with 1024 added is that of its t. Assumes nothing.
use Prim.Native.Nat.{ℕ, zero, suc, ◌+◌, ◌-◌, ◌*◌}
use mathlib.Core.Path.{◌≡◌, refl, ◌∙◌}
use mathlib.Core.Bool.{Bool, true, false, cond}
use native.Mathlib.Omega.{arith}
use borrow.Author.Tests.{ltb-true}
use lib.Dec.{ltb}
use lib.IntN.{ℤ, pos, negsuc, ◌-ℤ◌, sub_ℕ}
use Rattle.integer.specs.Range.{eighths_of}
use Rattle.std.specs.Prelude.{Some, None}
use Rattle.rules.specs.Events.{natural}
use Rattle.demand.specs.Demand.{slope_of, demand_of}
use Rattle.demand.specs.Signed.{FaithfulDemand}

natural_sub : (a b : ℕ) → natural (sub_ℕ a b) ≡ a - b
natural_sub a b = go (ltb a b) refl
  where
    go : (t : Bool) → ltb a b ≡ t → natural (cond t (negsuc (b - suc a)) (pos (a - b))) ≡ a - b
    go true e = omega (arith, ltb-true a b e)
    go false e = refl

-- t - k, for a t from 0 up and for one below 0
above : (n k : ℕ) → natural (pos n -ℤ pos k) ≡ n - k
above n zero = omega arith
above n (suc k) = natural_sub n (suc k)

below : (n k : ℕ) → natural (negsuc n -ℤ pos k) ≡ 0
below n zero = natural_sub 0 (suc n) ∙ omega arith
below n (suc k) = refl

inside : (b : Bool) {n r : ℕ} → cond b (Some n) None ≡ Some r → r ≡ n
inside true e = cc
inside false e = let z : ◌≡◌ {A = ℕ} 0 1 = cc in absurd (omega arith)

held_above_lem : (t : ℤ) (r k : ℕ) → eighths_of t ≡ Some r → r - (k + 1024) ≡ natural (t -ℤ pos k)
unfolding eighths_of
held_above_lem (pos n) r k e = let q = inside (ltb n 1024) e in omega (arith, above n k)
held_above_lem (negsuc n) r k e = let q = inside (ltb n 1024) e in omega (arith, below n k)

pub faithful_demand : FaithfulDemand
unfolding demand_of slope_of
faithful_demand t r e flag m tmin range = rw (held_above_lem t r (8 * tmin) e)
