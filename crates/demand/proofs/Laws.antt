-- What the proofs of the functions cite: each case of a rule, over plain values. Assumes nothing.
use Prim.Native.Nat.{ℕ, zero, suc, ◌*◌, ◌/◌, ◌%◌, ◌^◌, ◌<◌, ◌≤◌, min}
use mathlib.Core.Path.{◌≡◌, refl}
use mathlib.Core.List.{[], ◌∷◌}
use lib.ListN.{get_or}
use native.Mathlib.Nat.{div-le_self, mul-div-mul_left}
use native.Mathlib.Omega.{arith}
use mir.Syntax.{w8}
use mir.Val.{Fits}
use Rattle.part.specs.declared.FanId.{FanId}
use Rattle.part.specs.declared.FanId.TheVariants.{One, Two}
use Rattle.rules.specs.Fields.{speed_code}
use Rattle.rules.specs.Targets.{range_of}
use Rattle.demand.specs.Demand.{slope_of}

-- the quotient 20 x / R by shifts: R is 5 * 2^code up to 80, so it is 4 x / 2^code
range_by_code : (code : ℕ) → get_or (5 ∷ 10 ∷ 20 ∷ 40 ∷ []) code 80 ≡ 5 * 2 ^ min code 4
range_by_code zero = refl
range_by_code (suc zero) = refl
range_by_code (suc (suc zero)) = refl
range_by_code (suc (suc (suc zero))) = refl
range_by_code (suc (suc (suc (suc code)))) = let m : min (suc (suc (suc (suc code)))) 4 ≡ 4 = omega arith in rw m

module _ (above control : ℕ) where
  by_power : (power : ℕ) → 4 * above / power ≡ slope_of above (5 * power)
  unfolding slope_of
  by_power power = rw (fives, mul-div-mul_left {m = 5} (4 * above) power (omega arith))
    where
      fives : 20 * above ≡ 5 * (4 * above)
      fives = omega arith

  pub shifted : 4 * above / 2 ^ min (control % 8) 4 ≡ slope_of above (range_of control)
  unfolding range_of
  shifted = rw (range_by_code (control % 8)) (by_power (2 ^ min (control % 8) 4))

pub slope_small : (above range : ℕ) → slope_of above range ≤ 20 * above
unfolding slope_of
slope_small above range = div-le_self (20 * above) range

code_small : (fan : FanId) (speeds : ℕ) → speed_code fan speeds < 16
code_small One speeds = omega arith
code_small Two speeds = omega arith

pub code_fits : {n : ℕ} (fan : FanId) (speeds : ℕ) → n ≡ speed_code fan speeds → Fits w8 (16 * n)
code_fits fan speeds e = omega (arith, code_small fan speeds)
