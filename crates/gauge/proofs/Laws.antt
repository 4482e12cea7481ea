-- What each function of the panel returns, by the tests on its way. Assumes nothing.
use Prim.Native.Nat.{ℕ, ◌-◌, ◌*◌, ◌^◌, ◌<◌, ◌≤◌}
use mathlib.Core.Path.{◌≡◌, refl, ap}
use mathlib.Core.Bool.{Bool, true, false, cond}
use native.Mathlib.Omega.{arith}
use native.Mathlib.Nat.{mul-le-mul, mul-pos}
use lib.Dec.{ltb}
use lib.IntN.{ℤ, pos, negsuc}
use lib.Signed.{mag}
use lib.Ieee.{Float, binary64, of_bits, div, of_int}
use mir.Syntax.{w32}
use mir.Val.{Fits}
use borrow.Author.Tests.{ne_eqb}
use Rattle.event.specs.declared.FanSpeed.TheVariants.{Speed}
use Rattle.event.specs.declared.Panel as panel
use Rattle.std.specs.Prelude.{Ok, Err}
use Rattle.event.specs.declared.Refusal.{Refusal}
use Rattle.event.specs.declared.Refusal.TheVariants.{NoPower}
use Rattle.rules.specs.Panels.{quotient_of, degrees_of, divisor_of, speed_of}
use Rattle.rules.proofs.FloatLaws.{divisor_within}
use Rattle.device.specs.declared.Device.{Device}
use Rattle.keeper.specs.Keeping.{powered_device}
use Rattle.keeper.specs.declared.Keeper.{Keeper}
use Rattle.keeper.specs.declared.Keeper.TheVariants.{Off, On}
use Rattle.gauge.specs.Gauges.{unheld_of, panel_in, paneled_of}
use Rattle.gauge.proofs.DivisionLaws.{natural_value, quotient, divided}

-- ---- eighths of a degree

eighths_small : (r : ℕ) → r < 65536 → mag (unheld_of r) < 2 ^ 31
eighths_small r h = go (ltb r 1024)
  where
    go : (b : Bool) → mag (cond b (negsuc (1023 - r)) (pos (r - 1024))) < 2 ^ 31
    go true = omega arith
    go false = omega arith

-- 4620693217682128896 is the pattern of 8.0
pub degrees_is : {r : ℕ} {z : ℤ} {x : Float} → r < 65536 → z ≡ unheld_of r → x ≡ of_int binary64 z
    → div binary64 x (of_bits binary64 4620693217682128896) ≡ degrees_of (unheld_of r)
unfolding of_bits
degrees_is {r} h e f = rw (f, e) (divided (unheld_of r) (of_bits binary64 4620693217682128896) 8 (eighths_small r h) (omega arith) (refl, refl))

-- ---- the speed

module _ (count b : ℕ) where
  module _ {d : ℕ} (small : count < 256) (e : d ≡ divisor_of b) (k : d ≤ 8) where
    product_fits : Fits w32 (count * d)
    product_fits = let m : count ≤ 255 = omega arith in omega (arith, mul-le-mul m k)

    -- 4694045417942286336 is the pattern of 675000.0
    pub turns : {n : ℕ} {x : Float} → (Unit {0} × (count ≡ 0 → ⊥)) × (count ≡ 255 → ⊥) → n ≡ count → x ≡ of_int binary64 (pos (n * d))
        → Speed (div binary64 (of_bits binary64 4694045417942286336) x) ≡ speed_of count b
    unfolding speed_of quotient_of of_bits
    turns z same f =
        let p : 0 < count = omega (arith, z.0.1) in
        let q : 0 < d = rw e (divisor_within b).0 in
        rw (ne_eqb count 0 z.0.1, ne_eqb count 255 z.1, ← e, f, same)
        (ap Speed (quotient (of_bits binary64 4694045417942286336) (of_int binary64 (pos (count * d))) false 675000 (count * d) (mul-pos p q) (refl, refl)
        (natural_value (count * d) product_fits.fits)))

-- ---- the panel

pub panel_off : (k : Keeper) {r : Refusal} → Err r ≡ powered_device k → Err r ≡ paneled_of k
unfolding paneled_of
panel_off Off {r} e = let t : r ≡ NoPower = cc in rw t
panel_off (On d) e = cc

pub panel_on : (k : Keeper) {d : Device} {p : panel.Panel} → Ok d ≡ powered_device k → p ≡ panel_in d.chip → Ok p ≡ paneled_of k
unfolding paneled_of
panel_on Off e q = cc
panel_on (On x) {d} e q = let t : d ≡ x = cc in rw (q, t)
