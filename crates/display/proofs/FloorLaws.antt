-- What is printed of a figure is the whole number below it: computed over every reading and every product of count and divisor. Assumes nothing.
use Rattle.std.proofs.Common.{◌≡◌, ℕ, zero, suc, ◌+◌, ◌-◌, ◌/◌, ◌<◌, ◌≤◌, Bool, true, false, ◌&&◌, eqb, leb, ℤ, pos, negsuc, refl, ap, arith, le-ltb, lt-ltb}
use Rattle.std.proofs.Common.{eqb-true, leb-true}
use lib.Ieee.{add, mul, lt, to_unsigned, round}
use borrow.Author.Tests.{eqb-false}
use Rattle.integer.proofs.BoolLaws.{by_cases, both}
use Rattle.rules.specs.Events.{from_to, lies}
use Rattle.rules.specs.Panels.{quotient_of, degrees_of}
use Rattle.gauge.specs.Gauges.{unheld_of}
use Rattle.display.specs.Displayed.{floor_of}
use Rattle.display.specs.Worked.{whole_of, tenths_of, revolutions_of}
use Rattle.display.specs.Displays.{tenths_figure}

-- ---- a test of every number below n

unfoldable all_below : (ℕ → Bool) → ℕ → Bool
all_below test zero = true
all_below test (suc n) = test n && all_below test n

each : (test : ℕ → Bool) (n i : ℕ) → all_below test n ≡ true → i < n → test i ≡ true
unfolding all_below
each test zero i e l = absurd (omega arith)
each test (suc n) i e l =
    let p = both (test n) (all_below test n) e in
    by_cases (eqb i n) (λ q. rw (eqb-true i n q) p.0) (λ q. each test n i p.1 (omega (arith, eqb-false i n q)))

-- ---- whole numbers that are the same

abbrev alike : ℤ → ℤ → Bool
alike (pos a) (pos b) = eqb a b
alike (negsuc a) (negsuc b) = eqb a b
alike (pos a) (negsuc b) = false
alike (negsuc a) (pos b) = false

alike_is : (v w : ℤ) → alike v w ≡ true → v ≡ w
alike_is (pos a) (pos b) q = ap pos (eqb-true a b q)
alike_is (negsuc a) (negsuc b) q = ap negsuc (eqb-true a b q)
alike_is (pos a) (negsuc b) q = cc
alike_is (negsuc a) (pos b) q = cc

-- ---- tenths

-- of the reading that is held as r: as the program works them out, and as they are defined
abbrev tenths_test : ℕ → Bool
tenths_test r =
    alike (tenths_of (degrees_of (unheld_of r))) (tenths_figure (unheld_of r)) && alike (floor_of 10 (degrees_of (unheld_of r))) (tenths_figure (unheld_of r))

tenths_all : all_below tenths_test 2048 ≡ true
unfolding all_below tenths_of whole_of floor_of tenths_figure quotient_of round add mul lt to_unsigned
tenths_all = refl

-- every reading is held so
held_as : (t : ℤ) → lies (from_to (negsuc 1023) (pos 1023)) t ≡ true → (r : ℕ) × (r < 2048) × (unheld_of r ≡ t)
held_as (pos n) y =
    let h = leb-true n 1023 y in
    (1024 + n, omega arith, rw (le-ltb (1024 + n) 1024 (omega arith)) (ap pos (omega arith)))
held_as (negsuc n) y =
    let h = leb-true n 1023 (both (leb n 1023) true y).0 in
    (1023 - n, omega arith, rw (lt-ltb (1023 - n) 1024 (omega arith)) (ap negsuc (omega arith)))

module _ (t : ℤ) (y : lies (from_to (negsuc 1023) (pos 1023)) t ≡ true) where
  tenths_both : (alike (tenths_of (degrees_of t)) (tenths_figure t) ≡ true) × (alike (floor_of 10 (degrees_of t)) (tenths_figure t) ≡ true)
  tenths_both =
      let r = held_as t y in
      let p : tenths_test r.0 ≡ true = each tenths_test 2048 r.0 tenths_all r.1 in
      both _ _ (rw r.2 at p)

  pub tenths_worked : tenths_of (degrees_of t) ≡ tenths_figure t
  tenths_worked = alike_is _ _ tenths_both.0

  pub tenths_floor : floor_of 10 (degrees_of t) ≡ tenths_figure t
  tenths_floor = alike_is _ _ tenths_both.1

-- ---- revolutions

abbrev turns_test : ℕ → Bool
turns_test n =
    alike (revolutions_of (quotient_of (pos 675000) (suc n))) (pos (675000 / suc n))
    && alike (floor_of 1 (quotient_of (pos 675000) (suc n))) (pos (675000 / suc n))

turns_all : all_below turns_test 2032 ≡ true
unfolding all_below whole_of floor_of quotient_of round lt to_unsigned
turns_all = refl

turns_both : (n : ℕ) → 0 < n → n ≤ 2032
    → (alike (revolutions_of (quotient_of (pos 675000) n)) (pos (675000 / n)) ≡ true)
    × (alike (floor_of 1 (quotient_of (pos 675000) n)) (pos (675000 / n)) ≡ true)
turns_both zero p l = absurd (omega arith)
turns_both (suc n) p l = both _ _ (each turns_test 2032 n turns_all (omega arith))

module _ (n : ℕ) (low : 0 < n) (high : n ≤ 2032) where
  pub turns_worked : revolutions_of (quotient_of (pos 675000) n) ≡ pos (675000 / n)
  turns_worked = alike_is _ _ (turns_both n low high).0

  pub turns_floor : floor_of 1 (quotient_of (pos 675000) n) ≡ pos (675000 / n)
  turns_floor = alike_is _ _ (turns_both n low high).1
