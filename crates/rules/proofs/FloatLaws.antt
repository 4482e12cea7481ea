-- Eighths of a degree are held exactly; a divisor is from 1 to 8. Assumes nothing.
use Prim.Native.Nat.{ℕ, zero, suc, ◌^◌, ◌<◌, ◌≤◌}
use mathlib.Core.Path.{◌≡◌, sym}
use mathlib.Core.Bool.{Bool, true, false}
use mathlib.Core.List.{[], ◌∷◌}
use native.Mathlib.Omega.{arith}
use native.Mathlib.Nat.{mul_assoc, lt_of_lt_of_le}
use lib.Dec.{lit<, lit≤, leb}
use lib.IntN.{ℤ, pos, negsuc}
use lib.ListN.{get_or}
use lib.Pow.{shl_lt}
use lib.Ieee.{binary64, round}
use lib.Ieee.Exact.{HasValue, round_exact}
use borrow.Author.Tests.{leb-true}
use Rattle.integer.proofs.BoolLaws.{both}
use Rattle.rules.specs.Fields.{speed_range}
use Rattle.rules.specs.Events.{from_to, lies}
use Rattle.rules.specs.Panels.{quotient_of, degrees_of, divisor_of}
use Rattle.rules.specs.Floats.{Exactly}

-- n / 8 is n times 2 ^ 1071 of the smallest values
eighths_value : (s : Bool) (n : ℕ) → n < 2 ^ 53 → HasValue (round binary64 s n 8) s n 8
eighths_value s n h = round_exact binary64 s n 8 n 1071 (lit< tt) h (lt_of_lt_of_le (shl_lt 53 1071 h) (lit≤ tt)) (sym (mul_assoc n (2 ^ 1071) 8))

-- so is every reading
pub exact : (t : ℤ) → lies (from_to (negsuc 1023) (pos 1023)) t ≡ true → Exactly (degrees_of t) t 8
unfolding quotient_of
exact (pos n) y = eighths_value false n (omega (arith, leb-true n 1023 y))
exact (negsuc n) y = eighths_value true (suc n) (omega (arith, leb-true n 1023 (both (leb n 1023) true y).0))

by_code : (code : ℕ) → (0 < get_or (1 ∷ 2 ∷ 4 ∷ []) code 8) × (get_or (1 ∷ 2 ∷ 4 ∷ []) code 8 ≤ 8)
by_code zero = (omega arith, omega arith)
by_code (suc zero) = (omega arith, omega arith)
by_code (suc (suc zero)) = (omega arith, omega arith)
by_code (suc (suc (suc n))) = (omega arith, omega arith)

pub divisor_within : (byte : ℕ) → (0 < divisor_of byte) × (divisor_of byte ≤ 8)
unfolding divisor_of
divisor_within byte = by_code (speed_range byte)
