-- Status bytes of which a bit goes from 0 to 1, and of which none does. Assumes nothing.
use Prim.Native.Nat.{ℕ, ◌<◌}
use mathlib.Core.Path.{◌≡◌, refl}
use mathlib.Core.Bool.{Bool, true, false, not, ◌&&◌, or-true}
use native.Mathlib.Omega.{arith}
use Rattle.integer.specs.Bits.{bit_of}
use Rattle.event.proofs.Laws.{at_place}
use Rattle.rules.specs.Shows.{risen, some_risen}

-- one that does
pub some_risen_lem : (was now k : ℕ) → k < 8 → bit_of was k ≡ false → bit_of now k ≡ true → some_risen was now ≡ true
unfolding some_risen
some_risen_lem was now k l =
    at_place (λ k. bit_of was k ≡ false → bit_of now k ≡ true → some_risen was now ≡ true) 8 (
      λ p q. simp (p, q),
      (
        λ p q. simp (p, q, or-true),
        (
          λ p q. simp (p, q, or-true),
          (
            λ p q. simp (p, q, or-true),
            (
              λ p q. simp (p, q, or-true),
              (λ p q. simp (p, q, or-true), (λ p q. simp (p, q, or-true), (λ p q. simp (p, q, or-true), tt))),
            ),
          ),
        ),
      ),
    ) k l

-- none that does
not_risen : (a b : Bool) → (a ≡ false → b ≡ false) → (not a && b) ≡ false
not_risen true b q = refl
not_risen false b q = q refl

pub none_risen : (was now : ℕ) → ((k : ℕ) → k < 8 → bit_of was k ≡ false → bit_of now k ≡ false) → some_risen was now ≡ false
unfolding some_risen
none_risen was now q = rw (
  at 0 (omega arith),
  at 1 (omega arith),
  at 2 (omega arith),
  at 3 (omega arith),
  at 4 (omega arith),
  at 5 (omega arith),
  at 6 (omega arith),
  at 7 (omega arith),
)
  where
    at : (k : ℕ) → k < 8 → risen was now k ≡ false
    at k l = not_risen (bit_of was k) (bit_of now k) (q k l)
