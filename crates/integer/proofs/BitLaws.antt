-- A byte has no bit past place 7; a merged byte has each bit from where the mask says. Assumes nothing.
use Prim.Native.Nat.{ℕ, zero, suc, ◌-◌, ◌/◌, ◌%◌, ◌^◌, ◌<◌, ◌≤◌}
use mathlib.Core.Bool.{cond, false}
use mathlib.Core.Path.{◌≡◌, refl, ap, ◌∙◌}
use native.Mathlib.Omega.{arith}
use native.Mathlib.Nat.{div-eq_of_lt}
use lib.Pow.{pow_mono}
use lib.Bits.{bit_and, bit_or, and_shr, or_shr, and_mod, or_mod}
use lib.Dec.{eqb}
use Rattle.integer.specs.Bits.{bit_of, merged_of}

pub no_bit : (byte place : ℕ) → byte < 256 → 8 ≤ place → bit_of byte place ≡ false
no_bit byte place h l =
    let p : 2 ^ 8 ≤ 2 ^ place = pow_mono {i = 8} l in
    let z : byte / 2 ^ place ≡ 0 = div-eq_of_lt (omega arith) in
    rw z

-- what holds of each place from 0 to 7
at_eight : (P : ℕ → Type 0) → P 0 → P 1 → P 2 → P 3 → P 4 → P 5 → P 6 → P 7 → (p : ℕ) → p < 8 → P p
at_eight P a b c d e f g i zero h = a
at_eight P a b c d e f g i (suc zero) h = b
at_eight P a b c d e f g i (suc (suc zero)) h = c
at_eight P a b c d e f g i (suc (suc (suc zero))) h = d
at_eight P a b c d e f g i (suc (suc (suc (suc zero)))) h = e
at_eight P a b c d e f g i (suc (suc (suc (suc (suc zero))))) h = f
at_eight P a b c d e f g i (suc (suc (suc (suc (suc (suc zero)))))) h = g
at_eight P a b c d e f g i (suc (suc (suc (suc (suc (suc (suc zero))))))) h = i
at_eight P a b c d e f g i (suc (suc (suc (suc (suc (suc (suc (suc p)))))))) h = absurd (omega arith)

-- the bits of the complement of a byte
complement : (m : ℕ) → m < 256 → (p : ℕ) → p < 8 → (255 - m) / 2 ^ p % 2 ≡ 1 - m / 2 ^ p % 2
complement m l =
    at_eight (λ (p : ℕ). (255 - m) / 2 ^ p % 2 ≡ 1 - m / 2 ^ p % 2)
    (omega arith) (omega arith) (omega arith) (omega arith) (omega arith) (omega arith) (omega arith) (omega arith)

-- one bit: new where the mask is 1, else old
merged_bit : (o n m : ℕ) → o < 2 → n < 2 → m < 2 → eqb (bit_or (bit_and o (1 - m)) (bit_and n m)) 1 ≡ cond (eqb m 1) (eqb n 1) (eqb o 1)
merged_bit zero zero zero a b c = refl
merged_bit zero zero (suc zero) a b c = refl
merged_bit zero (suc zero) zero a b c = refl
merged_bit zero (suc zero) (suc zero) a b c = refl
merged_bit (suc zero) zero zero a b c = refl
merged_bit (suc zero) zero (suc zero) a b c = refl
merged_bit (suc zero) (suc zero) zero a b c = refl
merged_bit (suc zero) (suc zero) (suc zero) a b c = refl
merged_bit (suc (suc o)) n m a b c = absurd (omega arith)
merged_bit zero (suc (suc n)) m a b c = absurd (omega arith)
merged_bit (suc zero) (suc (suc n)) m a b c = absurd (omega arith)
merged_bit zero zero (suc (suc m)) a b c = absurd (omega arith)
merged_bit zero (suc zero) (suc (suc m)) a b c = absurd (omega arith)
merged_bit (suc zero) zero (suc (suc m)) a b c = absurd (omega arith)
merged_bit (suc zero) (suc zero) (suc (suc m)) a b c = absurd (omega arith)

digit : (a b p : ℕ) → bit_and a b / 2 ^ p % 2 ≡ bit_and (a / 2 ^ p % 2) (b / 2 ^ p % 2)
digit a b p = ap (λ (x : ℕ). x % 2) (and_shr a b p) ∙ and_mod (a / 2 ^ p) (b / 2 ^ p) 1

module _ (mask old new place : ℕ) (byte : mask < 256) (h : place < 8) where
  merged_digit :
      merged_of mask old new / 2 ^ place % 2
      ≡ bit_or (bit_and (old / 2 ^ place % 2) (1 - mask / 2 ^ place % 2)) (bit_and (new / 2 ^ place % 2) (mask / 2 ^ place % 2))
  unfolding merged_of
  merged_digit =
      ap (λ (x : ℕ). x % 2) (or_shr (bit_and old (255 - mask)) (bit_and new mask) place)
      ∙ or_mod (bit_and old (255 - mask) / 2 ^ place) (bit_and new mask / 2 ^ place) 1
      ∙ ap (λ (x : ℕ). bit_or x (bit_and new mask / 2 ^ place % 2)) (digit old (255 - mask) place)
      ∙ ap (λ (x : ℕ). bit_or (bit_and (old / 2 ^ place % 2) x) (bit_and new mask / 2 ^ place % 2)) (complement mask byte place h)
      ∙ ap (bit_or (bit_and (old / 2 ^ place % 2) (1 - mask / 2 ^ place % 2))) (digit new mask place)

  pub bit_merged : bit_of (merged_of mask old new) place ≡ cond (bit_of mask place) (bit_of new place) (bit_of old place)
  bit_merged =
      ap (λ (x : ℕ). eqb x 1) merged_digit
      ∙ merged_bit (old / 2 ^ place % 2) (new / 2 ^ place % 2) (mask / 2 ^ place % 2) (omega arith) (omega arith) (omega arith)
