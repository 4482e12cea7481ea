-- A packed byte gives each of its bits back, and what a mask leaves of it: tests of all the bytes, computed. Assumes nothing.
use Prim.Native.Nat.{ℕ, zero, suc, ◌+◌, ◌*◌, ◌<◌}
use mathlib.Core.Path.{◌≡◌, refl, sym}
use mathlib.Core.Bool.{Bool, true, false, cond, not, ◌&&◌, ◌||◌}
use mathlib.Core.List.{[], ◌∷◌}
use native.Mathlib.Omega.{arith}
use lib.Bits.{bit_and}
use lib.Dec.{ltb}
use lib.ListN.{get_or}
use borrow.Author.Tests.{ltb-true}
use Rattle.integer.specs.Bits.{bit_of, flag_of, weighed, packed}
use Rattle.integer.proofs.BoolLaws.{both}

-- ---- what passes at both truth values holds of each; and so for two, four and eight of them

abbrev one : (Bool → Bool) → Bool
one f = f true && f false

at_one : (f : Bool → Bool) → one f ≡ true → (a : Bool) → f a ≡ true
at_one f h true = (both (f true) (f false) h).0
at_one f h false = (both (f true) (f false) h).1

abbrev two : (Bool → Bool → Bool) → Bool
two f = one (λ a. one (f a))

at_two : (f : Bool → Bool → Bool) → two f ≡ true → (a b : Bool) → f a b ≡ true
at_two f h a b = at_one (f a) (at_one (λ x. one (f x)) h a) b

abbrev four : (Bool → Bool → Bool → Bool → Bool) → Bool
four f = two (λ a b. two (f a b))

at_four : (f : Bool → Bool → Bool → Bool → Bool) → four f ≡ true → (a b c d : Bool) → f a b c d ≡ true
at_four f h a b c d = at_two (f a b) (at_two (λ x y. two (f x y)) h a b) c d

abbrev eight : (Bool → Bool → Bool → Bool → Bool → Bool → Bool → Bool → Bool) → Bool
eight f = four (λ a b c d. four (f a b c d))

at_eight :
    (f : Bool → Bool → Bool → Bool → Bool → Bool → Bool → Bool → Bool) → eight f ≡ true →
    (a b c d e g i j : Bool) → f a b c d e g i j ≡ true
at_eight f h a b c d e g i j = at_four (f a b c d) (at_four (λ x y z w. four (f x y z w)) h a b c d) e g i j

-- ---- what passes at each place below n holds of each

below : ℕ → (ℕ → Bool) → Bool
below zero f = true
below (suc n) f = f 0 && below n (λ k. f (suc k))

at_below : (n : ℕ) (f : ℕ → Bool) → below n f ≡ true → (k : ℕ) → k < n → f k ≡ true
unfolding below
at_below zero f h k l = absurd (omega arith)
at_below (suc n) f h zero l = (both (f 0) (below n (λ k. f (suc k))) h).0
at_below (suc n) f h (suc k) l = at_below n (λ k. f (suc k)) (both (f 0) (below n (λ k. f (suc k))) h).1 k (omega arith)

same : Bool → Bool → Bool
same true b = b
same false b = not b

same_is : (a b : Bool) → same a b ≡ true → a ≡ b
unfolding same
same_is true b h = sym h
same_is false true h = h
same_is false false h = refl

-- ---- the packed byte

-- a bit times its weight
scaled : (b : Bool) (weight : ℕ) → flag_of b * weight ≡ weighed b weight
scaled true weight = omega arith
scaled false weight = omega arith

pub summed :
    (b0 b1 b2 b3 b4 b5 b6 b7 : Bool) →
    flag_of b0 + flag_of b1 * 2 + flag_of b2 * 4 + flag_of b3 * 8 + flag_of b4 * 16 + flag_of b5 * 32 + flag_of b6 * 64 + flag_of b7 * 128
    ≡ packed b0 b1 b2 b3 b4 b5 b6 b7
unfolding packed
summed b0 b1 b2 b3 b4 b5 b6 b7 =
    rw (← scaled b1 2, ← scaled b2 4, ← scaled b3 8, ← scaled b4 16, ← scaled b5 32, ← scaled b6 64, ← scaled b7 128) refl

abbrev given_back : (b0 b1 b2 b3 b4 b5 b6 b7 : Bool) (k : ℕ) → Bool
given_back b0 b1 b2 b3 b4 b5 b6 b7 k = same (bit_of (packed b0 b1 b2 b3 b4 b5 b6 b7) k) (get_or (b0 ∷ b1 ∷ b2 ∷ b3 ∷ b4 ∷ b5 ∷ b6 ∷ b7 ∷ []) k false)

module _ (b0 b1 b2 b3 b4 b5 b6 b7 : Bool) where
  pub bit_packed : (k : ℕ) → k < 8 → bit_of (packed b0 b1 b2 b3 b4 b5 b6 b7) k ≡ get_or (b0 ∷ b1 ∷ b2 ∷ b3 ∷ b4 ∷ b5 ∷ b6 ∷ b7 ∷ []) k false
  unfolding packed below same
  bit_packed k l = same_is _ _ (at_below 8 (given_back b0 b1 b2 b3 b4 b5 b6 b7)
      (at_eight (λ b0 b1 b2 b3 b4 b5 b6 b7. below 8 (given_back b0 b1 b2 b3 b4 b5 b6 b7)) refl b0 b1 b2 b3 b4 b5 b6 b7) k l)

  pub bit_0 : bit_of (packed b0 b1 b2 b3 b4 b5 b6 b7) 0 ≡ b0
  bit_0 = bit_packed 0 (omega arith)

  pub bit_1 : bit_of (packed b0 b1 b2 b3 b4 b5 b6 b7) 1 ≡ b1
  bit_1 = bit_packed 1 (omega arith)

  pub bit_2 : bit_of (packed b0 b1 b2 b3 b4 b5 b6 b7) 2 ≡ b2
  bit_2 = bit_packed 2 (omega arith)

  pub bit_3 : bit_of (packed b0 b1 b2 b3 b4 b5 b6 b7) 3 ≡ b3
  bit_3 = bit_packed 3 (omega arith)

  pub bit_4 : bit_of (packed b0 b1 b2 b3 b4 b5 b6 b7) 4 ≡ b4
  bit_4 = bit_packed 4 (omega arith)

  pub bit_5 : bit_of (packed b0 b1 b2 b3 b4 b5 b6 b7) 5 ≡ b5
  bit_5 = bit_packed 5 (omega arith)

  pub bit_6 : bit_of (packed b0 b1 b2 b3 b4 b5 b6 b7) 6 ≡ b6
  bit_6 = bit_packed 6 (omega arith)

  pub bit_7 : bit_of (packed b0 b1 b2 b3 b4 b5 b6 b7) 7 ≡ b7
  bit_7 = bit_packed 7 (omega arith)

  pub packed_small : packed b0 b1 b2 b3 b4 b5 b6 b7 < 256
  unfolding packed
  packed_small = ltb-true (packed b0 b1 b2 b3 b4 b5 b6 b7) 256
      (at_eight (λ b0 b1 b2 b3 b4 b5 b6 b7. ltb (packed b0 b1 b2 b3 b4 b5 b6 b7) 256) refl b0 b1 b2 b3 b4 b5 b6 b7)

-- some bit is on, bit 5 counting only where it is let through
abbrev left_by_mask : (b0 b1 b2 b3 b4 b5 b6 b7 on : Bool) → Bool
left_by_mask b0 b1 b2 b3 b4 b5 b6 b7 on =
    same (ltb 0 (bit_and (packed b0 b1 b2 b3 b4 b5 b6 b7) (cond on 0xFF 0xDF))) (b0 || (b1 || (b2 || (b3 || (b4 || ((b5 && on) || (b6 || b7)))))))

pub pending_law :
    (b0 b1 b2 b3 b4 b5 b6 b7 on : Bool) →
    ltb 0 (bit_and (packed b0 b1 b2 b3 b4 b5 b6 b7) (cond on 0xFF 0xDF)) ≡ (b0 || (b1 || (b2 || (b3 || (b4 || ((b5 && on) || (b6 || b7)))))))
unfolding packed same
pending_law b0 b1 b2 b3 b4 b5 b6 b7 on =
    same_is _ _ (at_one (left_by_mask b0 b1 b2 b3 b4 b5 b6 b7)
    (at_eight (λ b0 b1 b2 b3 b4 b5 b6 b7. one (left_by_mask b0 b1 b2 b3 b4 b5 b6 b7)) refl b0 b1 b2 b3 b4 b5 b6 b7) on)
