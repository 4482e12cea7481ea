-- Laws of writing, in `specs/Decimal.antt`: the decimal of a number, and how long it is. Assumes nothing.
use Prim.Native.Nat.{ℕ, zero, suc, ◌+◌, ◌/◌, ◌%◌, ◌^◌, ◌≤◌, ◌<◌}
use mathlib.Core.Path.{◌≡◌, refl, ap}
use mathlib.Core.List.{List, [], ◌∷◌, ◌++◌}
use mathlib.Core.Bool.{Bool, true, false, cond}
use native.Mathlib.Omega.{arith}
use mir.Syntax.{w32}
use mir.Val.{Fits, SFits}
use lib.IntN.{ℤ, pos, negsuc}
use lib.Dec.{ltb}
use lib.ListN.{length, length-append}
use borrow.Author.Tests.{lt-ltb, le-ltb, ltb-true, ltb-false}
use Rattle.decimal.specs.Decimal.{digits_of, decimal_of, text_of}

-- ---- the decimal of a number

-- enough fuel is as good as more
digits_fuel : (k k' n : ℕ) → n ≤ k → n ≤ k' → digits_of k n ≡ digits_of k' n
unfolding digits_of
digits_fuel zero zero n h h' = refl
digits_fuel zero (suc k') n h h' = rw (lt-ltb n 10 (omega arith))
digits_fuel (suc k) zero n h h' = rw (lt-ltb n 10 (omega arith))
digits_fuel (suc k) (suc k') n h h' =
    ap (λ (l : List ℕ). cond (ltb n 10) ((48 + n) ∷ []) (l ++ ((48 + n % 10) ∷ []))) (digits_fuel k k' (n / 10) (omega arith) (omega arith))

-- a decimal of one digit, and of more
pub decimal_small : (n : ℕ) → n < 10 → decimal_of n ≡ (48 + n) ∷ []
unfolding decimal_of digits_of
decimal_small zero h = refl
decimal_small (suc n) h = rw (lt-ltb (suc n) 10 h)

pub decimal_large : (n : ℕ) → 10 ≤ n → decimal_of n ≡ decimal_of (n / 10) ++ ((48 + n % 10) ∷ [])
unfolding decimal_of digits_of
decimal_large zero h = absurd (omega arith)
decimal_large (suc n) h =
    rw (le-ltb (suc n) 10 h) (ap (λ (l : List ℕ). l ++ ((48 + suc n % 10) ∷ [])) (digits_fuel n (suc n / 10) (suc n / 10) (omega arith) (omega arith)))

pub small_length : (n : ℕ) → n < 10 → length (decimal_of n) ≡ 1
small_length n h = rw (decimal_small n h)

pub decimal_length : (n : ℕ) → 10 ≤ n → length (decimal_of n) ≡ length (decimal_of (n / 10)) + 1
decimal_length n h = rw (decimal_large n h) (length-append (decimal_of (n / 10)) ((48 + n % 10) ∷ []))

-- no decimal is longer than its fuel allows
digits_bound : (k n : ℕ) → length (digits_of k n) ≤ k + 1
unfolding digits_of
digits_bound zero n = omega arith
digits_bound (suc k) n = go (ltb n 10) (digits_bound k (n / 10))
  where
    go : (t : Bool) → length (digits_of k (n / 10)) ≤ k + 1 → length (cond t ((48 + n) ∷ []) (digits_of k (n / 10) ++ ((48 + n % 10) ∷ []))) ≤ suc k + 1
    go true ih = omega arith
    go false ih = simp length-append (omega arith)

pub decimal_bound : (n : ℕ) → length (decimal_of n) ≤ n + 1
unfolding decimal_of
decimal_bound n = digits_bound n n

-- below the power of ten there are at most so many digits
pub decimal_width : (k n : ℕ) → n < 10 ^ suc k → length (decimal_of n) ≤ suc k
decimal_width zero n h = omega (arith, small_length n (omega arith))
decimal_width (suc k) n h = go (ltb n 10) refl (decimal_width k (n / 10) (omega arith))
  where
    go : (t : Bool) → ltb n 10 ≡ t → length (decimal_of (n / 10)) ≤ suc k → length (decimal_of n) ≤ suc (suc k)
    go true q ih = omega (arith, small_length n (ltb-true n 10 q))
    go false q ih = omega (arith, decimal_length n (ltb-false n 10 q))

-- of a number of 32 bits, and of a signed one
pub word_width : (n : ℕ) → Fits w32 n → length (decimal_of n) ≤ 10
word_width n f = decimal_width 9 n (omega arith)

pub text_width : (v : ℤ) → SFits w32 v → length (text_of v) ≤ 11
unfolding text_of
text_width (pos n) f = omega (arith, word_width n (omega (arith, f.sfits)))
text_width (negsuc n) f = omega (arith, word_width (suc n) (omega (arith, f.sfits)))
