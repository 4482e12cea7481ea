-- A text on one line, and that the decimals are such. Assumes nothing.
use Prim.Native.Nat.{ℕ, zero, suc, ◌+◌, ◌/◌, ◌%◌}
use mathlib.Core.Path.{◌≡◌}
use mathlib.Core.List.{List, [], ◌∷◌, ◌++◌}
use mathlib.Core.Bool.{Bool, true, false, cond}
use native.Mathlib.Omega.{arith}
use lib.Dec.{ltb}
use lib.IntN.{ℤ, pos, negsuc}
use Rattle.decimal.specs.Decimal.{digits_of, decimal_of, text_of}

-- no byte of the list is a newline
abbrev pub Clean : List ℕ → Type 0
Clean [] = Unit {0}
Clean (b ∷ bs) = (b ≡ 10 → ⊥) × Clean bs

pub clean_append : (a b : List ℕ) → Clean a → Clean b → Clean (a ++ b)
clean_append [] b h h' = h'
clean_append (x ∷ a) b h h' = (h.0, clean_append a b h.1 h')

digits_clean : (k n : ℕ) → Clean (digits_of k n)
unfolding digits_of
digits_clean zero n = (omega arith, tt)
digits_clean (suc k) n = go (ltb n 10) (digits_clean k (n / 10))
  where
    go : (t : Bool) → Clean (digits_of k (n / 10)) → Clean (cond t ((48 + n) ∷ []) (digits_of k (n / 10) ++ ((48 + n % 10) ∷ [])))
    go true ih = (omega arith, tt)
    go false ih = clean_append (digits_of k (n / 10)) ((48 + n % 10) ∷ []) ih (omega arith, tt)

pub decimal_clean : (n : ℕ) → Clean (decimal_of n)
unfolding decimal_of
decimal_clean n = digits_clean n n

pub no_newline : (z : ℤ) → Clean (text_of z)
unfolding text_of
no_newline (pos n) = decimal_clean n
no_newline (negsuc n) = (omega arith, decimal_clean (suc n))
