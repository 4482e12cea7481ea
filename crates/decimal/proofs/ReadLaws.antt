-- Laws of reading, in `specs/Decimal.antt`: digits, magnitudes, signs. Assumes nothing.
use Prim.Native.Nat.{ℕ, zero, suc, ◌+◌, ◌-◌, ◌*◌, ◌≤◌, ◌<◌}
use mathlib.Core.Path.{◌≡◌, refl, sym, ap, ◌∙◌}
use mathlib.Core.List.{List, [], ◌∷◌}
use mathlib.Core.Bool.{Bool, true, false, cond, ◌&&◌}
use native.Mathlib.Omega.{arith}
use native.Mathlib.Numerals.{add-one}
use lib.IntN.{ℤ}
use lib.Dec.{leb}
use lib.ListN.{length, get_or, take, drop}
use lib.Seq.{drop-cons, drop-length, take_all}
use borrow.Author.Tests.{le-ltb, le-leb, lt-leb, eq-eqb, ne_eqb, leb-false}
use Rattle.std.specs.Prelude.{Option, Some, None}
use Rattle.std.specs.Char.{is_ascii_digit}
use Rattle.decimal.specs.Decimal.{digits_from, unsigned_of, positive, negative, parse_of, capped}

-- ---- a run of digits

-- what is Bad stays so under a test
bad_under : (t : Bool) (m : Option ℕ) → capped m ≡ None → capped (cond t m None) ≡ None
unfolding capped
bad_under true m h = h
bad_under false m h = refl

-- a value above the cap stays above it, whatever follows
over : (v : ℕ) (l : List ℕ) → 2147483648 < v → capped (digits_from v l) ≡ None
unfolding capped digits_from
over v [] h = simp (lt-leb v 2147483648 h)
over v (b ∷ bs) h =
    bad_under (leb 48 b && leb b 57) (digits_from (v * 10 + (b - 48)) bs) (over (v * 10 + (b - 48)) bs (omega arith))

-- what the reader of a run answers at each byte, from the invariant that the digits of s are those from i on
module _ (v i : ℕ) (s : List ℕ) (inv : digits_from 0 s ≡ digits_from v (drop i s)) where
  -- the digit at i, and those after it
  step : i < length s
      → digits_from 0 s ≡ cond (leb 48 (get_or s i 0) && leb (get_or s i 0) 57) (digits_from (v * 10 + (get_or s i 0 - 48)) (drop (i + 1) s)) None
  unfolding digits_from
  step h = inv ∙ rw (drop-cons s i 0, add-one)

  -- the byte at i is a digit, or none
  module _ {t : Bool} (e : t ≡ is_ascii_digit (get_or s i 0)) where
    pub run_bad : i < length s → t ≡ false → None ≡ capped (digits_from 0 s)
    unfolding capped
    run_bad h n = rw (step h, ← e, n)

    pub run_more : {d : ℕ} → i < length s → t ≡ true → d ≡ get_or s i 0 - 48 → digits_from 0 s ≡ digits_from (v * 10 + d) (drop (i + 1) s)
    run_more h y q = rw (step h, ← e, y, q)

    pub run_over : {d : ℕ} → i < length s → t ≡ true → d ≡ get_or s i 0 - 48 → 2147483648 < v * 10 + d → None ≡ capped (digits_from 0 s)
    run_over {d} h y q o = sym (rw (run_more h y q) (over (v * 10 + d) (drop (i + 1) s) o))

  pub run_end : i ≤ length s → length s ≤ i → v ≤ 2147483648 → Some v ≡ capped (digits_from 0 s)
  unfolding capped digits_from
  run_end h h' l = let e : i ≡ length s = omega arith in rw (inv, e, drop-length, le-leb v 2147483648 l)

-- ---- a magnitude, by its first byte

pub unsigned_none : (s : List ℕ) → length s < 1 → None ≡ capped (unsigned_of s)
unfolding capped unsigned_of
unsigned_none [] h = refl
unsigned_none (b ∷ bs) h = absurd (omega arith)

pub unsigned_zero : (s : List ℕ) → 1 ≤ length s → length s < 2 → get_or s 0 0 ≡ 48 → Some 0 ≡ capped (unsigned_of s)
unfolding capped unsigned_of
unsigned_zero [] l u h = absurd (omega arith)
unsigned_zero (b ∷ []) l u h = rw (eq-eqb b 48 h)
unsigned_zero (b ∷ b' ∷ bs) l u h = absurd (omega arith)

pub unsigned_lead : (s : List ℕ) → 2 ≤ length s → get_or s 0 0 ≡ 48 → None ≡ capped (unsigned_of s)
unfolding capped unsigned_of
unsigned_lead [] l h = refl
unsigned_lead (b ∷ []) l h = absurd (omega arith)
unsigned_lead (b ∷ b' ∷ bs) l h = rw (eq-eqb b 48 h)

pub unsigned_run : (s : List ℕ) {m : Option ℕ} → 1 ≤ length s → (get_or s 0 0 ≡ 48 → ⊥) → m ≡ capped (digits_from 0 s) → m ≡ capped (unsigned_of s)
unfolding unsigned_of
unsigned_run [] h h' e = absurd (omega arith)
unsigned_run (b ∷ bs) h h' e = rw (ne_eqb b 48 h') e

-- ---- a sign and a magnitude

-- the cap changes no number
cap_positive : (n : Option ℕ) → positive (capped n) ≡ positive n
unfolding capped
cap_positive (Some v) = go (leb v 2147483648) refl
  where
    go : (t : Bool) → leb v 2147483648 ≡ t → positive (cond t (Some v) None) ≡ positive (Some v)
    go true h = refl
    go false h = rw (le-ltb v 2147483648 (omega (arith, leb-false v 2147483648 h)))
cap_positive None = refl

cap_negative : (n : Option ℕ) → negative (capped n) ≡ negative n
unfolding capped
cap_negative (Some zero) = refl
cap_negative (Some (suc v)) = go (leb (suc v) 2147483648) refl
  where
    go : (t : Bool) → leb (suc v) 2147483648 ≡ t → negative (cond t (Some (suc v)) None) ≡ negative (Some (suc v))
    go true h = refl
    go false h = rw (le-ltb v 2147483648 (omega (arith, leb-false (suc v) 2147483648 h)))
cap_negative None = refl

-- ---- a number

minus : (s : List ℕ) {m : Option ℕ} → get_or s 0 0 ≡ 45 → m ≡ capped (unsigned_of (take (length s - 1) (drop 1 s))) → parse_of s ≡ negative m
unfolding parse_of
minus [] h e = absurd (omega arith)
minus (b ∷ bs) h e =
    rw (eq-eqb b 45 h, e, cap_negative) (ap (λ (l : List ℕ). negative (unsigned_of l)) (sym (take_all (length (b ∷ bs) - 1) bs (omega arith))))

plus : (s : List ℕ) {m : Option ℕ} → (get_or s 0 0 ≡ 45 → ⊥) → m ≡ capped (unsigned_of s) → parse_of s ≡ positive m
unfolding parse_of capped unsigned_of
plus [] h e = rw e
plus (b ∷ bs) h e = rw (ne_eqb b 45 h, e, cap_positive)

-- an empty list has no sign
pub no_sign : (s : List ℕ) → length s < 1 → get_or s 0 0 ≡ 45 → ⊥
no_sign [] l h = omega arith
no_sign (b ∷ bs) l h = omega arith

module _ (s : List ℕ) where
  pub parse_minus : {v : ℕ} {r : Option ℤ} → get_or s 0 0 ≡ 45 → Some v ≡ capped (unsigned_of (take (length s - 1) (drop 1 s))) → r ≡ negative (Some v)
      → r ≡ parse_of s
  parse_minus h e a = rw (a, minus s h e)

  pub parse_minus_bad : get_or s 0 0 ≡ 45 → None ≡ capped (unsigned_of (take (length s - 1) (drop 1 s))) → None ≡ parse_of s
  parse_minus_bad h e = rw (minus s h e)

  pub parse_plus : {v : ℕ} {r : Option ℤ} → (get_or s 0 0 ≡ 45 → ⊥) → Some v ≡ capped (unsigned_of s) → r ≡ positive (Some v) → r ≡ parse_of s
  parse_plus h e a = rw (a, plus s h e)

  pub parse_plus_bad : (get_or s 0 0 ≡ 45 → ⊥) → None ≡ capped (unsigned_of s) → None ≡ parse_of s
  parse_plus_bad h e = rw (plus s h e)
