-- Document 01, "Trace text and report": decimals that fit a signed 32-bit number, without plus, leading zero or -0.
use Rattle.std.specs.Prelude.{ℕ, zero, suc, ◌+◌, ◌-◌, ◌*◌, ◌/◌, ◌%◌, List, [], ◌∷◌, ◌++◌, cond, ◌&&◌, ltb, leb, eqb, ℤ, pos, negsuc, Option, Some, None}

-- ---- reading

-- the value of the digits of a list, after digits of value v; Bad where a byte is no digit
unfoldable pub digits_from : ℕ → List ℕ → Option ℕ
digits_from v [] = Some v
digits_from v (b ∷ bs) = cond (leb 48 b && leb b 57) (digits_from (v * 10 + (b - 48)) bs) None

-- 0 where nothing follows its zero
abbrev pub alone : List ℕ → Option ℕ
alone [] = Some 0
alone (b ∷ bs) = None

-- an unsigned decimal without a leading zero
unfoldable pub unsigned_of : List ℕ → Option ℕ
unsigned_of [] = None
unsigned_of (b ∷ bs) = cond (eqb b 48) (alone bs) (digits_from 0 (b ∷ bs))

-- a magnitude as a number, and negated, where it fits a signed 32-bit number; there is no -0
abbrev pub positive : Option ℕ → Option ℤ
positive (Some v) = cond (ltb v 2147483648) (Some (pos v)) None
positive None = None

abbrev pub negative : Option ℕ → Option ℤ
negative (Some zero) = None
negative (Some (suc v)) = cond (ltb v 2147483648) (Some (negsuc v)) None
negative None = None

-- the number that a list of bytes is the decimal of
unfoldable pub parse_of : List ℕ → Option ℤ
parse_of [] = None
parse_of (b ∷ bs) = cond (eqb b 45) (negative (unsigned_of bs)) (positive (unsigned_of (b ∷ bs)))

-- how far the reader of magnitudes counts: no number of 32 bits is further from 0
unfoldable pub capped : Option ℕ → Option ℕ
capped (Some v) = cond (leb v 2147483648) (Some v) None
capped None = None

-- ---- writing

-- the decimal of n, with at most k digits before the last
unfoldable pub digits_of : ℕ → ℕ → List ℕ
digits_of zero n = (48 + n) ∷ []
digits_of (suc k) n = cond (ltb n 10) ((48 + n) ∷ []) (digits_of k (n / 10) ++ ((48 + n % 10) ∷ []))

-- the decimal of n, which has at most n digits before the last
unfoldable pub decimal_of : ℕ → List ℕ
unfolding digits_of
decimal_of n = digits_of n n

-- the decimal of an integer
unfoldable pub text_of : ℤ → List ℕ
unfolding decimal_of
text_of (pos n) = decimal_of n
text_of (negsuc n) = 45 ∷ decimal_of (suc n)
