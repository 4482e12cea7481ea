-- A division of two floats that are whole numbers is that of the numbers, rounded once. Assumes nothing.
use Prim.Native.Nat.{ℕ, suc, ◌*◌, ◌^◌, ◌<◌}
use mathlib.Core.Path.{◌≡◌, refl, sym, ap, ◌∙◌, subst}
use mathlib.Core.Bool.{Bool, true, false}
use native.Mathlib.Omega.{arith}
use native.Mathlib.Nat.{mul-one, mul_assoc, mul_comm, mul-pos, zero-mul, lt_of_lt_of_le}
use lib.Dec.{lit<, lit≤}
use lib.IntN.{ℤ, pos, negsuc}
use lib.Pow.{pow_pos, shl_lt}
use lib.Signed.{mag}
use lib.Ieee.{Float, nan, inf, fin, binary64, up, down, unlike, round, div, of_int}
use lib.Ieee.Exact.{HasValue, round_exact}
use lib.Ieee.Scale.{round_same}
use borrow.Author.Tests.{ne_eqb}
use Rattle.rules.specs.Panels.{quotient_of}

-- ---- a whole number below 2 ^ 53 is held as it is

whole_value : (s : Bool) (n : ℕ) → n < 2 ^ 53 → HasValue (round binary64 s n 1) s n 1
whole_value s n h = round_exact binary64 s n 1 n 1074 (lit< tt) h (lt_of_lt_of_le (shl_lt 53 1074 h) (lit≤ tt)) (sym (mul-one (n * 2 ^ 1074)))

pub natural_value : (n : ℕ) → n < 2 ^ 32 → HasValue (of_int binary64 (pos n)) false n 1
unfolding of_int
natural_value n h = whole_value false n (omega arith)

below_value : (n : ℕ) → suc n < 2 ^ 32 → HasValue (of_int binary64 (negsuc n)) true (suc n) 1
unfolding of_int
below_value n h = whole_value true (suc n) (omega arith)

-- ---- the quotient of two

down_pos : (e : ℤ) → 0 < down e
down_pos (pos k) = lit< tt
down_pos (negsuc k) = pow_pos (suc k)

unlike_false : (s : Bool) → unlike s false ≡ s
unlike_false true = refl
unlike_false false = refl

four : (a b x y : ℕ) → a * y * x * b ≡ a * (b * x * y)
four a b x y = simp mul_assoc (ap (λ (k : ℕ). a * k) (mul_comm y (x * b) ∙ ap (λ (k : ℕ). k * y) (mul_comm x b) ∙ mul_assoc b x y))

pub quotient : (x y : Float) (s : Bool) (a b : ℕ) → 0 < b → HasValue x s a 1 → HasValue y false b 1 → div binary64 x y ≡ round binary64 s a b
unfolding div
quotient nan y s a b h hx hy = absurd hx
quotient (inf t) y s a b h hx hy = absurd hx
quotient (fin t m e) nan s a b h hx hy = absurd hy
quotient (fin t m e) (inf u) s a b h hx hy = absurd hy
quotient (fin t m e) (fin u n d) s a b h hx hy =
    let X : m * up e ≡ a * down e = sym (mul-one (m * up e)) ∙ hx.1 in
    let Y : n * up d ≡ b * down d = sym (mul-one (n * up d)) ∙ hy.1 in
    let P : 0 < n * up d = subst (λ (k : ℕ). 0 < k) (sym Y) (mul-pos h (down_pos d)) in
    let N : n ≡ 0 → ⊥ = λ z. let q : n * up d ≡ 0 = ap (λ (k : ℕ). k * up d) z ∙ zero-mul (up d) in omega arith in
    rw (ne_eqb n 0 N)
    (ap (λ (k : Bool). round binary64 k (m * up e * down d) (n * up d * down e))
    (ap (λ (k : Bool). unlike k u) hx.0 ∙ ap (λ (k : Bool). unlike s k) hy.0 ∙ unlike_false s)
    ∙ round_same binary64 s (m * up e * down d) (n * up d * down e) a b (mul-pos P (down_pos e)) h
    (ap (λ (k : ℕ). k * down d * b) X ∙ four a b (down d) (down e) ∙ ap (λ (k : ℕ). a * (k * down e)) (sym Y)))

-- an integer over a float that is a whole number
pub divided : (z : ℤ) (y : Float) (d : ℕ) → mag z < 2 ^ 31 → 0 < d → HasValue y false d 1 → div binary64 (of_int binary64 z) y ≡ quotient_of z d
unfolding quotient_of
divided (pos n) y d hz hd hy = quotient (of_int binary64 (pos n)) y false n d hd (natural_value n (omega arith)) hy
divided (negsuc n) y d hz hd hy = quotient (of_int binary64 (negsuc n)) y true (suc n) d hd (below_value n (omega arith)) hy
