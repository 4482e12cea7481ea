-- A quotient rounded once to an f64 is rounded to one that is nearest to it. Assumes nothing.
use mathlib.Core.Path.{◌≡◌, sym, ap, ◌∙◌}
use mathlib.Core.Bool.{Bool, true, false, not, ◌&&◌, true≢false}
use Prim.Native.Nat.{ℕ, zero, suc, ◌+◌, ◌-◌, ◌*◌, ◌/◌, ◌%◌, ◌^◌, ◌≤◌, ◌<◌, compare, Ordering}
use native.Mathlib.Nat.{le_trans, le_of_lt, lt_of_le_of_lt, not-le_of_lt}
use native.Mathlib.Nat.{mul-one, zero-mul, mul_comm, mul_assoc, mul_right_comm, add-mul, mul-sub, mul-pos, mul-le-mul_right}
use native.Mathlib.Nat.{mod-lt, div-add-mod', div-le_self, div-div-eq-div-mul, le-div_iff_mul-le}
use native.Mathlib.Decide.{dec_le}
use native.Mathlib.Omega.{arith}
use lib.Dec.{T, is_le, compare_is_eq, leb, ltb, eqb, leb→le, nleb→lt, ltb→lt, eqb→eq, lit<}
use lib.Pow.{pow-add, pow_pos, pow_mono, pow-lt, shl_lt}
use lib.IntN.{ℤ, pos, negsuc}
use lib.Ieee.{Float, nan, inf, fin, Format, binary64, prec, emax, low, up, down, size, nearest, round, fits}
use lib.Ieee.Digits.{size-le, size_reaches, back}
use lib.Ieee.Fits.{two, two-le_pos, kept-lt, nearest-le, round-fits, and_l, and_r}
use lib.Ieee.Exact.{HasValue}
use lib.Ieee.Nearest.{closest}
use lib.Ieee.Order as order
use lib.Ieee.Order.{kept, transfer}
use lib.Ieee.Scale.{grid, overflow, round_val}
use Rattle.rules.specs.Floats.{apart, NoFarther, Nearest}

-- how far a is from b
abbrev gap : ℕ → ℕ → ℕ
gap a b = (a - b) + (b - a)

sub_mul : (a b k : ℕ) → (a - b) * k ≡ a * k - b * k
sub_mul a b k = rw (mul_comm (a - b) k, mul-sub, mul_comm k a, mul_comm k b)

gap_mul : (a b k : ℕ) → gap a b * k ≡ gap (a * k) (b * k)
gap_mul a b k = rw (add-mul, sub_mul a b k, sub_mul b a k)

-- ---- of the multiples of u, closest n u * u is nearest to n

-- what `compare` says, as far as it is needed
abbrev Says : Ordering → ℕ → ℕ → Type 0
Says Ordering.lt a b = a ≤ b
Says Ordering.eq a b = a ≡ b
Says Ordering.gt a b = b ≤ a

says : (a b : ℕ) → Says (compare a b) a b
says a b = go (compare a b) (leb→le a b) (nleb→lt a b) (eqb→eq a b)
  where
    go : (o : Ordering) → (T (is_le o) → a ≤ b) → (T (not (is_le o)) → b < a) → (T (compare_is_eq o) → a ≡ b) → Says o a b
    go Ordering.lt h k e = h tt
    go Ordering.eq h k e = e tt
    go Ordering.gt h k e = le_of_lt (k tt)

-- with n at r above a multiple of u and at u - r below the next: x is as near to n as either
abbrev AsNear : (x u r n : ℕ) → Type 0
AsNear x u r n = (gap x n ≤ r) × (gap x n + r ≤ u)

module _ (q u r n : ℕ) (whole : q * u + r ≡ n) (rest : r < u) where
  -- the multiple below, where r is at most half of u; the next, where it is at least half; either, at a tie
  stay : r * 2 ≤ u → AsNear (q * u) u r n
  stay h = omega arith

  step : u ≤ r * 2 → AsNear (suc q * u) u r n
  step h = omega arith

  tie : (w : ℕ) → w < 2 → r * 2 ≡ u → AsNear ((q + w) * u) u r n
  tie zero l h = omega arith
  tie (suc zero) l h = omega arith
  tie (suc (suc w)) l h = absurd (omega arith)

  rounded : (o : Ordering) → Says o (r * 2) u → AsNear (nearest q o * u) u r n
  rounded Ordering.lt h = stay h
  rounded Ordering.eq h = tie (q % 2) (mod-lt q (lit< tt)) h
  rounded Ordering.gt h = step h

  -- no multiple lies between the two
  other : (x j : ℕ) → AsNear x u r n → gap x n ≤ gap (j * u) n
  other x j h = elim (dec_le j q) [
    | yes l ↦ let m : j * u ≤ q * u = mul-le-mul_right u l in omega arith
    | no l ↦ let m : suc q * u ≤ j * u = mul-le-mul_right u (omega arith) in omega arith
  ]

closest_least : (n u j : ℕ) → 0 < u → gap (closest n u * u) n ≤ gap (j * u) n
closest_least n u j U =
    let q = n / u in
    let r = n % u in
    let whole : q * u + r ≡ n = div-add-mod' n u in
    other q u r n whole (mod-lt n U) (closest n u * u) j (rounded q u r n whole (mod-lt n U) (compare (r * 2) u) (says (r * 2) u))

-- ---- of the numbers m * 2 ^ i with m below 2 ^ p, none is nearer to n / den than the one that `round` makes of it

-- what `round` makes of n / den, with p digits, times den
abbrev made : (p n den : ℕ) → ℕ
made p n den = kept p n den * 2 ^ order.drop p n den * den

swap : (c a b : ℕ) → c * a * b ≡ c * (b * a)
swap c a b = mul_assoc c a b ∙ ap (λ (x : ℕ). c * x) (mul_comm a b)

-- y is on the same side of n as x, and beyond it
beyond : (g x y n : ℕ) → y ≤ x → x ≤ n → g ≤ gap x n → g ≤ gap y n
beyond g x y n h k l = omega arith

module _ (p n den m i : ℕ) (P : 0 < p) (D : 0 < den) (M : m < 2 ^ p) where
  -- against a multiple of the unit
  best : (j : ℕ) → gap (made p n den) n ≤ gap (j * 2 ^ order.drop p n den * den) n
  best j =
      let k = order.drop p n den in
      rw (swap (kept p n den) (2 ^ k) den, swap j (2 ^ k) den) (closest_least n (den * 2 ^ k) j (mul-pos D (pow_pos k)))

  -- m * 2 ^ i is such a multiple
  fine : order.drop p n den ≤ i → gap (made p n den) n ≤ gap (m * 2 ^ i * den) n
  fine h =
      let k = order.drop p n den in
      let e : m * 2 ^ (i - k) * 2 ^ k ≡ m * 2 ^ i =
      mul_assoc m (2 ^ (i - k)) (2 ^ k) ∙ ap (λ (x : ℕ). m * x) (sym (pow-add 2 (i - k) k) ∙ ap (λ (x : ℕ). 2 ^ x) (back i k h)) in
      rw (← e) (best (m * 2 ^ (i - k)))

  -- it need not be, but it is at most 2 ^ (p - 1) units, and those are at most n / den
  coarse : i < order.drop p n den → gap (made p n den) n ≤ gap (m * 2 ^ i * den) n
  coarse h =
      let k = order.drop p n den in
      let top = 2 ^ (p - 1) * 2 ^ k in
      let e : 2 ^ (p - 1 + k) ≡ top = pow-add 2 (p - 1) k in
      let lower : top ≤ n / den = rw (← e) (size_reaches (n / den) (p - 1 + k) (omega arith)) in
      let upper : m * 2 ^ i ≤ top = rw (← e) (le_trans (le_of_lt (shl_lt p i M)) (pow_mono (omega arith))) in
      beyond _ (top * den) (m * 2 ^ i * den) n (mul-le-mul_right den upper) ((le-div_iff_mul-le D).0 lower) (best (2 ^ (p - 1)))

  kept_least : gap (made p n den) n ≤ gap (m * 2 ^ i * den) n
  kept_least = elim (dec_le (order.drop p n den) i) [ yes h ↦ fine h | no h ↦ coarse (omega arith) ]

-- ---- a value of the format is m * 2 ^ i smallest values

shift : (l : ℕ) (d : ℤ) → down d ≤ 2 ^ l → (i : ℕ) × ((m : ℕ) → m * up d * 2 ^ l ≡ m * 2 ^ i * down d)
shift l (pos a) h =
    (a + l, λ m. mul_assoc m (2 ^ a) (2 ^ l) ∙ ap (λ (x : ℕ). m * x) (sym (pow-add 2 a l)) ∙ sym (mul-one (m * 2 ^ (a + l))))
shift l (negsuc a) h =
    let le : suc a ≤ l = elim (dec_le (suc a) l) [ yes g ↦ g | no g ↦ absurd (not-le_of_lt (pow-lt (omega arith)) h) ] in (
      l - suc a,
      λ m.
          ap (λ (x : ℕ). x * 2 ^ l) (mul-one m)
          ∙ ap (λ (x : ℕ). m * x) (ap (λ (x : ℕ). 2 ^ x) (sym (back l (suc a) le)) ∙ pow-add 2 (l - suc a) (suc a))
          ∙ sym (mul_assoc m (2 ^ (l - suc a)) (2 ^ suc a)),
    )

abbrev Placed : Format → ℕ → ℤ → Type 0
Placed f m d = (i : ℕ) × (m < 2 ^ prec f) × (m * up d * 2 ^ low f ≡ m * 2 ^ i * down d)

placed : (f : Format) (t : Bool) (m : ℕ) (d : ℤ) → T (fits f (fin t m d)) → Placed f m d
unfolding fits
placed f t zero d h = (0, pow_pos (prec f), simp zero-mul)
placed f t (suc m) d h =
    let A = eqb (suc m % 2) 1 in
    let B = ltb (suc m) (2 ^ prec f) in
    let C = leb (down d) (2 ^ low f) in
    let E = ltb (suc m * up d) (2 ^ suc (emax f) * down d) in
    let s = shift (low f) d (leb→le (down d) (2 ^ low f) (and_r (A && B) C (and_l (A && B && C) E h))) in
    (s.0, ltb→lt (suc m) (2 ^ prec f) (and_r A B (and_l (A && B) C (and_l (A && B && C) E h))), s.1 (suc m))

-- ---- from smallest values, of which there are l in 1, to `apart`

-- v / d is g smallest values
module _ (v g d num den l : ℕ) (e : v * l ≡ g * d) where
  cross : v * den * l ≡ g * den * d
  cross = mul_right_comm v den l ∙ ap (λ (x : ℕ). x * den) e ∙ mul_right_comm g d den

  apart_same : gap (v * den) (num * d) * l ≡ gap (g * den) (num * l) * d
  apart_same = rw (gap_mul (v * den) (num * d) l, gap_mul (g * den) (num * l) d, cross, mul_right_comm num d l)

  apart_unlike : (v * den + num * d) * l ≡ (g * den + num * l) * d
  apart_unlike = rw (add-mul (v * den) (num * d) l, add-mul (g * den) (num * l) d, cross, mul_right_comm num d l)

-- the distances a / e and b / d are X and Y, counted in smallest values, and so in their order
settle : {X Y : ℕ} (a b e d l : ℕ) → 0 < l → a * l ≡ X * e → b * l ≡ Y * d → X ≤ Y → a * d ≤ b * e
settle {X} {Y} a b e d l L p q h = transfer a b e d X Y l l L L p q (mul-le-mul_right l h)

-- a negative value is no nearer than 0
past_zero : (g j den n : ℕ) → g ≤ gap (0 * 2 ^ 0 * den) n → g ≤ j * den + n
past_zero g j den n h = omega (arith, rw (zero-mul (2 ^ 0), zero-mul den) at h)

no_farther : (f : Format) (x y : Float) (num den : ℕ) → 0 < den
    → HasValue x false (grid f num den) (2 ^ low f) → T (fits f y) → NoFarther x y num den
no_farther f nan y num den D v h = absurd v
no_farther f (inf s) y num den D v h = absurd v
no_farther f (fin true m e) y num den D v h = absurd (true≢false v.0)
no_farther f (fin false m e) nan num den D v h = tt
no_farther f (fin false m e) (inf t) num den D v h = tt
no_farther f (fin false m e) (fin false n d) num den D v h =
    let l = 2 ^ low f in
    let y = placed f false n d h in
    settle (apart false m e num den) (apart false n d num den) (down e) (down d) l (pow_pos (low f))
    (apart_same (m * up e) (grid f num den) (down e) num den l v.1)
    (apart_same (n * up d) (n * 2 ^ y.0) (down d) num den l y.2)
    (kept_least (prec f) (num * l) den n y.0 (two-le_pos (prec f) (two f)) D y.1)
no_farther f (fin false m e) (fin true n d) num den D v h =
    let l = 2 ^ low f in
    let y = placed f true n d h in
    settle (apart false m e num den) (apart true n d num den) (down e) (down d) l (pow_pos (low f))
    (apart_same (m * up e) (grid f num den) (down e) num den l v.1)
    (apart_unlike (n * up d) (n * 2 ^ y.0) (down d) num den l y.2)
    (past_zero _ (n * 2 ^ y.0) den (num * l)
    (kept_least (prec f) (num * l) den 0 0 (two-le_pos (prec f) (two f)) D (pow_pos (prec f))))

-- ---- a quotient of a num of 32 bits is far from too large

grid_le : (f : Format) (num den j : ℕ) → num * 2 ^ low f / den < 2 ^ (prec f + j) → grid f num den ≤ 2 ^ (prec f + j)
grid_le f num den j h =
    let n = num * 2 ^ low f in
    let p = prec f in
    let k = order.drop p n den in
    let u = den * 2 ^ k in
    let few : kept p n den ≤ 2 ^ p =
    le_trans (nearest-le (n / u) (compare (n % u * 2) u)) (rw (← div-div-eq-div-mul n den (2 ^ k)) (kept-lt p (n / den))) in
    let z : size (n / den) ≤ p + j = size-le (n / den) (p + j) h in
    le_trans (mul-le-mul_right (2 ^ k) few) (rw (← pow-add 2 p k) (pow_mono (omega arith)))

in_range : (num den : ℕ) → num < 2 ^ 32 → grid binary64 num den < overflow binary64
in_range num den h =
    lt_of_le_of_lt (grid_le binary64 num den 1053 (lt_of_le_of_lt (div-le_self (num * 2 ^ 1074) den) (shl_lt 32 1074 h))) (lit< tt)

pub nearest_quotient : (num den : ℕ) → 0 < den → num < 2 ^ 32 → Nearest (round binary64 false num den) num den
nearest_quotient num den D h =
    record {
      held = round-fits binary64 false num den;
      least = λ y k. no_farther binary64 (round binary64 false num den) y num den D (round_val binary64 num den (in_range num den h)) k;
    }
