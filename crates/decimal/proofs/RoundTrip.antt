-- A number's decimal reads back as the number, and a number has no other decimal. Assumes nothing.
use Prim.Native.Nat.{ℕ, zero, suc, ◌+◌, ◌-◌, ◌*◌, ◌/◌, ◌%◌, ◌≤◌, ◌<◌}
use mathlib.Core.Path.{◌≡◌, refl, sym, ap, ◌∙◌}
use mathlib.Core.List.{List, [], ◌∷◌, ◌++◌, append-nil}
use mathlib.Core.Bool.{Bool, true, false, cond, ◌&&◌}
use native.Mathlib.Omega.{arith}
use lib.Dec.{ltb, leb, eqb}
use lib.IntN.{ℤ, pos, negsuc}
use lib.ListN.{get_or}
use lib.Seq.{append_snoc}
use mir.Syntax.{w32}
use mir.Val.{SFits}
use borrow.Author.Tests.{lt-ltb, le-leb, ne_eqb, ltb-true, ltb-false, leb-true, eqb-true, eqb-false}
use Rattle.integer.proofs.BoolLaws.{both}
use Rattle.std.specs.Prelude.{Option, Some, None}
use Rattle.decimal.specs.Decimal.{digits_from, alone, unsigned_of, positive, negative, parse_of, digits_of, decimal_of, text_of}
use Rattle.decimal.proofs.Laws.{decimal_small, decimal_large}

-- ---- what was written reads back

-- the digits of l after what was read before them
abbrev after : Option ℕ → List ℕ → Option ℕ
after (Some w) l = digits_from w l
after None l = None

after_cond : (t : Bool) (m m' : Option ℕ) (r : List ℕ) → m' ≡ after m r → cond t m' None ≡ after (cond t m None) r
after_cond true m m' r e = e
after_cond false m m' r e = refl

digits_append : (v : ℕ) (l r : List ℕ) → digits_from v (l ++ r) ≡ after (digits_from v l) r
unfolding digits_from
digits_append v [] r = refl
digits_append v (b ∷ bs) r =
    let w : ℕ = v * 10 + (b - 48) in
    after_cond (leb 48 b && leb b 57) (digits_from w bs) (digits_from w (bs ++ r)) r (digits_append w bs r)

one_digit : (w d n : ℕ) → d < 10 → n ≡ w * 10 + d → digits_from w ((48 + d) ∷ []) ≡ Some n
unfolding digits_from
one_digit w d n h e = rw (le-leb 48 (48 + d) (omega arith), le-leb (48 + d) 57 (omega arith)) (ap Some (omega arith))

read_back : (k n : ℕ) → n ≤ k → digits_from 0 (digits_of k n) ≡ Some n
unfolding digits_of
read_back zero n h = one_digit 0 n n (omega arith) (omega arith)
read_back (suc k) n h = go (ltb n 10) refl (read_back k (n / 10) (omega arith))
  where
    go : (t : Bool) → ltb n 10 ≡ t → digits_from 0 (digits_of k (n / 10)) ≡ Some (n / 10)
        → digits_from 0 (cond t ((48 + n) ∷ []) (digits_of k (n / 10) ++ ((48 + n % 10) ∷ []))) ≡ Some n
    go true e ih = one_digit 0 n n (ltb-true n 10 e) (omega arith)
    go false e ih = rw (digits_append, ih) (one_digit (n / 10) (n % 10) n (omega arith) (omega arith))

-- the first digit of a number that is not 0
head_append : (l r : List ℕ) → 49 ≤ get_or l 0 0 → 49 ≤ get_or (l ++ r) 0 0
head_append [] r h = absurd (omega arith)
head_append (x ∷ l) r h = h

first : (k n : ℕ) → 1 ≤ n → n ≤ k → 49 ≤ get_or (digits_of k n) 0 0
unfolding digits_of
first zero n h h' = absurd (omega arith)
first (suc k) n h h' = go (ltb n 10) refl (λ p. first k (n / 10) p (omega arith))
  where
    go : (t : Bool) → ltb n 10 ≡ t → (1 ≤ n / 10 → 49 ≤ get_or (digits_of k (n / 10)) 0 0)
        → 49 ≤ get_or (cond t ((48 + n) ∷ []) (digits_of k (n / 10) ++ ((48 + n % 10) ∷ []))) 0 0
    go true e ih = omega arith
    go false e ih = head_append (digits_of k (n / 10)) ((48 + n % 10) ∷ []) (ih (omega (arith, ltb-false n 10 e)))

unsigned_digits : (l : List ℕ) → 49 ≤ get_or l 0 0 → unsigned_of l ≡ digits_from 0 l
unfolding unsigned_of
unsigned_digits [] h = absurd (omega arith)
unsigned_digits (b ∷ bs) h = rw (ne_eqb b 48 (omega arith))

unsigned_back : (n : ℕ) → unsigned_of (decimal_of n) ≡ Some n
unfolding unsigned_of decimal_of digits_of
unsigned_back zero = refl
unsigned_back (suc n) = unsigned_digits (decimal_of (suc n)) (first (suc n) (suc n) (omega arith) (omega arith)) ∙ read_back (suc n) (suc n) (omega arith)

parse_digits : (l : List ℕ) → 48 ≤ get_or l 0 0 → parse_of l ≡ positive (unsigned_of l)
unfolding parse_of
parse_digits [] h = absurd (omega arith)
parse_digits (b ∷ bs) h = rw (ne_eqb b 45 (omega arith))

head : (n : ℕ) → 48 ≤ get_or (decimal_of n) 0 0
unfolding decimal_of digits_of
head zero = omega arith
head (suc n) = omega (arith, first (suc n) (suc n) (omega arith) (omega arith))

pub round_trip : (z : ℤ) → SFits w32 z → parse_of (text_of z) ≡ Some z
unfolding text_of parse_of
round_trip (pos n) f = parse_digits (decimal_of n) (head n) ∙ rw (unsigned_back n, lt-ltb n 2147483648 f.sfits)
round_trip (negsuc n) f = rw (unsigned_back (suc n), lt-ltb n 2147483648 f.sfits)

-- ---- what reads as a number is its decimal

-- a test that leads elsewhere than to Bad held
held : (t : Bool) (m : Option ℕ) {n : ℕ} → cond t m None ≡ Some n → (t ≡ true) × (m ≡ Some n)
held true m e = (refl, e)
held false m e = let z : ◌≡◌ {A = ℕ} 0 1 = cc in absurd (omega arith)

-- a digit, and the value of what follows it
digit : (v b : ℕ) (bs : List ℕ) {n : ℕ} → digits_from v (b ∷ bs) ≡ Some n → (48 ≤ b) × (b ≤ 57) × (digits_from (v * 10 + (b - 48)) bs ≡ Some n)
unfolding digits_from
digit v b bs e =
    let h = held (leb 48 b && leb b 57) (digits_from (v * 10 + (b - 48)) bs) e in
    let t = both (leb 48 b) (leb b 57) h.0 in
    (leb-true 48 b t.0, leb-true b 57 t.1, h.1)

digits_none : (v : ℕ) {n : ℕ} → digits_from v [] ≡ Some n → v ≡ n
unfolding digits_from
digits_none v e = cc

-- the digits after those of v, where v is not 0
longer : (v : ℕ) (l : List ℕ) (n : ℕ) → 1 ≤ v → digits_from v l ≡ Some n → decimal_of v ++ l ≡ decimal_of n
longer v [] n h e = let q : v ≡ n = digits_none v e in rw (append-nil, q)
longer v (b ∷ bs) n h e =
    let d = digit v b bs e in
    let w : ℕ = v * 10 + (b - 48) in
    let g : decimal_of w ≡ decimal_of (w / 10) ++ ((48 + w % 10) ∷ []) = decimal_large w (omega arith) in
    let q : w / 10 ≡ v = omega arith in
    let r : 48 + w % 10 ≡ b = omega arith in
    sym (append_snoc (decimal_of v) b bs) ∙ ap (λ (l : List ℕ). l ++ bs) (sym (rw (q, r) at g)) ∙ longer w bs n (omega arith) d.2

alone_only : (l : List ℕ) (n : ℕ) → alone l ≡ Some n → 48 ∷ l ≡ decimal_of n
unfolding decimal_of digits_of
alone_only [] n e = let z : n ≡ 0 = cc in rw z
alone_only (b ∷ bs) n e = cc

unsigned_only : (l : List ℕ) (n : ℕ) → unsigned_of l ≡ Some n → l ≡ decimal_of n
unfolding unsigned_of
unsigned_only [] n e = cc
unsigned_only (b ∷ bs) n e = go (eqb b 48) refl e
  where
    go : (t : Bool) → eqb b 48 ≡ t → cond t (alone bs) (digits_from 0 (b ∷ bs)) ≡ Some n → b ∷ bs ≡ decimal_of n
    go true h q = rw (eqb-true b 48 h) (alone_only bs n q)
    go false h q =
        let d = digit 0 b bs q in
        let f = eqb-false b 48 h in
        let w : ℕ = 0 * 10 + (b - 48) in
        let s : 48 + w ≡ b = omega arith in
        rw (decimal_small w (omega arith), s) at (longer w bs n (omega arith) d.2)

-- a sign and a magnitude that make a number
number_only : (t : Bool) (y z : ℤ) → cond t (Some y) None ≡ Some z → z ≡ y
number_only true y z e = cc
number_only false y z e = cc

negative_only : (l : List ℕ) (z : ℤ) (m : Option ℕ) → unsigned_of l ≡ m → negative m ≡ Some z → 45 ∷ l ≡ text_of z
unfolding text_of
negative_only l z (Some zero) q e = cc
negative_only l z (Some (suc v)) q e = rw (number_only (ltb v 2147483648) (negsuc v) z e, unsigned_only l (suc v) q)
negative_only l z None q e = cc

positive_only : (l : List ℕ) (z : ℤ) (m : Option ℕ) → unsigned_of l ≡ m → positive m ≡ Some z → l ≡ text_of z
unfolding text_of
positive_only l z (Some v) q e = rw (number_only (ltb v 2147483648) (pos v) z e) (unsigned_only l v q)
positive_only l z None q e = cc

pub only_text : (l : List ℕ) (z : ℤ) → parse_of l ≡ Some z → l ≡ text_of z
unfolding parse_of
only_text [] z e = cc
only_text (b ∷ bs) z e = go (eqb b 45) refl e
  where
    go : (t : Bool) → eqb b 45 ≡ t → cond t (negative (unsigned_of bs)) (positive (unsigned_of (b ∷ bs))) ≡ Some z → b ∷ bs ≡ text_of z
    go true h q = rw (eqb-true b 45 h) (negative_only bs z (unsigned_of bs) refl q)
    go false h q = positive_only (b ∷ bs) z (unsigned_of (b ∷ bs)) refl q
