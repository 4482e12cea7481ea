-- Texts in a buffer: bytes stored one behind the other, what is past the end dropped. Assumes nothing.
use Prim.Native.Nat.{ℕ, suc, ◌+◌, ◌/◌, ◌%◌, ◌≤◌, ◌<◌}
use mathlib.Core.Path.{◌≡◌, refl, sym, ap, ◌∙◌}
use mathlib.Core.List.{List, [], ◌∷◌, ◌++◌}
use native.Mathlib.Omega.{arith}
use native.Mathlib.Nat.{add-zero}
use native.Mathlib.Numerals.{add-one}
use lib.IntN.{ℤ, pos, negsuc, nat_abs}
use lib.Signed.{lt_z}
use lib.ListN.{length, get_or, take, set, length-append, length-set}
use lib.Seq.{sets, length-sets, set_out, take-suc, take_all, length-take-le}
use mathlib.Core.Bool.{true, false}
use borrow.Author.Tests.{ltb-true}
use mir.Syntax.{w32, w64}
use mir.Val.{Fits, SFits, to_z, of_z}
use mir.ValLaws.{to_z-of_z}
use Rattle.decimal.specs.Decimal.{decimal_of, text_of}
use Rattle.decimal.proofs.Laws.{decimal_small, decimal_large, small_length, decimal_length, decimal_bound}

-- ---- runs of stores

-- one behind the other
pub sets_append : (a b l : List ℕ) (i : ℕ) → sets l i (a ++ b) ≡ sets (sets l i a) (i + length a) b
sets_append [] b l i = rw add-zero
sets_append (x ∷ a) b l i = sets_append a b (set l i x) (suc i) ∙ ap (λ (k : ℕ). sets (sets (set l i x) (suc i) a) k b) (omega arith)

-- past the end
pub sets_past : (vs l : List ℕ) (i : ℕ) → length l ≤ i → sets l i vs ≡ l
sets_past [] l i h = refl
sets_past (v ∷ vs) l i h = rw (set_out l i v h) (sets_past vs l (suc i) (omega arith))

-- a text and then another, and where they end
pub then : (d d1 d2 t1 t2 : List ℕ) (at e : ℕ) → d1 ≡ sets d at t1 → e ≡ at + length t1 → d2 ≡ sets d1 e t2 → d2 ≡ sets d at (t1 ++ t2)
then d d1 d2 t1 t2 at e h1 he h2 = rw (sets_append, ← h1, ← he) h2

pub end_then : (t1 t2 : List ℕ) (at e e2 : ℕ) → e ≡ at + length t1 → e2 ≡ e + length t2 → e2 ≡ at + length (t1 ++ t2)
end_then t1 t2 at e e2 h h2 = omega (arith, length-append t1 t2)

-- where both have room, so has each in its turn
module _ (d t u : List ℕ) (at : ℕ) (room : at + length (t ++ u) ≤ length d) where
  pub first_room : at + length t ≤ length d
  first_room = omega (arith, length-append t u)

  pub next_room : {d1 : List ℕ} {e : ℕ} → d1 ≡ sets d at t → e ≡ at + length t → e + length u ≤ length d1
  next_room h q = rw (h, length-sets) (omega (arith, length-append t u))

-- and of three the second and the third
module _ (d t u v : List ℕ) (at : ℕ) (room : at + length (t ++ (u ++ v)) ≤ length d) {d1 : List ℕ} {e : ℕ} (h : d1 ≡ sets d at t) (q : e ≡ at + length t) where
  pub middle_room : e + length u ≤ length d1
  middle_room = first_room d1 u v e (next_room d t (u ++ v) at room h q)

  pub last_room : {d2 : List ℕ} {e2 : ℕ} → d2 ≡ sets d1 e u → e2 ≡ e + length u → e2 + length v ≤ length d2
  last_room = next_room d1 u v e (next_room d t (u ++ v) at room h q)

-- a name, a text and a newline, and where they end
module _ (name t : List ℕ) (at : ℕ) {a e : ℕ} (qa : a ≡ at + length name) (qe : e ≡ a + length t) where
  pub line_end : e + 1 ≡ at + length (name ++ (t ++ (10 ∷ [])))
  line_end = omega (arith, length-append name (t ++ (10 ∷ [])), length-append t (10 ∷ []))

  pub line_put : (d d1 d2 : List ℕ) {d3 : List ℕ} → d1 ≡ sets d at name → d2 ≡ sets d1 a t → d3 ≡ set d2 e 10
      → d3 ≡ sets d at (name ++ (t ++ (10 ∷ [])))
  line_put d d1 d2 {d3} h1 h2 h3 =
      then d d1 d3 name (t ++ (10 ∷ [])) at a h1 qa
      (then d1 d2 d3 t (10 ∷ []) a e h2 qe h3)

-- ---- bytes

-- past the end
pub past : (d : List ℕ) (i b : ℕ) → length d ≤ i → d ≡ set d i b
past d i b h = sym (set_out d i b h)

-- the first i bytes of a text, one more, and all of them
pub copy_more : (d d1 d2 text : List ℕ) (at i : ℕ) → d1 ≡ sets d at (take i text) → i < length text → d2 ≡ set d1 (at + i) (get_or text i 0)
    → d2 ≡ sets d at (take (i + 1) text)
copy_more d d1 d2 text at i e h q =
    let n : length (take i text) ≡ i = length-take-le i text (omega arith) in
    rw (add-one, take-suc text i 0, sets_append, n, ← e) q

pub copy_end_lem : (d d1 text : List ℕ) (at i : ℕ) → d1 ≡ sets d at (take i text) → length text ≤ i → d1 ≡ sets d at text
copy_end_lem d d1 text at i e h = rw (← take_all i text h) e

-- ---- decimals

module _ (n at : ℕ) (d : List ℕ) where
  pub small_put : {d1 : List ℕ} → n < 10 → d1 ≡ set d (at + 0) (48 + n) → d1 ≡ sets d at (decimal_of n)
  small_put h e = rw (decimal_small n h, ← add-zero at) e

  pub large_put : (k : ℕ) (d1 : List ℕ) {d2 : List ℕ} → 10 ≤ n → k ≡ length (decimal_of (n / 10)) → d1 ≡ sets d at (decimal_of (n / 10))
      → d2 ≡ set d1 (at + k) (48 + n % 10) → d2 ≡ sets d at (decimal_of n)
  large_put k d1 h hk h1 h2 = rw (decimal_large n h, sets_append, ← h1, ← hk) h2

module _ (n : ℕ) where
  pub small_end : n < 10 → 1 ≡ length (decimal_of n)
  small_end h = sym (small_length n h)

  pub large_end : {k : ℕ} → 10 ≤ n → k ≡ length (decimal_of (n / 10)) → k + 1 ≡ length (decimal_of n)
  large_end h e = omega (arith, decimal_length n h)

  -- one more than a decimal's length is a number of 64 bits
  pub large_fits : {k : ℕ} → Fits w32 n → k ≡ length (decimal_of (n / 10)) → Fits w64 (k + 1)
  large_fits h e = omega (arith, decimal_bound (n / 10))

  pub one_fits : {k : ℕ} → Fits w32 n → k ≡ length (decimal_of n) → Fits w64 (1 + k)
  one_fits h e = omega (arith, decimal_bound n)

-- ---- a byte and then a text, past the end and before it

pub past_put : (d t : List ℕ) {d1 : List ℕ} (at b : ℕ) → length d ≤ at → d1 ≡ sets d at t → d1 ≡ sets d at (b ∷ t)
past_put d t at b h e = e ∙ sets_past t d at h ∙ sym (sets_past (b ∷ t) d at h)

pub cons_put : (d t : List ℕ) {d1 : List ℕ} (at b : ℕ) → d1 ≡ sets (set d at b) (at + 1) t → d1 ≡ sets d at (b ∷ t)
cons_put d t at b e = rw add-one at e

pub cons_length : (d t : List ℕ) {d1 : List ℕ} (at b : ℕ) → d1 ≡ sets (set d at b) (at + 1) t → length d1 ≡ length d
cons_length d t at b e = ap length e ∙ simp (length-sets, length-set)

-- ---- signed numbers

text_neg : (v : ℤ) → lt_z v (pos 0) ≡ true → text_of v ≡ 45 ∷ decimal_of (nat_abs v)
unfolding text_of
text_neg (pos n) t = let h : n < 0 = ltb-true n 0 t in absurd (omega arith)
text_neg (negsuc n) t = refl

text_nat : (v : ℤ) → lt_z v (pos 0) ≡ false → text_of v ≡ decimal_of (nat_abs v)
unfolding text_of
text_nat (pos n) t = refl
text_nat (negsuc n) t = cc

-- by a test of the sign, and the distance from 0
module _ (v : ℤ) (f : SFits w32 v) {n : ℕ} (e : n ≡ nat_abs (to_z w32 (of_z w32 v))) where
  pub below_zero : lt_z (to_z w32 (of_z w32 v)) (pos 0) ≡ true → text_of v ≡ 45 ∷ decimal_of n
  below_zero t = rw e (rw (to_z-of_z w32 v f) (text_neg v (rw (to_z-of_z w32 v f) at t)))

  pub not_below_zero : lt_z (to_z w32 (of_z w32 v)) (pos 0) ≡ false → text_of v ≡ decimal_of n
  not_below_zero t = rw e (rw (to_z-of_z w32 v f) (text_nat v (rw (to_z-of_z w32 v f) at t)))
