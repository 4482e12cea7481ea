-- The register image in a lent buffer. Assumes nothing.
use Prim.Native.Nat.{ℕ, zero, suc, ◌+◌, ◌≤◌, ◌<◌}
use mathlib.Core.Path.{◌≡◌, refl, ap, ◌∙◌}
use mathlib.Core.Bool.{true, false, not, ◌&&◌}
use mathlib.Core.List.{List, [], ◌∷◌}
use native.Mathlib.Omega.{arith}
use lib.Dec.{ltb, leb, eqb}
use lib.ListN.{length, get_or, set, length-set}
use lib.Seq.{sets, length-sets, get_or-set_same, get_or-set_other}
use borrow.Author.Tests.{eqb-true, eqb-false, le-ltb, lt-ltb, leb-true, leb-false}
use Rattle.integer.proofs.BoolLaws.{by_cases}
use Rattle.event.specs.Answers.{number_of}
use Rattle.rules.specs.Stored.{Taken, powered}
use Rattle.rules.specs.Shows.{value, values_from, image_reply, image_held}
use Rattle.rules.specs.PageReplies.{first}

-- ---- a run of stores from place i

-- it leaves what stands before it and after it
before : (vs l : List ℕ) (i a : ℕ) → a < i → get_or (sets l i vs) a 0 ≡ get_or l a 0
before [] l i a h = refl
before (v ∷ vs) l i a h = before vs (set l i v) (suc i) a (omega arith) ∙ get_or-set_other l i a v 0 (λ e. omega arith)

after : (vs l : List ℕ) (i a : ℕ) → i + length vs ≤ a → get_or (sets l i vs) a 0 ≡ get_or l a 0
after [] l i a h = refl
after (v ∷ vs) l i a h = after vs (set l i v) (suc i) a (omega arith) ∙ get_or-set_other l i a v 0 (λ e. omega arith)

module _ (d : Taken) where
  count : (i n : ℕ) → length (values_from i n d) ≡ n
  unfolding values_from
  count i zero = refl
  count i (suc n) = ap suc (count (suc i) n)

  -- the values stand at their places
  placed : (n i : ℕ) (l : List ℕ) (a : ℕ) → i ≤ a → a < i + n → i + n ≤ length l → get_or (sets l i (values_from i n d)) a 0 ≡ value a d
  unfolding values_from
  placed zero i l a p q s = absurd (omega arith)
  placed (suc n) i l a p q s =
      by_cases (eqb a i)
      (λ e. before (values_from (suc i) n d) (set l i (value i d)) (suc i) a (omega (arith, eqb-true a i e))
      ∙ rw (eqb-true a i e) (get_or-set_same l i (value i d) 0 (omega arith)))
      (λ e. placed n (suc i) (set l i (value i d)) a (omega (arith, eqb-false a i e)) (omega arith) (omega (arith, length-set l i (value i d))))

-- ---- the image

short : (n : ℕ) → ltb n 64 ≡ not (leb 64 n)
short n = by_cases (leb 64 n) (λ q. rw q (le-ltb n 64 (leb-true 64 n q))) (λ q. rw q (lt-ltb n 64 (leb-false 64 n q)))

module _ (d : Taken) (buffer : List ℕ) where
  pub image_answer_lem : number_of (image_reply buffer d) ≡ first (not (powered d)) 1 (first (not (leb 64 (length buffer))) 11 0)
  unfolding image_reply
  image_answer_lem =
      rw (short (length buffer))
      (by_cases (powered d) (λ on. rw on (by_cases (leb 64 (length buffer)) (λ q. rw q) (λ q. rw q))) (λ off. rw off))

  pub image_byte_lem : (a : ℕ) → powered d ≡ true → 64 ≤ length buffer → a < 64 → get_or (image_held buffer d) a 0 ≡ value a d
  unfolding image_held
  image_byte_lem a on s h = rw (on, le-ltb (length buffer) 64 s) (placed d 64 0 buffer a (omega arith) (omega arith) (omega arith))

  -- the bytes that are held are those of the buffer, with or without the values
  held : (P : List ℕ → Type 0) → P buffer → P (sets buffer 0 (values_from 0 64 d)) → P (image_held buffer d)
  unfolding image_held
  held P p q = by_cases (powered d) (λ on. rw on (by_cases (ltb (length buffer) 64) (λ s. rw s p) (λ s. rw s q))) (λ off. rw off p)

  pub image_rest_lem : (a : ℕ) → 64 ≤ a → get_or (image_held buffer d) a 0 ≡ get_or buffer a 0
  image_rest_lem a h = held (λ l. get_or l a 0 ≡ get_or buffer a 0) refl (after (values_from 0 64 d) buffer 0 a (omega (arith, count d 0 64)))

  pub image_length_lem : length (image_held buffer d) ≡ length buffer
  image_length_lem = held (λ l. length l ≡ length buffer) refl (length-sets buffer 0 (values_from 0 64 d))

  pub image_kept_lem : (powered d && leb 64 (length buffer)) ≡ false → image_held buffer d ≡ buffer
  unfolding image_held
  image_kept_lem q =
      by_cases (powered d)
      (λ on. rw (on, short (length buffer), rw on at q))
      (λ off. rw off)
