-- Texts put together aside, what is past the end dropped. Assumes nothing.
use Rattle.std.proofs.Common.{◌≡◌, ℕ, zero, suc, ◌+◌, ◌<◌, ◌≤◌, List, [], ◌∷◌, ◌++◌, length, get_or, take, drop, refl, sym, ap, ◌∙◌, append_assoc}
use Rattle.std.proofs.Common.{arith, length-append, append-nil}
use Rattle.std.proofs.lemmas.List.{take_more, take_all, take_at, length-take-le}
use Rattle.std.proofs.lemmas.List.Edits.{sets, sets-eq}
use lib.Seq.{length-sets}
use Rattle.buffer.specs.Append.{appended}

-- what was cut is cut again
again : (n : ℕ) (x b : List ℕ) → take n (take n x ++ b) ≡ take n (x ++ b)
again zero x b = refl
again (suc n) [] b = refl
again (suc n) (y ∷ x) b = ap (λ (l : List ℕ). y ∷ l) (again n x b)

-- a text and then another; and one that has room, alone
pub append_then : (x x1 : List ℕ) (a b : List ℕ) {x2 : List ℕ} → x1 ≡ appended x a → x2 ≡ appended x1 b → x2 ≡ appended x (a ++ b)
unfolding appended
append_then x x1 a b h q = q ∙ ap (λ (l : List ℕ). take 160 (l ++ b)) h ∙ again 160 (x ++ a) b ∙ ap (take 160) (append_assoc x a b)

pub append_alone : (t : List ℕ) {x : List ℕ} → x ≡ appended [] t → length t ≤ 160 → x ≡ t
unfolding appended
append_alone t h l = h ∙ take_all 160 t l

-- a text that is full stays as it is; one that has room for a byte has it behind
pub append_full : (x b : List ℕ) → length x ≡ 160 → x ≡ appended x b
unfolding appended
append_full x b full = sym (take_at x b 160 full)

pub append_room : (x : List ℕ) (b : ℕ) {z : List ℕ} → length x < 160 → z ≡ x ++ (b ∷ []) → z ≡ appended x (b ∷ [])
unfolding appended
append_room x b room s = s ∙ sym (take_all 160 (x ++ (b ∷ [])) (rw length-append (omega arith)))

-- a loop over the bytes
pub append_none : (x bytes : List ℕ) → length x ≤ 160 → x ≡ appended x (take 0 bytes)
unfolding appended
append_none x bytes h = sym (ap (take 160) (append-nil x) ∙ take_all 160 x h)

module _ (x bytes : List ℕ) (i : ℕ) {y : List ℕ} (e : y ≡ appended x (take i bytes)) where
  pub append_more : {z : List ℕ} → i < length bytes → z ≡ appended y (get_or bytes i 0 ∷ []) → z ≡ appended x (take (i + 1) bytes)
  append_more h s = append_then x y (take i bytes) (get_or bytes i 0 ∷ []) e s ∙ ap (appended x) (sym (take_more bytes i 0 h))

  pub append_end : length bytes ≤ i → y ≡ appended x bytes
  append_end h = e ∙ ap (appended x) (take_all i bytes h)

-- a decimal that was put into an array aside
module _ (z t : List ℕ) {d : List ℕ} {e : ℕ} (h : d ≡ sets z 0 t) (q : e ≡ length t) (f : length t ≤ length z) where
  pub aside_room : e ≤ length d
  aside_room = rw (h, length-sets) (omega arith)

  pub aside_counted : e ≡ length (take e d)
  aside_counted = sym (length-take-le e d aside_room)

  aside_is : take e d ≡ t
  aside_is = rw (h, sets-eq t z 0 (omega arith)) (take_at t (drop (0 + length t) z) e (sym q))

  pub aside_append : (x : List ℕ) {y : List ℕ} → y ≡ appended x (take e d) → y ≡ appended x t
  aside_append x s = s ∙ ap (appended x) aside_is
