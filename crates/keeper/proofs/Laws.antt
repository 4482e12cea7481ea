-- The register image, written byte by byte. Assumes nothing.
use Prim.Native.Nat.{ℕ, zero, suc, ◌+◌, ◌≤◌}
use mathlib.Core.Path.{◌≡◌, refl, sym, ap, ◌∙◌}
use mathlib.Core.List.{List, [], ◌∷◌, ◌++◌}
use native.Mathlib.Omega.{arith}
use native.Mathlib.Nat.{add-zero, zero-add, suc-add}
use lib.ListN.{length, set}
use lib.Seq.{sets}
use Rattle.buffer.proofs.TextLaws.{sets_append}
use Rattle.chip.specs.declared.Chip.{Chip}
use Rattle.output.specs.Outputs.{register_at}
use Rattle.keeper.specs.Keeping.{image_from}

image_length_lem : (a n : ℕ) (c : Chip) → length (image_from a n c) ≡ n
unfolding image_from
image_length_lem a zero c = refl
image_length_lem a (suc n) c = ap suc (image_length_lem (suc a) n c)

image_more : (a n : ℕ) (c : Chip) → image_from a (n + 1) c ≡ image_from a n c ++ (register_at c (a + n) ∷ [])
unfolding image_from
image_more a zero c = rw (add-zero)
image_more a (suc n) c =
    rw (suc-add)
    (ap (λ (l : List ℕ). register_at c a ∷ l)
    (image_more (suc a) n c ∙ ap (λ (k : ℕ). image_from (suc a) n c ++ (register_at c k ∷ [])) (omega arith)))

-- one byte more
pub fill_more :
    (c : Chip) (d d₀ : List ℕ) (a : ℕ) {v : ℕ} → d ≡ sets d₀ 0 (image_from 0 a c) → v ≡ register_at c a
    → set d a v ≡ sets d₀ 0 (image_from 0 (a + 1) c)
fill_more c d d₀ a p q =
    sym (ap (sets d₀ 0) (image_more 0 a c) ∙ sets_append (image_from 0 a c) (register_at c (0 + a) ∷ []) d₀ 0
    ∙ rw (image_length_lem 0 a c, zero-add, ← p, ← q))

pub filled : (c : Chip) (d d₀ : List ℕ) (a : ℕ) → a ≤ 64 → 64 ≤ a → d ≡ sets d₀ 0 (image_from 0 a c) → d ≡ sets d₀ 0 (image_from 0 64 c)
filled c d d₀ a l h p = p ∙ ap (λ (n : ℕ). sets d₀ 0 (image_from 0 n c)) (omega arith)
