-- What holds of every row of the register table, and of an address past its end. Assumes nothing.
use Prim.Native.Nat.{ℕ, ◌<◌, ◌≤◌}
use mathlib.Core.Bool.{Bool, true, false, ◌&&◌, true≢false}
use mathlib.Core.Path.{◌≡◌, refl, sym, ◌∙◌}
use mathlib.Core.List.{List, [], ◌∷◌}
use native.Mathlib.Omega.{arith}
use borrow.Author.Tests.{ne_eqb, ltb-true, ltb-false}
use lib.Dec.{ltb, eqb}
use Rattle.integer.proofs.BoolLaws.{by_cases, either, both}
use Rattle.rules.specs.Registers.{Row, table, says, exists_at, mask_at, reset_at}

unfoldable pub every : (Row → Bool) → List Row → Bool
every test [] = true
every test (r ∷ rs) = test r && every test rs

-- what passes at each row, and at none, holds of what the table says
pub of_says : {A : Type 0} (P : A → Type 0) (f : Row → A) (none : A) (test : Row → Bool) → ((r : Row) → test r ≡ true → P (f r)) → P none
    → (rows : List Row) (a : ℕ) → every test rows ≡ true → P (says f none rows a)
unfolding every says
of_says P f none test step base [] a h = base
of_says P f none test step base (r ∷ rs) a h =
    let q = both (test r) (every test rs) h in
    either P (eqb a r.address) (step r q.0) (of_says P f none test step base rs a q.1)

pub mask_small : (a : ℕ) → mask_at a < 256
unfolding mask_at every table
mask_small a = of_says (λ n. n < 256) (λ r. r.mask) 0 (λ r. ltb r.mask 256) (λ r h. ltb-true r.mask 256 h) (omega arith) table a refl

pub reset_small : (a : ℕ) → reset_at a < 256
unfolding reset_at every table
reset_small a = of_says (λ n. n < 256) (λ r. r.reset) 0 (λ r. ltb r.reset 256) (λ r h. ltb-true r.reset 256 h) (omega arith) table a refl

-- ---- no row has an address of 64 or more

past : {A : Type 0} (f : Row → A) (none : A) (rows : List Row) (a : ℕ) → 64 ≤ a → every (λ r. ltb r.address 64) rows ≡ true → says f none rows a ≡ none
unfolding every says
past f none [] a h t = refl
past f none (r ∷ rs) a h t =
    let q = both (ltb r.address 64) (every (λ s. ltb s.address 64) rs) t in
    rw (ne_eqb a r.address (λ e. omega (arith, ltb-true r.address 64 q.0))) (past f none rs a h q.1)

module _ (a : ℕ) (h : 64 ≤ a) where
  pub past_exists : exists_at a ≡ false
  unfolding exists_at every table
  past_exists = past (λ r. true) false table a h refl

  pub past_mask : mask_at a ≡ 0
  unfolding mask_at every table
  past_mask = past (λ r. r.mask) 0 table a h refl

  pub past_reset : reset_at a ≡ 0
  unfolding reset_at every table
  past_reset = past (λ r. r.reset) 0 table a h refl

pub exists_small : (a : ℕ) → exists_at a ≡ true → a < 256
exists_small a e =
    by_cases (ltb a 64)
    (λ t. omega (arith, ltb-true a 64 t))
    (λ t. absurd (true≢false (sym e ∙ past_exists a (ltb-false a 64 t))))
