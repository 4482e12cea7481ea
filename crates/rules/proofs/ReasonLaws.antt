-- The first of a row of tests that holds, and the lowest of three channels. Assumes nothing.
use Prim.Native.Nat.{ℕ, zero, suc, ◌<◌, ◌≤◌}
use mathlib.Core.Path.{◌≡◌, refl, sym, ap, ◌∙◌}
use mathlib.Core.Bool.{Bool, true, false, cond, ◌||◌, or-true}
use mathlib.Core.List.{List, [], ◌∷◌}
use native.Mathlib.Omega.{arith}
use lib.Dec.{ltb}
use lib.ListN.{length, get_or}
use borrow.Author.Tests.{ltb-true, ltb-false}
use Rattle.integer.proofs.BoolLaws.{by_cases}
use Rattle.part.specs.declared.ChannelId.{ChannelId}
use Rattle.part.specs.declared.ChannelId.TheVariants.{Local, Remote1, Remote2}
use Rattle.rules.specs.Reasons.{lowest_with}
use Rattle.rules.specs.PageWords.{by_channel}
use Rattle.rules.specs.PageReasons.{below}

-- ---- the first of a row of tests that holds, from 1; one behind them all, where none does

unfoldable pub first_of : List Bool → ℕ
first_of [] = 1
first_of (b ∷ bs) = cond b 1 (suc (first_of bs))

pub first_le : (bs : List Bool) (i : ℕ) → get_or bs i true ≡ true → first_of bs ≤ suc i
unfolding first_of
first_le [] i y = omega arith
first_le (b ∷ bs) zero y = rw y (omega arith)
first_le (b ∷ bs) (suc i) y = by_cases b (λ t. rw t (omega arith)) (λ n. rw n (omega (arith, first_le bs i y)))

pub from_one : (bs : List Bool) → 0 < first_of bs
unfolding first_of
from_one [] = omega arith
from_one (b ∷ bs) = by_cases b (λ t. rw t (omega arith)) (λ n. rw n (omega arith))

-- it holds, and none before it does
pub first_on : (bs : List Bool) (i : ℕ) → first_of bs ≡ suc i → get_or bs i true ≡ true
unfolding first_of
first_on [] i e = refl
first_on (b ∷ bs) zero e = by_cases b (λ t. t) (λ n. absurd (omega (arith, rw n at e, from_one bs)))
first_on (b ∷ bs) (suc i) e =
    by_cases b
    (λ t. absurd (omega (arith, rw t at e)))
    (λ n. let q : first_of bs ≡ suc i = omega (arith, rw n at e) in first_on bs i q)

pub first_off : (bs : List Bool) (i j : ℕ) → j < i → first_of bs ≡ suc i → get_or bs j true ≡ false
first_off bs i j l e = by_cases (get_or bs j true) (λ t. absurd (omega (arith, first_le bs j t))) (λ n. n)

-- what stands at the place of the first that holds; the last one, where none does
unfoldable pub pick_of : {A : Type 0} → List Bool → List A → A → A
pick_of [] xs last = last
pick_of (b ∷ bs) [] last = last
pick_of (b ∷ bs) (x ∷ xs) last = cond b x (pick_of bs xs last)

pub picked : {A : Type 0} (bs : List Bool) (xs : List A) (last : A) (i : ℕ) → length bs ≡ length xs → first_of bs ≡ suc i →
    pick_of bs xs last ≡ get_or xs i last
unfolding first_of pick_of
picked [] [] last i l e = refl
picked [] (x ∷ xs) last i l e = absurd (omega (arith, l))
picked (b ∷ bs) [] last i l e = absurd (omega (arith, l))
picked (b ∷ bs) (x ∷ xs) last zero l e = by_cases b (λ t. rw t) (λ n. absurd (omega (arith, rw n at e, from_one bs)))
picked (b ∷ bs) (x ∷ xs) last (suc i) l e =
    by_cases b
    (λ t. absurd (omega (arith, rw t at e)))
    (λ n. let q : first_of bs ≡ suc i = omega (arith, rw n at e) in rw n (picked bs xs last i (omega (arith, l)) q))

-- ---- the lowest channel of which a test holds

module _ (p : ChannelId → Bool) where
  abbrev lowest : ChannelId
  lowest = lowest_with (p Local) (p Remote1)

  pub lowest_holds : (p Local || (p Remote1 || p Remote2)) ≡ true → p lowest ≡ true
  lowest_holds y =
      by_cases (p Local) (λ a. rw (a, a)) (λ a. by_cases (p Remote1) (λ b. rw (a, b, b)) (λ b. rw (a, b) (rw (a, b) at y)))

  pub lowest_first : (other : ChannelId) → below other lowest → p other ≡ false
  lowest_first other l = by_cases (p Local) (λ a. absurd (none other (rw a at l))) (λ a. by_cases (p Remote1) (λ b. one a other (rw (a, b) at l))
      (λ b. two a b other (rw (a, b) at l)))
    where
      none : (other : ChannelId) → below other Local → ⊥
      none Local l = omega arith
      none Remote1 l = omega arith
      none Remote2 l = omega arith

      one : p Local ≡ false → (other : ChannelId) → below other Remote1 → p other ≡ false
      one a Local l = a
      one a Remote1 l = absurd (omega arith)
      one a Remote2 l = absurd (omega arith)

      two : p Local ≡ false → p Remote1 ≡ false → (other : ChannelId) → below other Remote2 → p other ≡ false
      two a b Local l = a
      two a b Remote1 l = b
      two a b Remote2 l = absurd (omega arith)

pub some_holds : (p : ChannelId → Bool) (c : ChannelId) → p c ≡ true → (p Local || (p Remote1 || p Remote2)) ≡ true
some_holds p Local y = rw y
some_holds p Remote1 y = rw (y, or-true)
some_holds p Remote2 y = rw (y, or-true, or-true)

-- ---- two channels of which neither is below the other are one

by_number : ℕ → ChannelId
by_number zero = Local
by_number (suc zero) = Remote1
by_number (suc (suc n)) = Remote2

numbered : (c : ChannelId) → by_number (by_channel 0 1 2 c) ≡ c
unfolding by_number
numbered Local = refl
numbered Remote1 = refl
numbered Remote2 = refl

pub same_channel : (a b : ChannelId) → (below a b → ⊥) → (below b a → ⊥) → a ≡ b
same_channel a b l m = sym (numbered a) ∙ ap by_number (equal (by_channel 0 1 2 a) (by_channel 0 1 2 b) l m) ∙ numbered b
  where
    equal : (x y : ℕ) → (x < y → ⊥) → (y < x → ⊥) → x ≡ y
    equal x y l m =
        by_cases (ltb x y)
        (λ t. absurd (l (ltb-true x y t)))
        (λ n. by_cases (ltb y x) (λ t. absurd (m (ltb-true y x t))) (λ k. omega (arith, ltb-false x y n, ltb-false y x k)))
