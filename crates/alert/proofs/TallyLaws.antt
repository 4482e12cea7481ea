-- What is made of a row's tally is what the rule says of the row. Assumes nothing.
use Prim.Native.Nat.{ℕ, ◌≤◌, min}
use mathlib.Core.Path.{◌≡◌, refl, ◌∙◌}
use mathlib.Core.Bool.{Bool, true, false, cond, not, ◌&&◌, ◌||◌, and-true, or-false}
use mathlib.Core.List.{List, [], ◌∷◌, map}
use native.Mathlib.Omega.{arith}
use lib.Dec.{leb, eqb}
use borrow.Author.Tests.{leb-true, eqb-true, eqb-false, not-false}
use Rattle.integer.proofs.BoolLaws.{by_cases, both, neither}
use Rattle.event.specs.declared.AlertEntry.{AlertEntry}
use Rattle.rules.specs.AlertRow.{outside_in, has_address, twice_in, asserts_in, lowest_asserting, row_answer, let_go_at, row_after}
use Rattle.event.specs.declared.Refusal.{Refusal}
use Rattle.event.specs.declared.Refusal.TheVariants.{NoAlert}
use Rattle.std.specs.Prelude.{Option, Some, None, Result, Err}
use Rattle.std.specs.Option.{is_some, unwrap_or}
use Rattle.alert.specs.declared.Tally.{Tally}
use Rattle.alert.specs.Tally.{no_entries, lower_of, counted_of, tally_of, answered_of, is_refused, released_of}

-- ---- the fields, one by one

-- one that tells whether some entry passes a test
module _
    (field : Tally → Bool) (in_row : List AlertEntry → Bool) (test : AlertEntry → Bool) (none : field no_entries ≡ in_row [])
    (counts : (t : Tally) (e : AlertEntry) → field (counted_of t e) ≡ (test e || field t))
    (more : (e : AlertEntry) (row : List AlertEntry) → in_row (e ∷ row) ≡ (test e || in_row row)) where
  tally_some : (row : List AlertEntry) → field (tally_of row) ≡ in_row row
  unfolding tally_of
  tally_some [] = none
  tally_some (e ∷ row) = rw (counts (tally_of row) e, more e row, tally_some row)

tally_outside : (row : List AlertEntry) → (tally_of row).outside ≡ outside_in row
unfolding outside_in
tally_outside = tally_some (λ t. t.outside) outside_in (λ e. not (leb 44 e.address && leb e.address 46)) refl (λ t e. refl) (λ e row. refl)

tally_has44 : (row : List AlertEntry) → (tally_of row).has44 ≡ has_address 44 row
unfolding has_address
tally_has44 = tally_some (λ t. t.has44) (has_address 44) (λ e. eqb e.address 44) refl (λ t e. refl) (λ e row. refl)

tally_has45 : (row : List AlertEntry) → (tally_of row).has45 ≡ has_address 45 row
unfolding has_address
tally_has45 = tally_some (λ t. t.has45) (has_address 45) (λ e. eqb e.address 45) refl (λ t e. refl) (λ e row. refl)

tally_has46 : (row : List AlertEntry) → (tally_of row).has46 ≡ has_address 46 row
unfolding has_address
tally_has46 = tally_some (λ t. t.has46) (has_address 46) (λ e. eqb e.address 46) refl (λ t e. refl) (λ e row. refl)

tally_asserts : (row : List AlertEntry) → is_some (tally_of row).lowest ≡ asserts_in row
unfolding asserts_in
tally_asserts = tally_some (λ t. is_some t.lowest) asserts_in (λ e. e.asserting) refl (λ t e. by_cases e.asserting (λ p. rw p) (λ p. rw p)) (λ e row. refl)

-- the lowest address of those that assert, 255 where none does
lower_is : (e : AlertEntry) (lowest : Option ℕ)
    → unwrap_or (lower_of e lowest) 255 ≡ cond e.asserting (min e.address (unwrap_or lowest 255)) (unwrap_or lowest 255)
lower_is e lowest = by_cases e.asserting (λ p. rw p) (λ p. rw p)

tally_least : (row : List AlertEntry) → unwrap_or (tally_of row).lowest 255 ≡ lowest_asserting row
unfolding tally_of lowest_asserting
tally_least [] = refl
tally_least (e ∷ row) = lower_is e (tally_of row).lowest ∙ rw (tally_least row)

tally_lowest : (row : List AlertEntry) → (tally_of row).lowest ≡ cond (asserts_in row) (Some (lowest_asserting row)) None
tally_lowest row = whole (tally_of row).lowest ∙ rw (tally_asserts row, tally_least row)
  where
    whole : (lowest : Option ℕ) → lowest ≡ cond (is_some lowest) (Some (unwrap_or lowest 255)) None
    whole None = refl
    whole (Some a) = refl

-- an address from 44 to 46 is one of the three
at_address : (h : ℕ → Bool) (a : ℕ) → 44 ≤ a → a ≤ 46 → ((eqb a 44 && h 44) || ((eqb a 45 && h 45) || (eqb a 46 && h 46))) ≡ h a
at_address h a l u =
    by_cases (eqb a 44) (λ p. rw (eqb-true a 44 p) (or-false (h 44)))
    (λ p. by_cases (eqb a 45) (λ q. rw (eqb-true a 45 q) (or-false (h 45)))
    (λ q. let s : a ≡ 46 = last p q in rw s))
  where
    last : eqb a 44 ≡ false → eqb a 45 ≡ false → a ≡ 46
    last p q = omega (arith, eqb-false a 44 p, eqb-false a 45 q)

inside : (a : ℕ) → not (leb 44 a && leb a 46) ≡ false → (44 ≤ a) × (a ≤ 46)
inside a p = let b = both (leb 44 a) (leb a 46) (not-false (leb 44 a && leb a 46) p) in (leb-true 44 a b.0, leb-true a 46 b.1)

tally_twice : (row : List AlertEntry) → outside_in row ≡ false → (tally_of row).twice ≡ twice_in row
unfolding tally_of outside_in twice_in
tally_twice [] p = refl
tally_twice (e ∷ row) p =
    let n = neither (not (leb 44 e.address && leb e.address 46)) (outside_in row) p in
    let i = inside e.address n.0 in
    rw (tally_has44 row, tally_has45 row, tally_has46 row, tally_twice row n.1, at_address (λ a. has_address a row) e.address i.0 i.1)

-- ---- what is made of them

pub answered_row : (row : List AlertEntry) → answered_of (tally_of row) ≡ row_answer row
unfolding row_answer
answered_row row =
    by_cases (outside_in row)
    (λ p. rw (tally_outside row, p))
    (λ p. rw (tally_outside row, p, tally_twice row p, tally_lowest row)
    (by_cases (asserts_in row) (λ q. rw q) (λ q. rw (q, cond_same (twice_in row)))))
  where
    cond_same : (b : Bool) → ◌≡◌ {A = Result ℕ Refusal} (cond b (Err NoAlert) (Err NoAlert)) (Err NoAlert)
    cond_same true = refl
    cond_same false = refl

released_none : (t : Tally) → is_refused t ≡ true → (row : List AlertEntry) → map (released_of t) row ≡ row
released_none t p [] = refl
released_none t p (e ∷ row) = rw (p, and-true e.asserting, released_none t p row)

released_found : (t : Tally) → is_refused t ≡ false → (row : List AlertEntry) → map (released_of t) row ≡ map (let_go_at (unwrap_or t.lowest 255)) row
released_found t p [] = refl
released_found t p (e ∷ row) = rw (p, released_found t p row)

pub released_row : (row : List AlertEntry) → map (released_of (tally_of row)) row ≡ row_after row
unfolding row_after row_answer
released_row row =
    by_cases (outside_in row)
    (λ p. rw p (released_none (tally_of row) (rw (tally_outside row, p)) row))
    (λ p. by_cases (not (asserts_in row) || twice_in row)
    (λ q. rw (p, q) (released_none (tally_of row) (rw (tally_outside row, p, tally_asserts row, tally_twice row p, q)) row))
    (λ q. rw (p, q, ← tally_least row) (released_found (tally_of row) (rw (tally_outside row, p, tally_asserts row, tally_twice row p, q)) row)))
