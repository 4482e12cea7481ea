-- The page of the search at the alert response address holds of every row of alert entries. Assumes nothing.
use Prim.Native.Nat.{ℕ, ◌<◌}
use mathlib.Core.Path.{◌≡◌, refl, sym, ap, ◌∙◌}
use mathlib.Core.Bool.{true, false, not, ◌&&◌, ◌||◌, and-true, and-false, or-true}
use mathlib.Core.List.{List}
use native.Mathlib.Omega.{arith}
use lib.Dec.{leb, ltb}
use lib.ListN.{length, length-map, get_or-map, get_or-eq_default}
use borrow.Author.Tests.{ltb-true, ltb-false, lt-leb, eq-eqb, ne_eqb}
use Rattle.integer.proofs.BoolLaws.{by_cases, either}
use Rattle.event.specs.declared.AlertEntry.{AlertEntry}
use Rattle.std.specs.Prelude.{Ok}
use Rattle.rules.specs.Replies.{accepts}
use Rattle.rules.specs.AlertRow.{twice_in, asserts_in, lowest_asserting, row_answer, let_go_at, row_after}
use Rattle.rules.specs.PageAlertRow.{PageAlertRow, entry_at, address_at, AllInside, AllDifferent, Lowest, row_number, row_data}
use Rattle.rules.proofs.PageRepliesLaws.{no_data}
use Rattle.rules.proofs.AlertRowLaws.{one_outside, all_inside, one_asserts, none_asserts, two_alike, all_different, lowest_is}

-- what a place past the end has
abbrev absent : AlertEntry
absent = record { address = 0; asserting = false }

module _ (row : List AlertEntry) where
  six : (i : ℕ) → i < length row → (leb 44 (address_at i row) && leb (address_at i row) 46) ≡ false → row_number row ≡ 6
  unfolding row_answer
  six i l o = rw (one_outside row i l o)

  twelve : AllInside row → (not (asserts_in row) || twice_in row) ≡ true → row_number row ≡ 12
  unfolding row_answer
  twelve inside y = rw (all_inside row inside, y)

  whole : length (row_after row) ≡ length row
  unfolding row_after
  whole = either (λ (r : List AlertEntry). length r ≡ length row) (accepts (row_answer row)) (length-map row (let_go_at (lowest_asserting row))) refl

  kept : 0 < row_number row → (row_after row ≡ row) × (row_data row ≡ 0)
  unfolding row_after
  kept n =
      let bad : accepts (row_answer row) ≡ false = ne_eqb (row_number row) 0 (λ z. omega arith) in
      (rw bad, no_data (row_answer row) bad)

  -- an entry that is found
  module _ (inside : AllInside row) (different : AllDifferent row) (i : ℕ) (l : i < length row) (low : Lowest i row) where
    lowest_here : lowest_asserting row ≡ address_at i row
    lowest_here = lowest_is row i l (inside i l).1 low

    answered : row_answer row ≡ Ok (address_at i row)
    unfolding row_answer
    answered = rw (all_inside row inside, one_asserts row i l low.0, all_different row different, lowest_here)

    after : (j : ℕ) → entry_at j (row_after row) ≡ let_go_at (address_at i row) (entry_at j row)
    unfolding row_after
    after j = rw (answered, lowest_here) (get_or-map (let_go_at (address_at i row)) row j absent)

    -- no entry elsewhere has its address
    apart : (j : ℕ) → (j ≡ i → ⊥) → address_at j row ≡ address_at i row → ⊥
    apart j other q =
        by_cases (ltb j (length row))
        (λ h. by_cases (ltb i j)
        (λ o. different i j (ltb-true i j o) (ltb-true j _ h) (sym q))
        (λ o. different j i (omega (arith, ltb-false i j o)) l q))
        (λ h. let none = ap (λ (e : AlertEntry). e.address) (get_or-eq_default row absent (ltb-false j _ h)) in
        omega (arith, inside i l, none))

pub page_alert_row : (row : List AlertEntry) → PageAlertRow row
page_alert_row row =
    record {
      below = λ i l b. six row i l (rw (lt-leb 44 (address_at i row) b));
      above = λ i l a. six row i l (rw (lt-leb (address_at i row) 46 a, and-false));
      none = λ inside quiet. twelve row inside (rw (none_asserts row quiet));
      twice = λ inside i j o l q. twelve row inside (rw (two_alike row i j o l q, or-true));
      found = λ inside different i l low. rw (answered row inside different i l low) (refl, refl);
      let_go = λ inside different i l low. after row inside different i l low i ∙ rw (eq-eqb (address_at i row) (address_at i row) refl, and-false);
      others = λ inside different i l low j other.
          after row inside different i l low j
          ∙ rw (ne_eqb (address_at j row) (address_at i row) (apart row inside different i l low j other), and-true);
      whole = whole row;
      kept = kept row;
    }
