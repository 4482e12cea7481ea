-- T-02 of document 02, the search at the alert response address, 0x0C: what a row of alert entries, one for each keeper on the line, is answered,
-- and what it holds then.
use Rattle.std.specs.Prelude.{ℕ, min, Bool, false, cond, not, ◌&&◌, ◌||◌, List, [], ◌∷◌, map, leb, eqb, Result, Ok, Err}
use Rattle.event.specs.declared.AlertEntry.{AlertEntry}
use Rattle.event.specs.declared.Refusal.{Refusal}
use Rattle.event.specs.declared.Refusal.TheVariants.{OutOfRange, NoAlert}
use Rattle.rules.specs.Replies.{accepts}

-- an entry's address is outside 44 to 46
unfoldable pub outside_in : List AlertEntry → Bool
outside_in [] = false
outside_in (e ∷ row) = not (leb 44 e.address && leb e.address 46) || outside_in row

-- an entry has the address; two have one address, asserting or not
unfoldable pub has_address : ℕ → List AlertEntry → Bool
has_address a [] = false
has_address a (e ∷ row) = eqb e.address a || has_address a row

unfoldable pub twice_in : List AlertEntry → Bool
twice_in [] = false
twice_in (e ∷ row) = has_address e.address row || twice_in row

-- an entry asserts the line; the lowest address of those that do, 255, which is above all, where none does
unfoldable pub asserts_in : List AlertEntry → Bool
asserts_in [] = false
asserts_in (e ∷ row) = e.asserting || asserts_in row

unfoldable pub lowest_asserting : List AlertEntry → ℕ
lowest_asserting [] = 255
lowest_asserting (e ∷ row) = cond e.asserting (min e.address (lowest_asserting row)) (lowest_asserting row)

-- 6, then 12, else done with the lowest address that asserts
unfoldable pub row_answer : List AlertEntry → Result ℕ Refusal
row_answer row =
    cond (outside_in row) (Err OutOfRange)
    (cond (not (asserts_in row) || twice_in row) (Err NoAlert)
    (Ok (lowest_asserting row)))

-- that entry's line is let go; the others stay, and a refused row stays whole
abbrev pub let_go_at : (address : ℕ) → AlertEntry → AlertEntry
let_go_at a e = record { address = e.address; asserting = e.asserting && not (eqb e.address a) }

unfoldable pub row_after : List AlertEntry → List AlertEntry
row_after row = cond (accepts (row_answer row)) (map (let_go_at (lowest_asserting row)) row) row
