-- The page, T-02 of document 02, the search: of a row's addresses and lines place by place, the reply number, the data and the row then.
use Rattle.std.specs.Prelude.{ℕ, ◌<◌, ◌≤◌, ◌≡◌, Bool, true, false, List, length, get_or}
use Rattle.event.specs.Answers as answers
use Rattle.event.specs.declared.AlertEntry.{AlertEntry}
use Rattle.rules.specs.AlertRow.{row_answer, row_after}

-- address and line of the entry at a place
abbrev pub entry_at : ℕ → List AlertEntry → AlertEntry
entry_at i row = get_or row i (record { address = 0; asserting = false })

abbrev pub address_at : ℕ → List AlertEntry → ℕ
address_at i row = (entry_at i row).address

abbrev pub asserts_at : ℕ → List AlertEntry → Bool
asserts_at i row = (entry_at i row).asserting

-- every address is one of 44 to 46; no two have one address
abbrev pub AllInside : List AlertEntry → Type 0
AllInside row = (i : ℕ) → i < length row → (44 ≤ address_at i row) × (address_at i row ≤ 46)

abbrev pub AllDifferent : List AlertEntry → Type 0
AllDifferent row = (i j : ℕ) → i < j → j < length row → address_at i row ≡ address_at j row → ⊥

-- of those asserting, the entry at a place has the lowest address
abbrev pub Lowest : ℕ → List AlertEntry → Type 0
Lowest i row = (asserts_at i row ≡ true) × ((j : ℕ) → j < length row → asserts_at j row ≡ true → address_at i row ≤ address_at j row)

abbrev pub row_number : List AlertEntry → ℕ
row_number row = answers.number_of (row_answer row)

abbrev pub row_data : List AlertEntry → ℕ
row_data row = answers.data_of (row_answer row)

pub record PageAlertRow (row : List AlertEntry) : Type 0 where
  -- "6 for an address outside 44 to 46"
  pub below : (i : ℕ) → i < length row → address_at i row < 44 → row_number row ≡ 6
  pub above : (i : ℕ) → i < length row → 46 < address_at i row → row_number row ≡ 6
  -- "then 12 exactly if no entry asserts or two have one address"; what else there can be is `found`
  pub none : AllInside row → ((i : ℕ) → i < length row → asserts_at i row ≡ false) → row_number row ≡ 12
  pub twice : AllInside row → (i j : ℕ) → i < j → j < length row → address_at i row ≡ address_at j row → row_number row ≡ 12
  -- "Of those asserting, the lowest address is the data answered"
  pub found :
      AllInside row → AllDifferent row → (i : ℕ) → i < length row → Lowest i row →
      (row_number row ≡ 0) × (row_data row ≡ address_at i row)
  -- "its line in the row is let go; the other entries stay"
  pub let_go :
      AllInside row → AllDifferent row → (i : ℕ) → i < length row → Lowest i row →
      entry_at i (row_after row) ≡ record { address = address_at i row; asserting = false }
  pub others :
      AllInside row → AllDifferent row → (i : ℕ) → i < length row → Lowest i row →
      (j : ℕ) → (j ≡ i → ⊥) → entry_at j (row_after row) ≡ entry_at j row
  pub whole : length (row_after row) ≡ length row
  -- "the row is then unchanged"; a refusal has data 0
  pub kept : 0 < row_number row → (row_after row ≡ row) × (row_data row ≡ 0)
