-- A text put into a lent buffer whole, or refused with 11 (document 01, "The reply numbers") and the buffer as it was.
use Rattle.std.specs.Prelude.{ℕ, ◌+◌, List, Bool, cond, leb, length, Result, Ok, Err}
use Rattle.std.proofs.lemmas.List.Edits.{sets}
use Rattle.event.specs.declared.Refusal.TheVariants.{WrongSize}
use Rattle.event.specs.declared.Refusal.{Refusal}

-- the text fits the buffer d from an index on
abbrev pub fits_at : (d : List ℕ) (at : ℕ) (text : List ℕ) → Bool
fits_at d at text = leb (at + length text) (length d)

-- what the writer answers
unfoldable pub put_of : (d : List ℕ) (at : ℕ) (text : List ℕ) → Result ℕ Refusal
put_of d at text = cond (fits_at d at text) (Ok (at + length text)) (Err WrongSize)

-- what the buffer then holds; `sets` stores the bytes of a text one after the other
unfoldable pub held_of : (d : List ℕ) (at : ℕ) (text : List ℕ) → List ℕ
held_of d at text = cond (fits_at d at text) (sets d at text) d
