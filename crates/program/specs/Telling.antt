-- What the programs' common part asks of the functions that it is lent.
use Rattle.std.specs.Prelude.{◌≡◌, ℕ, ◌≤◌, List, length, ⊤}
use Rattle.std.specs.Borrow.{Bor, MutBor}
use Rattle.std.proofs.lemmas.List.Edits.{sets}
use Rattle.program.specs.declared.Failure.{Failure}
use Rattle.program.specs.declared.Failure.TheVariants.{Unread, Unwritten}

-- lines may be put for each text into a buffer of so many bytes
abbrev pub CanTell : (pre : Bor (List ℕ) → MutBor (List ℕ) → Type 0) → (longest : ℕ) → Type 0
CanTell pre longest = (text : Bor (List ℕ)) (buffer : MutBor (List ℕ)) → length buffer.now ≡ longest → pre text buffer

-- for each text the lines of a rule are put at the start of such a buffer, which has room for them, and their end is returned
pub record PutsBy (post : Bor (List ℕ) → MutBor (List ℕ) → ℕ → MutBor (List ℕ) → Type 0) (longest : ℕ) (rule : List ℕ → List ℕ) : Type 0 where
  pub room : (text : List ℕ) → length (rule text) ≤ longest
  pub end : (text : Bor (List ℕ)) (old new : MutBor (List ℕ)) (end : ℕ) → length old.now ≡ longest → post text old end new → end ≡ length (rule text.now)
  pub held : (text : Bor (List ℕ)) (old new : MutBor (List ℕ)) (end : ℕ) → length old.now ≡ longest → post text old end new
      → new.now ≡ sets old.now 0 (rule text.now)

-- nothing was to be written yet
abbrev pub before_writing : Failure → Type 0
before_writing (Unread error) = ⊤
before_writing (Unwritten error) = ⊥
