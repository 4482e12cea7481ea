-- Lines of a text; byte 10 is the newline.
use Rattle.std.specs.Prelude.{ℕ, ◌+◌, List, [], ◌∷◌, Bool, true, false, cond, ◌&&◌, ◌≡◌, ltb, eqb, length, drop}
use Rattle.std.specs.Borrow.{Bor}

unfoldable pub same_bytes : List ℕ → List ℕ → Bool
same_bytes [] [] = true
same_bytes [] (y ∷ ys) = false
same_bytes (x ∷ xs) [] = false
same_bytes (x ∷ xs) (y ∷ ys) = eqb x y && same_bytes xs ys

-- the bytes before the first newline
unfoldable pub first_line : List ℕ → List ℕ
first_line [] = []
first_line (b ∷ bs) = cond (eqb b 10) [] (b ∷ first_line bs)

-- the line that starts at an index, without its newline
unfoldable pub line_at : List ℕ → ℕ → List ℕ
unfolding first_line
line_at text at = first_line (drop at text)

-- the index behind that line: of its newline, where it has one
unfoldable pub end_at : List ℕ → ℕ → ℕ
unfolding line_at
end_at text at = at + length (line_at text at)

-- where that line starts in the text: at its end, for an index past it
unfoldable pub start_of : List ℕ → ℕ → ℕ
start_of text at = cond (ltb (length text) at) (length text) at

-- a lent slice is a part of a lent text: it lies in the same memory, so many bytes behind the text's start
abbrev pub IsPart : (part text : Bor (List ℕ)) → (start : ℕ) → Type 0
IsPart part text start = part.ref_ptr ≡ (text.ref_ptr.0, text.ref_ptr.1 + start)
