-- Laws of the lines of `specs/Line.antt`: where a line ends, and what stands there. Assumes nothing.
use Prim.Native.Nat.{ℕ, suc, ◌+◌, ◌-◌, ◌≤◌, ◌<◌}
use mathlib.Core.Path.{◌≡◌, refl, ap}
use mathlib.Core.List.{List, [], ◌∷◌, ◌++◌}
use mathlib.Core.Bool.{Bool, true, false, cond}
use native.Mathlib.Omega.{arith}
use native.Mathlib.Nat.{add_comm}
use lib.Dec.{eqb}
use lib.ListN.{length, take, drop, drop_of_length-le, length-drop}
use lib.Seq.{take-nil}
use borrow.Author.Tests.{lt-ltb, le-ltb, eq-eqb, ne_eqb, eqb-true}
use Rattle.std.specs.Option.{MatchOption, unwrap_or}
use Rattle.std.specs.List.{AllWithin, HoldsAt}
use Rattle.std.proofs.lemmas.Iterator.{index_from_first}
use Rattle.std.proofs.Common.{◌≢◌, min, Option, inl, inr}
use Rattle.std.proofs.lemmas.List.{take_rest}
use Rattle.std.proofs.lemmas.Bool.{cases_lt}
use Rattle.line.specs.Line.{first_line, line_at, end_at, start_of}

-- ---- the search of a line's end

-- what lies behind an index, as the code cuts it: nothing, past the end
pub behind : (s : List ℕ) (at m : ℕ) → m ≡ min at (length s) → take (length s - m) (drop m s) ≡ drop at s
behind s at m e =
    elim (cases_lt (length s) at) [
      | inl h ↦ let past : m ≡ length s = omega arith in
          rw (past, take_rest, drop_of_length-le s {i = length s} (omega arith), drop_of_length-le s {i = at} (omega arith))
      | inr h ↦ let within : m ≡ at = omega arith in rw (within, take_rest)
    ]

-- the place of the first newline, or the length where there is none
pub length-first_line : (l : List ℕ) (r : Option ℕ)
    → MatchOption r (AllWithin (λ b. b ≢ 10) l 0 (length l)) (λ i. (i < length l) × HoldsAt (λ b. b ≡ 10) l i × AllWithin (λ b. b ≢ 10) l 0 i)
    → length (first_line l) ≡ unwrap_or r (length l)
unfolding first_line
length-first_line =
    index_from_first (λ l. length (first_line l)) (λ b. b ≡ 10) (λ b. b ≢ 10) refl
    (λ x xs e. rw (eq-eqb x 10 e)) (λ x xs n. rw (ne_eqb x 10 n) (omega arith))

-- ---- a line as a part of the text

take_line : (l : List ℕ) → take (length (first_line l)) l ≡ first_line l
unfolding first_line
take_line [] = refl
take_line (b ∷ bs) = go (eqb b 10) (take_line bs)
  where
    go : (t : Bool) → take (length (first_line bs)) bs ≡ first_line bs
        → take (length (cond t [] (b ∷ first_line bs))) (b ∷ bs) ≡ cond t [] (b ∷ first_line bs)
    go true e = refl
    go false e = ap (λ (l : List ℕ). b ∷ l) e

line_short : (l : List ℕ) → length (first_line l) ≤ length l
unfolding first_line
line_short [] = omega arith
line_short (b ∷ bs) = go (eqb b 10) (line_short bs)
  where
    go : (t : Bool) → length (first_line bs) ≤ length bs → length (cond t [] (b ∷ first_line bs)) ≤ length (b ∷ bs)
    go true h = omega arith
    go false h = omega arith

-- behind a line that ends before its text there is a newline
take_ended : (l : List ℕ) → length (first_line l) < length l → take (suc (length (first_line l))) l ≡ first_line l ++ (10 ∷ [])
unfolding first_line
take_ended [] h = absurd (omega arith)
take_ended (b ∷ bs) h = go (eqb b 10) refl h (take_ended bs)
  where
    go : (t : Bool) → eqb b 10 ≡ t → length (cond t [] (b ∷ first_line bs)) < length (b ∷ bs)
        → (length (first_line bs) < length bs → take (suc (length (first_line bs))) bs ≡ first_line bs ++ (10 ∷ []))
        → take (suc (length (cond t [] (b ∷ first_line bs)))) (b ∷ bs) ≡ cond t [] (b ∷ first_line bs) ++ (10 ∷ [])
    go true e h ih = rw (eqb-true b 10 e)
    go false e h ih = ap (λ (l : List ℕ). b ∷ l) (ih (omega arith))

module _ (s : List ℕ) (at : ℕ) {e : ℕ} (end : e ≡ end_at s at) where
  pub end_from : at ≤ e
  unfolding end_at
  end_from = omega arith

  pub end_within : at ≤ length s → e ≤ length s
  unfolding end_at line_at
  end_within h = omega (arith, line_short (drop at s), length-drop at s)

  pub line_part : take (e - at) (drop at s) ≡ line_at s at
  unfolding end_at line_at
  line_part =
      let n : e - at ≡ length (first_line (drop at s)) = omega arith in
      rw n (take_line (drop at s))

  pub ended_part : e < length s → take (e + 1 - at) (drop at s) ≡ line_at s at ++ (10 ∷ [])
  unfolding end_at line_at
  ended_part h =
      let n : e + 1 - at ≡ suc (length (first_line (drop at s))) = omega arith in
      rw n (take_ended (drop at s) (omega (arith, length-drop at s)))

-- past the end of the text there is the empty line
pub line_past : (s : List ℕ) (at : ℕ) → length s < at → take (length s - length s) (drop (length s) s) ≡ line_at s at
unfolding line_at first_line
line_past s at h =
    rw (drop_of_length-le s {i = length s} (omega arith), drop_of_length-le s {i = at} (omega arith), take-nil)

-- ---- where a line lies: in the text's memory, behind its start o

module _ (s : List ℕ) (at b o : ℕ) where
  pub lies_past : length s < at → ◌≡◌ {A = ℕ × ℕ} (b, length s + o) (b, o + start_of s at)
  unfolding start_of
  lies_past h = rw (lt-ltb (length s) at h, add_comm (length s) o)

  pub lies_at : at ≤ length s → ◌≡◌ {A = ℕ × ℕ} (b, at + o) (b, o + start_of s at)
  unfolding start_of
  lies_at h = rw (le-ltb (length s) at h, add_comm at o)
