-- The search for the first wrong line of a text, among what is read of it. Assumes nothing.
use Rattle.std.proofs.Common.{◌≡◌, ◌∙◌, ℕ, zero, suc, List, [], ◌∷◌, Bool, true, false, cond, leb, length, Ok, Err, Result, refl, sym, arith}
use native.Mathlib.Nat.{sub-zero}
use borrow.Author.Tests.{le-leb}
use Rattle.event.specs.declared.Event.{Event}
use Rattle.event.specs.declared.Refusal.{Refusal}
use Rattle.buffer.specs.Put.{put_of, held_of}
use Rattle.buffer.proofs.WholeLaws.{put_as, held_as}
use Rattle.line.specs.Line.{line_at}
use Rattle.trace.specs.Trace.{event_at}
use Rattle.trace.specs.declared.Misread.{Misread}
use Rattle.trace_reader.specs.Readings.{reading_then, readings_within, readings_from}
use Rattle.rewriter.specs.Wrong.{wrong_line_by, wrong_line_from, wrong_line}

-- the wrong line among readings of the text s; empty where none is wrong
abbrev pub wrong_among : List ℕ → List (Result Event Misread) → List ℕ
wrong_among s [] = []
wrong_among s (Ok e ∷ rest) = wrong_among s rest
wrong_among s (Err w ∷ rest) = line_at s w.start

within : (k : ℕ) (s : List ℕ) (at : ℕ) → wrong_line_from k s at ≡ wrong_among s (readings_within k s at)
unfolding wrong_line_from readings_within
within zero s at = refl
within (suc k) s at = go (leb (length s) at) (event_at s at) (λ next. within k s next)
  where
    go : (t : Bool) (r : Result (Event × ℕ) Misread) → ((next : ℕ) → wrong_line_from k s next ≡ wrong_among s (readings_within k s next))
        → cond t [] (wrong_line_by r s (λ next. wrong_line_from k s next)) ≡ wrong_among s (cond t [] (reading_then r (readings_within k s)))
    go true r ih = refl
    go false (Ok (e, next)) ih = ih next
    go false (Err w) ih = refl

-- ---- the loop: no reading before those that are left was wrong, and the buffer d is as it was

pub start : (s : List ℕ) {left : List (Result Event Misread)} → left ≡ readings_from s 0 → wrong_line s ≡ wrong_among s left
unfolding wrong_line readings_from
start s q = rw (q, sub-zero) (within (length s) s 0)

module _ (s d : List ℕ) {left : List (Result Event Misread)} {d1 : List ℕ} (same : d1 ≡ d) (inv : wrong_line s ≡ wrong_among s left) where
  pub again : {e : Event} {rest : List (Result Event Misread)} → left ≡ Ok e ∷ rest → wrong_line s ≡ wrong_among s rest
  again q = inv ∙ rw q

  none : left ≡ [] → wrong_line s ≡ []
  none q = inv ∙ rw q

  pub none_put : left ≡ [] → Ok 0 ≡ put_of d 0 (wrong_line s)
  unfolding put_of
  none_put q = rw (none q, le-leb 0 (length d) (omega arith))

  pub none_held : left ≡ [] → d1 ≡ held_of d 0 (wrong_line s)
  unfolding held_of
  none_held q = same ∙ rw (none q, le-leb 0 (length d) (omega arith))

  module _ {w : Misread} {rest : List (Result Event Misread)} (q : left ≡ Err w ∷ rest) {l : List ℕ} (is : l ≡ line_at s w.start) where
    found : l ≡ wrong_line s
    found = is ∙ sym (inv ∙ rw q)

    pub found_put : {p : Result ℕ Refusal} → p ≡ put_of d1 0 l → p ≡ put_of d 0 (wrong_line s)
    found_put y = put_as d l (wrong_line s) 0 (rw same at y) found

    pub found_held : {d2 : List ℕ} → d2 ≡ held_of d1 0 l → d2 ≡ held_of d 0 (wrong_line s)
    found_held y = held_as d l (wrong_line s) 0 (rw same at y) found
