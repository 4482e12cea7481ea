-- What was written of an event reads back as it. Assumes nothing.
use Prim.Native.Nat.{ℕ, ◌+◌, ◌-◌}
use mathlib.Core.Path.{◌≡◌, refl, sym, ap, ◌∙◌}
use mathlib.Core.List.{List, [], ◌∷◌, ◌++◌, append_assoc}
use mathlib.Core.Bool.{Bool, true, false, not, ◌&&◌}
use native.Mathlib.Omega.{arith}
use mir.Syntax.{w32}
use mir.Val.{SFits}
use lib.Dec.{eqb}
use lib.IntN.{ℤ}
use lib.ListN.{length, drop, length-append, length-drop}
use lib.Seq.{take-append_seam, drop-append_seam, drop-drop}
use borrow.Author.Tests.{lt-ltb, eqb-true, eqb-false, ne_eqb, not-true}
use Rattle.integer.proofs.BoolLaws.{both}
use Rattle.std.specs.Prelude.{Option, Some, None, Ok}
use Rattle.decimal.specs.Decimal.{text_of}
use Rattle.decimal.proofs.Clean.{Clean, clean_append, no_newline}
use Rattle.decimal.proofs.RoundTrip as decimal
use Rattle.event.specs.declared.Event.{Event}
use Rattle.event.specs.declared.Kind.{Kind}
use Rattle.event.specs.Kinds.{kind_of, numbers_of, kinds, kind_at, place_of}
use Rattle.event.proofs.Laws.{passes, passed, kind_back, place_small, event_back}
use Rattle.line.specs.Line.{same_bytes, first_line, line_at, end_at}
use Rattle.line.proofs.Bytes.{same_self}
use Rattle.trace.specs.Words.{kind_text, who_name, arg_name, val_name, kind_in, kind_named, named_by, kind_line}
use Rattle.trace.specs.Trace.{number_named, given_by, number_line, event_at, ended, number_text, numbers_text, event_text}
use Rattle.trace.proofs.Lines.{line_as}

-- ---- a line

first_line_lem : (l after : List ℕ) → Clean l → first_line (ended l ++ after) ≡ l
unfolding first_line
first_line_lem [] after h = refl
first_line_lem (b ∷ bs) after h = rw (ne_eqb b 10 h.0) (ap (λ (l : List ℕ). b ∷ l) (first_line_lem bs after h.1))

-- a text in which a line stands at an index
module _ (text : List ℕ) (at : ℕ) (l after : List ℕ) (stands : drop at text ≡ ended l ++ after) where
  pub behind : drop (at + length (ended l)) text ≡ after
  behind = sym (drop-drop (length (ended l)) at text) ∙ rw stands (drop-append_seam (ended l) after)

  -- it is read as what it says, and the next line starts behind it
  pub line_back_lem : {A B : Type 0} (by : ℕ → A → B) (wrong : B) (of : List ℕ → A) → Clean l → line_as by wrong of text at ≡ by (at + length (ended l)) (of l)
  unfolding end_at line_at
  line_back_lem by wrong of h =
      let n : length text - at ≡ length l + 1 + length after = simp (length-drop, length-append) at (ap length stands) in
      let q : length (ended l) ≡ length l + 1 = length-append l (10 ∷ []) in
      rw (stands, first_line_lem l after h, lt-ltb (at + length l) (length text) (omega arith), q) (ap (λ (n : ℕ). by n (of l)) (omega arith))

-- ---- the lines of an event

clean : List ℕ → Bool
clean [] = true
clean (b ∷ bs) = not (eqb b 10) && clean bs

clean_then : (l : List ℕ) → clean l ≡ true → Clean l
unfolding clean
clean_then [] y = tt
clean_then (b ∷ bs) y = let t = both (not (eqb b 10)) (clean bs) y in (eqb-false b 10 (not-true (eqb b 10) t.0), clean_then bs t.1)

-- a word that stands for the kind at a place
names : ℕ → Option Kind → Bool
names p (Some k) = eqb (place_of k) p
names p None = false

names_then : (p : ℕ) (w : Option Kind) → names p w ≡ true → w ≡ Some (kind_at p)
unfolding names
names_then p (Some k) y = ap Some (sym (kind_back k) ∙ ap kind_at (eqb-true (place_of k) p y))
names_then p None y = cc

-- each kind's line has no newline, and names it
line_back : ℕ → Bool
line_back p = clean (kind_text (kind_at p)) && names p (kind_named (kind_text (kind_at p)))

lines_back : passes line_back (length kinds) ≡ true
unfolding passes line_back clean names kind_named kind_in same_bytes
lines_back = refl

kind_names : (k : Kind) → Clean (kind_text k) × (kind_named (kind_text k) ≡ Some k)
unfolding line_back
kind_names k =
    let p : ℕ = place_of k in
    let l : List ℕ = kind_text (kind_at p) in
    let t = both (clean l) (names p (kind_named l)) (passed line_back (length kinds) lines_back p (place_small k)) in
    let r : Clean l × (kind_named l ≡ Some (kind_at p)) = (clean_then l t.0, names_then p (kind_named l) t.1) in
    rw (kind_back k) at r

value_back : (name : List ℕ) (z : ℤ) → SFits w32 z → number_named name (name ++ text_of z) ≡ Some z
unfolding number_named
value_back name z f = rw (take-append_seam, same_self, drop-append_seam) (decimal.round_trip z f)

-- ---- an event

module _ (text : List ℕ) (at : ℕ) (after : List ℕ) where
  pub kind_line_lem : (k : Kind) → drop at text ≡ ended (kind_text k) ++ after → kind_line text at ≡ Some (k, at + length (ended (kind_text k)))
  unfolding kind_line
  kind_line_lem k stands =
      line_back_lem text at (kind_text k) after stands named_by None kind_named (kind_names k).0 ∙ rw (kind_names k).1

  pub number_line_lem : (name : List ℕ) (z : ℤ) → Clean name → SFits w32 z → drop at text ≡ ended (name ++ text_of z) ++ after
      → number_line name text at ≡ Some (z, at + length (ended (name ++ text_of z)))
  unfolding number_line
  number_line_lem name z c f stands =
      line_back_lem text at (name ++ text_of z) after stands given_by None (number_named name) (clean_append name (text_of z) c (no_newline z))
      ∙ rw (value_back name z f)

four : (a b c d after : List ℕ) → (a ++ (b ++ (c ++ d))) ++ after ≡ a ++ (b ++ (c ++ (d ++ after)))
four a b c d after = simp append_assoc

four_lengths : (a b c d : List ℕ) → length (a ++ (b ++ (c ++ d))) ≡ length a + (length b + (length c + length d))
four_lengths a b c d = simp length-append

-- an event whose text stands at an index is read there, and the next one starts behind it
pub read_back : (text : List ℕ) (at : ℕ) (e : Event) (after : List ℕ) → drop at text ≡ event_text e ++ after
    → SFits w32 (numbers_of e).who → SFits w32 (numbers_of e).arg → SFits w32 (numbers_of e).val
    → event_at text at ≡ Ok (e, at + length (event_text e))
unfolding event_at event_text numbers_text number_text
read_back text at e after stands f f' f'' =
    let kind : List ℕ = kind_text (kind_of e) in
    let who : List ℕ = who_name ++ text_of (numbers_of e).who in
    let arg : List ℕ = arg_name ++ text_of (numbers_of e).arg in
    let val : List ℕ = val_name ++ text_of (numbers_of e).val in
    let after3 : List ℕ = ended val ++ after in
    let after2 : List ℕ = ended arg ++ after3 in
    let after1 : List ℕ = ended who ++ after2 in
    let at1 : ℕ = at + length (ended kind) in
    let at2 : ℕ = at1 + length (ended who) in
    let at3 : ℕ = at2 + length (ended arg) in
    let stands0 = stands ∙ four (ended kind) (ended who) (ended arg) (ended val) after in
    let stands1 = behind text at kind after1 stands0 in
    let stands2 = behind text at1 who after2 stands1 in
    let stands3 = behind text at2 arg after3 stands2 in
    rw (
      kind_line_lem text at after1 (kind_of e) stands0,
      number_line_lem text at1 after2 who_name (numbers_of e).who (omega arith) f stands1,
      number_line_lem text at2 after3 arg_name (numbers_of e).arg (omega arith) f' stands2,
      number_line_lem text at3 after val_name (numbers_of e).val (omega arith) f'' stands3,
      four_lengths (ended kind) (ended who) (ended arg) (ended val),
      event_back e,
    )
    (ap (λ (n : ℕ). Ok (e, n)) (omega arith))

pub round_trip : (before after : List ℕ) (e : Event) → SFits w32 (numbers_of e).who → SFits w32 (numbers_of e).arg → SFits w32 (numbers_of e).val
    → event_at (before ++ (event_text e ++ after)) (length before) ≡ Ok (e, length before + length (event_text e))
round_trip before after e = read_back (before ++ (event_text e ++ after)) (length before) e after (drop-append_seam before (event_text e ++ after))
