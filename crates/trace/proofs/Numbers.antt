-- Laws of the lines that give a number, in `specs/Trace.antt`. Assumes nothing.
use Prim.Native.Nat.{ℕ, ◌+◌, ◌-◌, ◌≤◌, ◌<◌}
use mathlib.Core.Path.{◌≡◌, refl, sym, ap, ◌∙◌}
use mathlib.Core.List.{List, [], ◌∷◌, ◌++◌, append_assoc}
use mathlib.Core.Bool.{Bool, true, false, cond}
use native.Mathlib.Omega.{arith}
use mir.Syntax.{w32}
use mir.Val.{SFits, to_z, of_z}
use mir.ValLaws.{to_z-of_z}
use lib.Dec.{eqb}
use lib.IntN.{ℤ, pos}
use lib.ListN.{length, get_or, take, drop, length-append, take-append-drop}
use lib.Seq.{take-append_seam, drop-append_seam, drop-drop, drop-cons}
use Rattle.std.specs.Prelude.{Option, Some, None}
use Rattle.decimal.specs.Decimal.{parse_of, text_of}
use Rattle.decimal.proofs.Laws.{decimal_small}
use Rattle.line.specs.Line.{same_bytes, first_line, line_at, end_at}
use Rattle.line.proofs.Bytes.{same_self}
use Rattle.trace.specs.Trace.{number_named, given_by, number_line, ended, number_text}
use Rattle.trace.proofs.Lines.{unended, read_as}
use Rattle.trace.proofs.Places.{stands_then, stands_not, stands_fits}
use Rattle.trace.proofs.RoundTrip.{number_line_lem}
use Rattle.trace.proofs.Canonical.{FieldStands, number_stands}

-- ---- a decimal alone: the line of a number without a name

bare : (l : List ℕ) → parse_of l ≡ number_named [] l
unfolding number_named same_bytes
bare l = refl

module _ (s : List ℕ) (at : ℕ) {e : ℕ} (end : e ≡ end_at s at) where
  pub decimal_unended : length s ≤ e → None ≡ number_line [] s at
  unfolding number_line
  decimal_unended h = unended given_by None (number_named []) s at end h

  read : {d : Option ℤ} → e < length s → d ≡ parse_of (take (e - at) (drop at s)) → number_line [] s at ≡ given_by (e + 1) d
  unfolding number_line
  read h q = read_as given_by None (number_named []) s at end h (q ∙ bare (take (e - at) (drop at s)))

  pub decimal_given : {d : Option ℤ} {v : ℤ} → e < length s → d ≡ parse_of (take (e - at) (drop at s)) → d ≡ Some v → SFits w32 v
      → Some (to_z w32 (of_z w32 v), e + 1) ≡ number_line [] s at
  decimal_given {v = v} h q k f = rw (read h q, k, to_z-of_z w32 v f)

  pub decimal_malformed : {d : Option ℤ} → e < length s → d ≡ parse_of (take (e - at) (drop at s)) → d ≡ None → None ≡ number_line [] s at
  decimal_malformed h q k = rw (read h q, k)

-- ---- one digit: `rest` is the text from an index on

module _ (s : List ℕ) (at : ℕ) {rest : List ℕ} (b : rest ≡ drop at s) (two : 2 ≤ length rest)
    (least : 48 ≤ get_or rest 0 0) (most : get_or rest 0 0 ≤ 57) (newline : get_or rest 1 0 ≡ 10) where
  abbrev digit : ℕ
  digit = get_or rest 0 0 - 48

  line : text_of (pos digit) ≡ get_or rest 0 0 ∷ []
  unfolding text_of
  line = decimal_small digit (omega (arith, most)) ∙ ap (λ (b : ℕ). b ∷ []) (omega (arith, least))

  line_there : drop at s ≡ ended (text_of (pos digit)) ++ drop 2 rest
  line_there =
      let end : drop 1 rest ≡ 10 ∷ drop 2 rest = drop-cons rest 1 0 (omega (arith, two)) ∙ rw newline in
      sym b ∙ drop-cons rest 0 0 (omega (arith, two)) ∙ rw (end, line)

  pub digit_given : {z : ℤ} → z ≡ pos digit → Some (to_z w32 (of_z w32 z), at + 2) ≡ number_line [] s at
  digit_given e =
      let fits : SFits w32 (pos digit) = record { sfits = omega (arith, most) } in
      let n : at + length (ended (text_of (pos digit))) ≡ at + 2 = rw line in
      let l = number_line_lem s at (drop 2 rest) [] (pos digit) tt fits line_there in
      rw (e, to_z-of_z w32 (pos digit) fits) (sym (l ∙ ap (λ (k : ℕ). Some (pos digit, k)) n))

-- ---- a name in front of it

-- the first line of a text that starts on it
first_append : (a b : List ℕ) → first_line a ≡ a → first_line (a ++ b) ≡ a ++ first_line b
unfolding first_line
first_append [] b h = refl
first_append (x ∷ a) b h = go (eqb x 10) h (first_append a b)
  where
    go : (t : Bool) → cond t [] (x ∷ first_line a) ≡ x ∷ a → (first_line a ≡ a → first_line (a ++ b) ≡ a ++ first_line b)
        → cond t [] (x ∷ first_line (a ++ b)) ≡ x ∷ (a ++ first_line b)
    go true h ih = cc
    go false h ih = ap (λ (l : List ℕ). x ∷ l) (ih (cc))

named_behind : (name l : List ℕ) → number_named name (name ++ l) ≡ number_named [] l
unfolding number_named
named_behind name l = rw (take-append_seam, same_self, drop-append_seam) (bare l)

module _ (name s : List ℕ) (at : ℕ) (clean : first_line name ≡ name) {r : Bool} (e : r ≡ same_bytes (take (length name) (drop at s)) name) where
  module _ (y : r ≡ true) where
    behind : drop (at + length name) s ≡ drop (length name) (drop at s)
    behind = sym (drop-drop (length name) at s)

    line_behind : line_at s at ≡ name ++ line_at s (at + length name)
    unfolding line_at
    line_behind = ap first_line (stands_then name s at e y) ∙ first_append name (drop (length name) (drop at s)) clean ∙ rw behind

    end_behind : end_at s at ≡ end_at s (at + length name)
    unfolding end_at
    end_behind = let n = ap length line_behind ∙ length-append name (line_at s (at + length name)) in omega arith

    pub number_behind : {n : ℕ} {f : Option (ℤ × ℕ)} → length name ≡ n → f ≡ number_line [] s (at + n) → f ≡ number_line name s at
    unfolding number_line
    number_behind hn h = h ∙ rw (← hn, end_behind, line_behind, named_behind)

    pub behind_fits : {n m : ℕ} → length name ≡ n → at < m → length s < m → at + n < m
    behind_fits hn l l' = rw (← hn) (stands_fits name s at e y l l')

  pub number_other : r ≡ false → None ≡ number_line name s at
  unfolding number_text
  number_other n = go (number_line name s at) (number_stands s name at)
    where
      go : (f : Option (ℤ × ℕ)) → FieldStands s name at f → None ≡ f
      go (Some (z, next)) h =
          let rest : List ℕ = drop (next - at) (drop at s) in
          let q : drop at s ≡ number_text name z ++ rest = sym (take-append-drop (next - at) (drop at s)) ∙ ap (λ (l : List ℕ). l ++ rest) h.1 in
          absurd (stands_not name s at e n ((text_of z ++ (10 ∷ [])) ++ rest) (q ∙ simp append_assoc))
      go None h = refl
