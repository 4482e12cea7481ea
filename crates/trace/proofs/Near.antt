-- A kind's line is short: the bytes near its start tell what stands there. Assumes nothing.
use Prim.Native.Nat.{ℕ, ◌+◌, ◌-◌, ◌≤◌, ◌<◌}
use mathlib.Core.Path.{◌≡◌, refl, sym, ap, ◌∙◌}
use mathlib.Core.List.{List, [], ◌∷◌, ◌++◌, append_assoc}
use native.Mathlib.Omega.{arith}
use lib.ListN.{length, take, drop, length-append, length-take, take-append-drop}
use lib.Seq.{take-append_seam}
use Rattle.std.proofs.Common.{min, Option, Some, None}
use Rattle.std.proofs.lemmas.List.{take-append-le}
use Rattle.std.proofs.lemmas.Option.{none-some, some_pair_parts}
use Rattle.event.specs.declared.Kind.{Kind}
use Rattle.line.specs.Line.{end_at}
use Rattle.trace.specs.Words.{kind_text, kind_named, named_by, kind_line}
use Rattle.trace.specs.Trace.{ended}
use Rattle.trace.proofs.Lines.{read_as}
use Rattle.trace.proofs.Words.{kind_short}
use Rattle.trace.proofs.RoundTrip.{kind_line_lem}
use Rattle.trace.proofs.Canonical.{NamedStands, kind_stands}

-- l is the text from an index on, as the code cuts it, and near its first 12 bytes, or all of fewer
module _ (s : List ℕ) (at : ℕ) {l : List ℕ} (there : l ≡ drop at s) (m : ℕ) (cut : m ≡ min (length l) 12) where
  abbrev near : List ℕ
  near = take m l

  -- a kind's line that stands near the index
  module _ (k : Kind) (after : List ℕ) (stands : near ≡ ended (kind_text k) ++ after) where
    pub near_named : Some (k, at + length (ended (kind_text k))) ≡ kind_line s at
    near_named =
        let q : drop at s ≡ ended (kind_text k) ++ (after ++ drop m l) =
        sym there ∙ sym (take-append-drop m l) ∙ ap (λ (x : List ℕ). x ++ drop m l) stands ∙ simp append_assoc in
        sym (kind_line_lem s at (after ++ drop m l) k q)

    near_back : kind_line near 0 ≡ Some (k, 0 + length (ended (kind_text k)))
    near_back = kind_line_lem near 0 after k stands

  -- what is read near the index
  pub near_as : {e : ℕ} {r : Option Kind} → e ≡ end_at near 0 → e < length near → r ≡ kind_named (take e near) → kind_line near 0 ≡ named_by (e + 1) r
  unfolding kind_line
  near_as {e} end h q = let all : e - 0 ≡ e = omega arith in read_as named_by None kind_named near 0 end h (rw all q)

  -- a line that stands at the index stands near it
  near_stands : (k : Kind) (after : List ℕ) → drop at s ≡ ended (kind_text k) ++ after
      → near ≡ ended (kind_text k) ++ drop (length (ended (kind_text k))) near
  near_stands k after q =
      let w : List ℕ = ended (kind_text k) in
      let whole : length l ≡ length w + length after = ap length (there ∙ q) ∙ length-append w after in
      let short : length w ≡ length (kind_text k) + 1 = length-append (kind_text k) (10 ∷ []) in
      let within : length w ≤ length near = omega (arith, cut, whole, short, kind_short k, length-take m l) in
      let same : take (length w) near ≡ w =
      sym (take-append-le (length w) near (drop m l) within)
      ∙ ap (λ (x : List ℕ). take (length w) x) (take-append-drop m l ∙ there ∙ q)
      ∙ take-append_seam w after in
      sym (take-append-drop (length w) near) ∙ ap (λ (x : List ℕ). x ++ drop (length w) near) same

  pub near_some : {k : Kind} {next j : ℕ} → kind_line near 0 ≡ Some (k, next) → at + next ≡ j → Some (k, j) ≡ kind_line s at
  near_some {k} {next} {j} e n =
      let all : next - 0 ≡ next = omega arith in
      let h = rw all at (rw e at (kind_stands near 0)).1 in
      let rest : List ℕ = drop next near in
      let stands : near ≡ ended (kind_text k) ++ rest = sym (take-append-drop next near) ∙ ap (λ (x : List ℕ). x ++ rest) h in
      let here : next ≡ 0 + length (ended (kind_text k)) =
      (some_pair_parts k k next (0 + length (ended (kind_text k))) (sym e ∙ near_back k rest stands)).1 in
      let place : j ≡ at + length (ended (kind_text k)) = omega (arith, n, here) in
      ap (λ (i : ℕ). Some (k, i)) place ∙ near_named k rest stands

  pub near_none : kind_line near 0 ≡ None → None ≡ kind_line s at
  near_none e = go (kind_line s at) (kind_stands s at)
    where
      go : (r : Option (Kind × ℕ)) → NamedStands s at r → None ≡ r
      go (Some (k, next)) h =
          let rest : List ℕ = drop (next - at) (drop at s) in
          let q : drop at s ≡ ended (kind_text k) ++ rest =
          sym (take-append-drop (next - at) (drop at s)) ∙ ap (λ (x : List ℕ). x ++ rest) h.1 in
          absurd
          (none-some (k, 0 + length (ended (kind_text k)))
          (sym e ∙ near_back k (drop (length (ended (kind_text k))) near) (near_stands k rest q)))
      go None h = refl
