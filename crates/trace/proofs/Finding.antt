-- The kind that a line names, found by a search of all kinds. Assumes nothing.
use mathlib.Core.Path.{◌≡◌, refl, sym, ap, ◌∙◌}
use lib.ListN.{take, drop, take-append-drop}
use Prim.Native.Nat.{ℕ}
use mathlib.Core.Bool.{Bool, true, false, cond, true≢false}
use mathlib.Core.List.{List, [], ◌∷◌, ◌++◌}
use Rattle.std.proofs.Common.{Option, Some, None}
use Rattle.std.specs.List.{find}
use Rattle.std.specs.Option.{option_map}
use Rattle.line.specs.Line.{same_bytes}
use Rattle.line.proofs.Bytes.{same_self, same_then}
use Rattle.event.specs.declared.Kind.{Kind}
use Rattle.event.specs.Kinds.{kinds}
use Rattle.trace.specs.Words.{word_of, kind_text, kind_in, kind_named}

found : (ks : List Kind) (l : List ℕ) → kind_in ks l ≡ find (λ k. same_bytes l (kind_text k)) ks
unfolding kind_in
found [] l = refl
found (k ∷ ks) l = go (same_bytes l (kind_text k)) (found ks l)
  where
    go : (t : Bool) → kind_in ks l ≡ find (λ k. same_bytes l (kind_text k)) ks
        → cond t (Some k) (kind_in ks l) ≡ cond t (Some k) (find (λ k. same_bytes l (kind_text k)) ks)
    go true e = refl
    go false e = e

named_by_search : (l : List ℕ) (r : Option Kind) → option_map (λ (k : Kind). k) r ≡ find (λ k. same_bytes l (kind_text k)) kinds → r ≡ kind_named l
unfolding kind_named
named_by_search l r h = same r ∙ h ∙ sym (found kinds l)
  where
    same : (r : Option Kind) → r ≡ option_map (λ (k : Kind). k) r
    same (Some k) = refl
    same None = refl

-- ---- behind kind=

-- kind=
abbrev pub head : List ℕ
head = 107 ∷ 105 ∷ 110 ∷ 100 ∷ 61 ∷ []

pub named_behind : (l word : List ℕ) (r : Option Kind) → same_bytes (take 5 l) head ≡ true → word ≡ drop 5 l
    → option_map (λ (k : Kind). k) r ≡ find (λ k. same_bytes word (word_of k)) kinds → r ≡ kind_named l
unfolding same_bytes
named_behind l word r t w h = rw whole (named_by_search (head ++ word) r h)
  where
    whole : l ≡ head ++ word
    whole = sym (take-append-drop 5 l) ∙ ap (λ (x : List ℕ). x ++ drop 5 l) (same_then (take 5 l) head t) ∙ ap (λ (x : List ℕ). head ++ x) (sym w)

none_in : (ks : List Kind) (l : List ℕ) → ((k : Kind) → same_bytes l (kind_text k) ≡ false) → None ≡ kind_in ks l
unfolding kind_in
none_in [] l f = refl
none_in (k ∷ ks) l f = rw (f k) (none_in ks l f)

pub none_named : (l : List ℕ) → same_bytes (take 5 l) head ≡ false → None ≡ kind_named l
unfolding kind_named
none_named l f = none_in kinds l (λ k. other k (same_bytes l (kind_text k)) refl)
  where
    other : (k : Kind) (t : Bool) → same_bytes l (kind_text k) ≡ t → t ≡ false
    other k false e = refl
    other k true e =
        let h : same_bytes (take 5 l) head ≡ true = rw (same_then l (kind_text k) e) (same_self head) in
        absurd (true≢false (sym h ∙ f))
