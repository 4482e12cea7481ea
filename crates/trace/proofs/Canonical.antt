-- The bytes of an event that was read are its text: it has no other. Assumes nothing.
use Prim.Native.Nat.{ℕ, zero, suc, ◌+◌, ◌-◌, ◌≤◌, ◌<◌}
use mathlib.Core.Path.{◌≡◌, refl, sym, ap, ◌∙◌}
use mathlib.Core.List.{List, [], ◌∷◌, ◌++◌, map, append_assoc}
use mathlib.Core.Bool.{Bool, true, false, cond}
use native.Mathlib.Omega.{arith}
use lib.IntN.{ℤ}
use lib.ListN.{length, get_or, take, drop, take-append-drop}
use lib.Seq.{take-add, drop-drop}
use Rattle.std.specs.Prelude.{Option, Some, None, Result, Ok, Err}
use Rattle.decimal.specs.Decimal.{parse_of, text_of}
use Rattle.decimal.proofs.RoundTrip.{only_text}
use Rattle.event.specs.declared.Numbers.{Numbers}
use Rattle.event.specs.declared.Event.{Event}
use Rattle.event.specs.declared.Kind.{Kind}
use Rattle.event.specs.Kinds.{event_of, kinds, kind_at, place_of}
use Rattle.event.proofs.Laws.{kind_back, place_small}
use Rattle.line.specs.Line.{same_bytes}
use Rattle.line.proofs.Bytes.{same_then}
use Rattle.trace.specs.declared.Misread.{Misread}
use Rattle.trace.specs.Words.{kind_text, who_name, arg_name, val_name, kind_in, kind_named, named_by, kind_line}
use Rattle.trace.specs.Trace.{number_named, given_by, number_line, after_val, after_arg, after_who, after_kind, event_at}
use Rattle.trace.specs.Trace.{ended, number_text, numbers_text, event_text}
use Rattle.trace.proofs.Lines.{either}

-- ---- what names a kind, or gives a number, is its text

named_in : (ks : List Kind) (l : List ℕ) {k : Kind} → kind_in ks l ≡ Some k → l ≡ kind_text k
unfolding kind_in
named_in [] l e = cc
named_in (j ∷ ks) l {k} e = go (same_bytes l (kind_text j)) refl e (named_in ks l)
  where
    go : (t : Bool) → same_bytes l (kind_text j) ≡ t → cond t (Some j) (kind_in ks l) ≡ Some k → (kind_in ks l ≡ Some k → l ≡ kind_text k) → l ≡ kind_text k
    go true h q more = let s : j ≡ k = cc in rw (← s) (same_then l (kind_text j) h)
    go false h q more = more q

named_only : (l : List ℕ) {k : Kind} → kind_named l ≡ Some k → l ≡ kind_text k
unfolding kind_named
named_only l e = named_in kinds l e

given_only : (name l : List ℕ) {z : ℤ} → number_named name l ≡ Some z → l ≡ name ++ text_of z
unfolding number_named
given_only name l {z} e = go (same_bytes (take (length name) l) name) refl e
  where
    go : (t : Bool) → same_bytes (take (length name) l) name ≡ t → cond t (parse_of (drop (length name) l)) None ≡ Some z → l ≡ name ++ text_of z
    go true h q =
        sym (take-append-drop (length name) l)
        ∙ ap (λ (a : List ℕ). a ++ drop (length name) l) (same_then (take (length name) l) name h)
        ∙ ap (λ (b : List ℕ). name ++ b) (only_text (drop (length name) l) z q)
    go false h q = cc

-- what is the same all along the table is the same of every kind
module _ {A : Type 0} (f g : Kind → A) where
  same_at : (ks : List Kind) (p : ℕ) (first : Kind) → p < length ks → map f ks ≡ map g ks → f (get_or ks p first) ≡ g (get_or ks p first)
  same_at [] p first h e = absurd (omega arith)
  same_at (k ∷ ks) zero first h e = ap (λ (l : List A). get_or l 0 (f k)) e
  same_at (k ∷ ks) (suc p) first h e = same_at ks p first (omega arith) (ap (λ (l : List A). drop 1 l) e)

  all_along : map f kinds ≡ map g kinds → (k : Kind) → f k ≡ g k
  all_along e k = rw (kind_back k) at (same_at kinds (place_of k) (kind_at 0) (place_small k) e)

-- an event that was made has its kind and its numbers
made_text : (k : Kind) (n : Numbers) → event_text (event_of k n) ≡ ended (kind_text k) ++ numbers_text n
unfolding event_text
made_text k n = all_along (λ k. event_text (event_of k n)) (λ k. ended (kind_text k) ++ numbers_text n) refl k

-- ---- four lines

module _ (s : List ℕ) where
  -- a text stands between two places
  abbrev pub Stands : (at next : ℕ) → List ℕ → Type 0
  Stands at next t = (at ≤ next) × (take (next - at) (drop at s) ≡ t)

  joined : (at mid next : ℕ) (a b : List ℕ) → Stands at mid a → Stands mid next b → Stands at next (a ++ b)
  joined at mid next a b p q =
      let n : next - at ≡ (mid - at) + (next - mid) = omega arith in
      let m : at + (mid - at) ≡ mid = omega arith in (
        omega arith,
        rw (n, take-add (mid - at) (next - mid) (drop at s), drop-drop (mid - at) at s, m, p.1, q.1),
      )

  abbrev pub FieldStands : (name : List ℕ) → ℕ → Option (ℤ × ℕ) → Type 0
  FieldStands name at (Some (z, next)) = Stands at next (number_text name z)
  FieldStands name at None = Unit {0}

  abbrev pub NamedStands : ℕ → Option (Kind × ℕ) → Type 0
  NamedStands at (Some (k, next)) = Stands at next (ended (kind_text k))
  NamedStands at None = Unit {0}

  pub number_stands : (name : List ℕ) (at : ℕ) → FieldStands name at (number_line name s at)
  unfolding number_line number_text
  number_stands name at =
      either given_by None (number_named name) s at (FieldStands name at) tt (λ next l h h' e. given next l (number_named name l) h e refl)
    where
      given : (next : ℕ) (l : List ℕ) (d : Option ℤ) → at < next → take (next - at) (drop at s) ≡ ended l → number_named name l ≡ d
          → FieldStands name at (given_by next d)
      given next l (Some z) h e q = (omega arith, e ∙ ap ended (given_only name l q))
      given next l None h e q = tt

  pub kind_stands : (at : ℕ) → NamedStands at (kind_line s at)
  unfolding kind_line
  kind_stands at = either named_by None kind_named s at (NamedStands at) tt (λ next l h h' e. given next l (kind_named l) h e refl)
    where
      given : (next : ℕ) (l : List ℕ) (w : Option Kind) → at < next → take (next - at) (drop at s) ≡ ended l → kind_named l ≡ w
          → NamedStands at (named_by next w)
      given next l (Some k) h e q = (omega arith, e ∙ ap ended (named_only l q))
      given next l None h e q = tt

  abbrev ReadingStands : ℕ → Result (Event × ℕ) Misread → Type 0
  ReadingStands at (Ok (e, next)) = Stands at next (event_text e)
  ReadingStands at (Err w) = Unit {0}

  event_stands : (at : ℕ) → ReadingStands at (event_at s at)
  unfolding event_at numbers_text
  event_stands at = kind (kind_line s at) (kind_stands at)
    where
      val : (at1 at3 : ℕ) (k : Kind) (who arg : ℤ) → Stands at at1 (ended (kind_text k)) → Stands at1 at3 (number_text who_name who ++ number_text arg_name arg)
          → (f : Option (ℤ × ℕ)) → FieldStands val_name at3 f → ReadingStands at (after_val at3 k who arg f)
      val at1 at3 k who arg p q (Some (v, next)) r =
          let n : Numbers = record { who = who; arg = arg; val = v } in
          let t = joined at1 at3 next (number_text who_name who ++ number_text arg_name arg) (number_text val_name v) q r in
          let u = joined at at1 next (ended (kind_text k)) (numbers_text n) p (t.0, rw append_assoc at t.1) in
          rw (made_text k n) u
      val at1 at3 k who arg p q None r = tt

      arg : (at1 at2 : ℕ) (k : Kind) (who : ℤ) → Stands at at1 (ended (kind_text k)) → Stands at1 at2 (number_text who_name who)
          → (f : Option (ℤ × ℕ)) → FieldStands arg_name at2 f → ReadingStands at (after_arg s at2 k who f)
      arg at1 at2 k who p q (Some (a, next)) r =
          let t = joined at1 at2 next (number_text who_name who) (number_text arg_name a) q r in
          val at1 next k who a p t (number_line val_name s next) (number_stands val_name next)
      arg at1 at2 k who p q None r = tt

      who : (at1 : ℕ) (k : Kind) → Stands at at1 (ended (kind_text k)) → (f : Option (ℤ × ℕ)) → FieldStands who_name at1 f
          → ReadingStands at (after_who s at1 k f)
      who at1 k p (Some (w, next)) r = arg at1 next k w p r (number_line arg_name s next) (number_stands arg_name next)
      who at1 k p None r = tt

      kind : (n : Option (Kind × ℕ)) → NamedStands at n → ReadingStands at (after_kind s at n)
      kind (Some (k, next)) p = who next k p (number_line who_name s next) (number_stands who_name next)
      kind None p = tt

pub canonical : (s : List ℕ) (at : ℕ) {e : Event} {next : ℕ} → event_at s at ≡ Ok (e, next) → take (next - at) (drop at s) ≡ event_text e
canonical s at q = (rw q at (event_stands s at)).1
