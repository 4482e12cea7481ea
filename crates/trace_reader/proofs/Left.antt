-- What is left of a text to read: nothing at its end, and else what stands there and the rest. Assumes nothing.
use Rattle.std.proofs.Common.{◌≡◌, ◌∙◌, ℕ, zero, suc, ◌-◌, ◌<◌, ◌≤◌, List, [], ◌∷◌, length, Ok, Err, Result, refl, sym, ap, arith, inl, inr}
use borrow.Author.Tests.{le-leb, lt-leb}
use Rattle.std.proofs.lemmas.Bool.{cases_lt}
use Rattle.event.specs.declared.Event.{Event}
use Rattle.trace.specs.Trace.{event_at}
use Rattle.trace.specs.declared.Misread.{Misread}
use Rattle.trace.proofs.Onward.{onward}
use Rattle.trace_reader.specs.Readings.{reading_then, readings_within, readings_from}
use Rattle.trace_reader.specs.Left.{readings_left}
use Rattle.trace_reader.specs.declared.TraceReader.{TraceReader}
use Rattle.std.specs.Borrow.{Bor}

step : (k j : ℕ) (s : List ℕ) (at : ℕ) → length s - at ≤ suc k → length s - at ≤ suc j
    → ((next : ℕ) → length s - next ≤ k → length s - next ≤ j → readings_within k s next ≡ readings_within j s next)
    → reading_then (event_at s at) (readings_within k s) ≡ reading_then (event_at s at) (readings_within j s)
step k j s at h h' ih = go (event_at s at) refl
  where
    go : (r : Result (Event × ℕ) Misread) → event_at s at ≡ r → reading_then r (readings_within k s) ≡ reading_then r (readings_within j s)
    go (Ok (e, next)) q =
        let far = onward s at refl q in
        ap (λ (l : List (Result Event Misread)). Ok e ∷ l) (ih next (omega (arith, far.0)) (omega (arith, far.0)))
    go (Err w) q = refl

-- whatever is at least the bytes left
same : (k j : ℕ) (s : List ℕ) (at : ℕ) → length s - at ≤ k → length s - at ≤ j → readings_within k s at ≡ readings_within j s at
unfolding readings_within
same zero zero s at h h' = refl
same zero (suc j) s at h h' = rw (le-leb (length s) at (omega arith))
same (suc k) zero s at h h' = rw (le-leb (length s) at (omega arith))
same (suc k) (suc j) s at h h' =
    elim (cases_lt at (length s)) [
      | inl more ↦ rw (lt-leb (length s) at more) (step k j s at h h' (λ next u u'. same k j s next u u'))
      | inr done ↦ rw (le-leb (length s) at done)
    ]

pub none_left : (s : List ℕ) (at : ℕ) → length s ≤ at → readings_from s at ≡ []
unfolding readings_from readings_within
none_left s at h = let z : length s - at ≡ 0 = omega arith in rw z

module _ (s : List ℕ) (at : ℕ) {r : Result (Event × ℕ) Misread} (is : r ≡ event_at s at) (more : at < length s) where
  one_left : readings_from s at ≡ reading_then r (readings_within (length s - suc at) s)
  unfolding readings_from readings_within
  one_left =
      let n : length s - at ≡ suc (length s - suc at) = omega arith in
      rw (n, lt-leb (length s) at more, ← is)

  pub event_left : (e : Event) (next : ℕ) → r ≡ Ok (e, next) → readings_from s at ≡ Ok e ∷ readings_from s next
  unfolding readings_from
  event_left e next q =
      let far = onward s at is q in
      one_left ∙ rw q (ap (λ (l : List (Result Event Misread)). Ok e ∷ l)
      (same (length s - suc at) (length s - next) s next (omega (arith, far.0)) (omega arith)))

  pub wrong_left : (w : Misread) → r ≡ Err w → readings_from s at ≡ Err w ∷ readings_from s (length s)
  wrong_left w q = one_left ∙ rw (q, none_left s (length s) (omega arith))

-- and the other way: what the first reading says of the text at an index
module _ (s : List ℕ) (at : ℕ) where
  abbrev First : List (Result Event Misread) → Type 0
  First [] = length s ≤ at
  First (Ok e ∷ rest) = (next : ℕ) × (event_at s at ≡ Ok (e, next)) × (rest ≡ readings_from s next) × (at < length s)
  First (Err w ∷ rest) = (event_at s at ≡ Err w) × (at < length s)

  first : First (readings_from s at)
  first = elim (cases_lt at (length s)) [
    | inl more ↦ go more (event_at s at) refl
    | inr done ↦ rw (none_left s at done) done
  ]
    where
      go : at < length s → (r : Result (Event × ℕ) Misread) → r ≡ event_at s at → First (readings_from s at)
      go more (Ok (e, next)) q = rw (event_left s at q more e next refl) (next, sym q, refl, more)
      go more (Err w) q = rw (wrong_left s at q more w refl) (sym q, more)

  pub first_event : {e : Event} {rest : List (Result Event Misread)} → readings_from s at ≡ Ok e ∷ rest
      → (next : ℕ) × (event_at s at ≡ Ok (e, next)) × (rest ≡ readings_from s next) × (at < length s)
  first_event q = rw q at first

  pub first_wrong : {w : Misread} {rest : List (Result Event Misread)} → readings_from s at ≡ Err w ∷ rest → (event_at s at ≡ Err w) × (at < length s)
  first_wrong q = rw q at first

  pub first_none : readings_from s at ≡ [] → length s ≤ at
  first_none q = rw q at first

-- a new reader has all of its text left
pub all_left : {it reader : TraceReader} {text : Bor (List ℕ)} → it ≡ reader → (reader.text ≡ text) × (reader.at ≡ 0)
    → readings_left it ≡ readings_from text.now 0
all_left q (t, z) = rw (q, t, z)
