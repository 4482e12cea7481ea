-- The events of a whole text, event by event. Assumes nothing.
use Prim.Native.Nat.{ℕ, zero, suc, ◌+◌, ◌-◌, ◌≤◌, ◌<◌}
use mathlib.Core.Path.{◌≡◌, refl, sym, ap, ◌∙◌}
use mathlib.Core.List.{List, [], ◌∷◌, ◌++◌, append-nil, append_assoc}
use mathlib.Core.Bool.{Bool, true, false, cond}
use native.Mathlib.Omega.{arith}
use native.Mathlib.Nat.{sub-zero}
use lib.Dec.{leb}
use lib.ListN.{length, take, length-append}
use lib.Seq.{take-add, take_all}
use borrow.Author.Tests.{le-leb, lt-leb, leb-true}
use Rattle.event.specs.declared.Event.{Event}
use Rattle.trace.specs.declared.Misread.{Misread}
use Rattle.std.specs.Prelude.{Result, Ok, Err}
use Rattle.trace.specs.Trace.{event_at, event_text}
use Rattle.trace.specs.Whole.{Events, WrongLine, whole_by, events_from, events_of, whole_text_of, Written}
use Rattle.trace.proofs.Onward.{onward, event_long}
use Rattle.trace.proofs.RoundTrip.{round_trip}
use Rattle.trace.proofs.Canonical.{canonical}

-- ---- the fuel

pub whole_end : (k : ℕ) (s : List ℕ) (at : ℕ) (h : List Event) → length s ≤ at → events_from k s at h ≡ Events h
unfolding events_from
whole_end zero s at h l = refl
whole_end (suc k) s at h l = rw (le-leb (length s) at l)

whole_fuel : (k k' : ℕ) (s : List ℕ) (at : ℕ) (h : List Event) → length s - at ≤ k → length s - at ≤ k' → events_from k s at h ≡ events_from k' s at h
unfolding events_from
whole_fuel zero k' s at h l l' = sym (whole_end k' s at h (omega arith))
whole_fuel (suc k) zero s at h l l' = whole_end (suc k) s at h (omega arith)
whole_fuel (suc k) (suc k') s at h l l' = go (leb (length s) at) refl (event_at s at) refl
    (λ next h' p. whole_fuel k k' s next h' (omega arith) (omega arith))
  where
    go : (t : Bool) → leb (length s) at ≡ t → (r : Result (Event × ℕ) Misread) → r ≡ event_at s at
        → ((next : ℕ) (h' : List Event) → at < next → events_from k s next h' ≡ events_from k' s next h')
        → cond t (Events h) (whole_by r h (λ next h'. events_from k s next h')) ≡ cond t (Events h) (whole_by r h (λ next h'. events_from k' s next h'))
    go true e r q ih = refl
    go false e (Ok (v, next)) q ih = ih next (v ∷ h) (omega (arith, onward s at q refl))
    go false e (Err w) q ih = refl

-- ---- the next event, or the line that is wrong

module _ (s : List ℕ) (at : ℕ) (h : List Event) (l : at < length s) {r : Result (Event × ℕ) Misread} (q : r ≡ event_at s at) where
  one : events_from (length s - at) s at h ≡ whole_by r h (λ next h'. events_from (length s - at - 1) s next h')
  unfolding events_from
  one =
      let k : length s - at ≡ suc (length s - at - 1) = omega arith in
      ap (λ (n : ℕ). events_from n s at h) k ∙ rw (lt-leb (length s) at l, ← q)

  pub whole_wrong : {w : Misread} → r ≡ Err w → events_from (length s - at) s at h ≡ WrongLine
  whole_wrong x = one ∙ rw x

  pub whole_event : {e : Event} {next : ℕ} → r ≡ Ok (e, next) → events_from (length s - at) s at h ≡ events_from (length s - next) s next (e ∷ h)
  whole_event {e} {next} x =
      let o = onward s at q x in
      one ∙ rw x (whole_fuel (length s - at - 1) (length s - next) s next (e ∷ h) (omega arith) (omega arith))

-- ---- what was written of events reads back as them

-- in a text that begins with theirs
begins : (h : List Event) → Written h → (after s : List ℕ) → s ≡ whole_text_of h ++ after
    → events_of s ≡ events_from (length s - length (whole_text_of h)) s (length (whole_text_of h)) h
unfolding events_of whole_text_of
begins [] f after s q = rw sub-zero
begins (e ∷ h) f after s q =
    let t = whole_text_of h in
    let p : s ≡ t ++ (event_text e ++ after) = q ∙ append_assoc t (event_text e) after in
    let n : length s ≡ length t + (length (event_text e) + length after) =
    ap length p ∙ length-append t (event_text e ++ after) ∙ ap (λ (k : ℕ). length t + k) (length-append (event_text e) after) in
    let r : event_at s (length t) ≡ Ok (e, length t + length (event_text e)) = rw p (round_trip t after e f.0 f.1 f.2) in
    begins h f.3 (event_text e ++ after) s p
    ∙ whole_event s (length t) h (omega (arith, event_long e)) refl r
    ∙ ap (λ (k : ℕ). events_from (length s - k) s k (e ∷ h)) (sym (length-append t (event_text e)))

pub written : (h : List Event) → Written h → events_of (whole_text_of h) ≡ Events h
written h f =
    let s = whole_text_of h in
    begins h f [] s (sym (append-nil s)) ∙ whole_end (length s - length s) s (length s) h (omega arith)

-- ---- and no other text reads as them

only_from : (k : ℕ) (s : List ℕ) (at : ℕ) (h : List Event) {es : List Event} → length s - at ≤ k → take at s ≡ whole_text_of h
    → events_from k s at h ≡ Events es → s ≡ whole_text_of es
unfolding events_from whole_text_of
only_from zero s at h {es} l t q =
    let e : h ≡ es = cc in
    rw (← e) (sym (take_all at s (omega arith)) ∙ t)
only_from (suc k) s at h {es} l t q = go (leb (length s) at) refl (event_at s at) refl q
    (λ next h' p. only_from k s next h' (omega arith))
  where
    go : (b : Bool) → leb (length s) at ≡ b → (r : Result (Event × ℕ) Misread) → r ≡ event_at s at
        → cond b (Events h) (whole_by r h (λ next h'. events_from k s next h')) ≡ Events es
        → ((next : ℕ) (h' : List Event) → at < next → take next s ≡ whole_text_of h' → events_from k s next h' ≡ Events es → s ≡ whole_text_of es)
        → s ≡ whole_text_of es
    go true b r x q ih =
        let e : h ≡ es = cc in
        rw (← e) (sym (take_all at s (leb-true (length s) at b)) ∙ t)
    go false b (Ok (v, next)) x q ih =
        let n : next ≡ at + (next - at) = omega (arith, onward s at x refl) in
        ih next (v ∷ h) (omega (arith, onward s at x refl))
        (ap (λ (m : ℕ). take m s) n ∙ take-add at (next - at) s ∙ rw (t, canonical s at (sym x))) q
    go false b (Err w) x q ih = cc

pub only_written : (s : List ℕ) {h : List Event} → events_of s ≡ Events h → s ≡ whole_text_of h
unfolding events_of whole_text_of
only_written s q = only_from (length s) s 0 [] (omega arith) refl q
