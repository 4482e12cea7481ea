-- A text that is copied event by event: what stands in the buffer is the text's own beginning. Assumes nothing.
use Prim.Native.Nat.{ℕ, zero, suc, ◌+◌, ◌-◌, ◌≤◌, ◌<◌}
use mathlib.Core.Path.{◌≡◌, refl, sym, ap, ◌∙◌}
use mathlib.Core.List.{List, [], ◌∷◌, ◌++◌}
use mathlib.Core.Bool.{Bool, true, false, cond}
use native.Mathlib.Omega.{arith}
use native.Mathlib.Nat.{sub-zero, zero-add}
use lib.Dec.{leb}
use lib.ListN.{length, take, drop, length-drop}
use lib.Seq.{sets, length-sets, length-take-le, take-add}
use borrow.Author.Tests.{le-leb, lt-leb, leb-true, leb-false}
use Rattle.event.specs.declared.Event.{Event}
use Rattle.event.specs.declared.Refusal.{Refusal}
use Rattle.event.specs.declared.Refusal.TheVariants.{WrongSize}
use Rattle.buffer.specs.Put.{put_of, held_of}
use Rattle.std.specs.Prelude.{Result, Ok, Err}
use Rattle.buffer.proofs.TextLaws.{sets_append}
use Rattle.buffer.proofs.WholeLaws.{put_stands, held_there}
use Rattle.trace.specs.Trace.{event_at, event_text}
use Rattle.trace.specs.declared.Misread.{Misread}
use Rattle.trace.proofs.Onward.{onward}
use Rattle.trace_reader.specs.Readings.{readings_from}
use Rattle.trace_reader.proofs.Left.{first_event, first_wrong, first_none}
use Rattle.trace.proofs.Canonical.{canonical}
use Rattle.rewriter.specs.Rewritten.{copy_end_by, copy_end_from, copy_end}

-- ---- the fuel

past : (k : ℕ) (s : List ℕ) (at room : ℕ) → length s ≤ at → copy_end_from k s at room ≡ at
unfolding copy_end_from
past zero s at room h = refl
past (suc k) s at room h = go (event_at s at) refl
  where
    go : (r : Result (Event × ℕ) Misread) → r ≡ event_at s at → copy_end_by r at room (λ next. copy_end_from k s next room) ≡ at
    go (Ok (e, next)) q = absurd (omega (arith, onward s at q refl))
    go (Err w) q = refl

fuel : (k k' : ℕ) (s : List ℕ) (at room : ℕ) → length s - at ≤ k → length s - at ≤ k' → copy_end_from k s at room ≡ copy_end_from k' s at room
unfolding copy_end_from
fuel zero k' s at room h h' = sym (past k' s at room (omega arith))
fuel (suc k) zero s at room h h' = past (suc k) s at room (omega arith)
fuel (suc k) (suc k') s at room h h' = go (event_at s at) refl (λ next p. fuel k k' s next room (omega arith) (omega arith))
  where
    go : (r : Result (Event × ℕ) Misread) → r ≡ event_at s at → ((next : ℕ) → at < next → copy_end_from k s next room ≡ copy_end_from k' s next room)
        → copy_end_by r at room (λ next. copy_end_from k s next room) ≡ copy_end_by r at room (λ next. copy_end_from k' s next room)
    go (Ok (e, next)) q ih = rw (ih next (omega (arith, onward s at q refl)))
    go (Err w) q ih = refl

-- a refusal leaves the buffer as it was
kept : (d t : List ℕ) (at : ℕ) {d' : List ℕ} {p : Result ℕ Refusal} {a : Refusal} → p ≡ put_of d at t → p ≡ Err a → d' ≡ held_of d at t → d' ≡ d
unfolding put_of held_of
kept d t at {d'} {p} {a} hp y hd = go (leb (at + length t) (length d)) refl
  where
    go : (b : Bool) → leb (at + length t) (length d) ≡ b → d' ≡ d
    go true h =
        let c : Err a ≡ Ok (at + length t) = sym y ∙ hp ∙ rw h in
        let z : ◌≡◌ {A = ℕ} 0 1 = cc in
        absurd (omega arith)
    go false h = hd ∙ rw h

-- ---- the copy, reading by reading: the text up to `at` stands in d, which was d0, and `left` is what is to be read from there on

pub record Copied (s d0 : List ℕ) (at : ℕ) (d : List ℕ) (left : List (Result Event Misread)) : Type 0 where
  pub rest : left ≡ readings_from s at
  pub within : at ≤ length s
  pub size : length d ≡ length d0
  pub held : d ≡ sets d0 0 (take at s)
  pub ends : copy_end s (length d0) ≡ copy_end_from (length s - at) s at (length d0)

pub start : (s d0 : List ℕ) {left : List (Result Event Misread)} → left ≡ readings_from s 0 → Copied s d0 0 d0 left
unfolding copy_end
start s d0 q = record { rest = q; within = omega arith; size = refl; held = refl; ends = rw sub-zero }

module _ {s d0 : List ℕ} {at : ℕ} {d : List ℕ} {left : List (Result Event Misread)} (c : Copied s d0 at d left) where
  -- where the copy ends, so much of the text stands there
  pub stands_there : at ≡ copy_end s (length d0) → d ≡ sets d0 0 (take (copy_end s (length d0)) s)
  stands_there e = rw (← e) c.held

  pub last : left ≡ [] → at ≡ copy_end s (length d0)
  last q = sym (c.ends ∙ past (length s - at) s at (length d0) (first_none s at (sym c.rest ∙ q)))

  one : (r : Result (Event × ℕ) Misread) → event_at s at ≡ r → at < length s
      → copy_end s (length d0) ≡ copy_end_by r at (length d0) (λ next. copy_end_from (length s - at - 1) s next (length d0))
  unfolding copy_end_from
  one r x h =
      let n : length s - at ≡ suc (length s - at - 1) = omega arith in
      c.ends ∙ ap (λ (k : ℕ). copy_end_from k s at (length d0)) n ∙ rw x

  pub wrong : {w : Misread} {more : List (Result Event Misread)} → left ≡ Err w ∷ more → at ≡ copy_end s (length d0)
  wrong {w} q =
      let f = first_wrong s at (sym c.rest ∙ q) in
      sym (one (Err w) f.0 f.1)

  module _ {e : Event} {next : ℕ} (x : event_at s at ≡ Ok (e, next)) (h : at < length s) where
    far : (at < next) × (next ≤ length s)
    far = (omega (arith, onward s at refl x), (onward s at refl x).1)

    by_room : copy_end s (length d0) ≡ cond (leb next (length d0)) (copy_end_from (length s - at - 1) s next (length d0)) at
    by_room = one (Ok (e, next)) x h

    text_is : take (next - at) (drop at s) ≡ event_text e
    text_is = canonical s at x

    long : at + length (event_text e) ≡ next
    long =
        let l = ap length text_is in
        omega (arith, far, l, length-take-le (next - at) (drop at s) (omega (arith, far, length-drop at s)))

    module _ {p : Result ℕ Refusal} (hp : p ≡ put_of d at (event_text e)) where
      module _ {end : ℕ} (y : p ≡ Ok end) where
        end_next : end ≡ next
        end_next = (put_stands d (event_text e) at end (sym hp ∙ y)).0 ∙ long

        room_then : (b : Bool) → leb (at + length (event_text e)) (length d) ≡ b → leb next (length d0) ≡ true
        unfolding put_of
        room_then true t = le-leb next (length d0) (omega (arith, long, c.size, leb-true (at + length (event_text e)) (length d) t))
        room_then false t =
            let c : Err WrongSize ≡ Ok end = sym (hp ∙ rw t) ∙ y in
            let z : ◌≡◌ {A = ℕ} 0 1 = cc in
            absurd (omega arith)

        room : leb next (length d0) ≡ true
        room = room_then (leb (at + length (event_text e)) (length d)) refl

        again : copy_end s (length d0) ≡ copy_end_from (length s - next) s next (length d0)
        again = by_room ∙ rw room (fuel (length s - at - 1) (length s - next) s next (length d0) (omega (arith, far)) (omega arith))

        module _ {d' : List ℕ} (hd : d' ≡ held_of d at (event_text e)) where
          put_there : d' ≡ sets d at (event_text e)
          put_there = held_there d (event_text e) at (omega (arith, long, c.size, leb-true next (length d0) room)) hd

          size_again : length d' ≡ length d0
          size_again = ap length put_there ∙ length-sets d at (event_text e) ∙ c.size

          held_again : d' ≡ sets d0 0 (take next s)
          held_again =
              let n : at + (next - at) ≡ next = omega (arith, far) in
              let t : take next s ≡ take at s ++ event_text e =
              ap (λ (k : ℕ). take k s) (sym n) ∙ take-add at (next - at) s ∙ ap (λ (l : List ℕ). take at s ++ l) text_is in
              let k : 0 + length (take at s) ≡ at = zero-add (length (take at s)) ∙ length-take-le at s (omega arith) in
              rw (t, sets_append (take at s) (event_text e) d0 0, ← c.held, k) put_there

          copied_to : {more : List (Result Event Misread)} → more ≡ readings_from s next → Copied s d0 next d' more
          copied_to m = record { rest = m; within = far.1; size = size_again; held = held_again; ends = again }

      module _ {a : Refusal} (y : p ≡ Err a) where
        full_at : at ≡ copy_end s (length d0)
        unfolding put_of
        full_at = go (leb (at + length (event_text e)) (length d)) refl
          where
            go : (b : Bool) → leb (at + length (event_text e)) (length d) ≡ b → at ≡ copy_end s (length d0)
            go true t =
                let c : Err a ≡ Ok (at + length (event_text e)) = sym y ∙ hp ∙ rw t in
                let z : ◌≡◌ {A = ℕ} 0 1 = cc in
                absurd (omega arith)
            go false t = sym (by_room ∙ rw (lt-leb next (length d0) (omega (arith, long, c.size, leb-false (at + length (event_text e)) (length d) t))))

        full_as : {d' : List ℕ} → d' ≡ held_of d at (event_text e) → d' ≡ sets d0 0 (take (copy_end s (length d0)) s)
        full_as hd = kept d (event_text e) at hp y hd ∙ stands_there full_at

  -- the next event, written behind those before; or refused, which ends the copy
  module _ {e : Event} {more : List (Result Event Misread)} (q : left ≡ Ok e ∷ more) {p : Result ℕ Refusal} (hp : p ≡ put_of d at (event_text e)) where
    pub copied : {end : ℕ} → p ≡ Ok end → {d' : List ℕ} → d' ≡ held_of d at (event_text e) → Copied s d0 end d' more
    copied y {d'} hd =
        let f = first_event s at (sym c.rest ∙ q) in
        rw (end_next f.1 f.3 hp y) (copied_to f.1 f.3 hp y hd f.2)

    pub full : {a : Refusal} → p ≡ Err a → at ≡ copy_end s (length d0)
    full y =
        let f = first_event s at (sym c.rest ∙ q) in
        full_at f.1 f.3 hp y

    pub full_held : {a : Refusal} {d' : List ℕ} → p ≡ Err a → d' ≡ held_of d at (event_text e) → d' ≡ sets d0 0 (take (copy_end s (length d0)) s)
    full_held y hd =
        let f = first_event s at (sym c.rest ∙ q) in
        full_as f.1 f.3 hp y hd
