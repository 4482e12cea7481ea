-- A text that is put whole, or refused and the buffer as it was. Assumes nothing.
use Prim.Native.Nat.{ℕ, ◌+◌, ◌-◌, ◌≤◌, ◌<◌}
use mathlib.Core.Path.{◌≡◌, refl, sym, ap, ◌∙◌}
use mathlib.Core.List.{List, ◌++◌, append_assoc}
use mathlib.Core.Bool.{Bool, true, false, cond}
use native.Mathlib.Omega.{arith}
use lib.Dec.{leb}
use lib.ListN.{length, take, drop}
use lib.Seq.{sets, sets-eq}
use mir.Syntax.{w64}
use mir.Val.{Fits}
use borrow.Author.Tests.{le-leb, lt-leb, leb-true, leb-false}
use Rattle.event.specs.declared.Refusal.{Refusal}
use Rattle.event.specs.declared.Refusal.TheVariants.{WrongSize}
use Rattle.std.specs.Prelude.{Result, Ok, Err}
use Rattle.buffer.specs.Put.{put_of, held_of}
use Rattle.std.specs.Result.{result_unwrap_or}

-- ---- room

pub fits_past : (at n len : ℕ) → len < at → false ≡ leb (at + n) len
fits_past at n len h = sym (lt-leb (at + n) len (omega arith))

pub fits_from : (at n len : ℕ) → at ≤ len → leb n (len - at) ≡ leb (at + n) len
fits_from at n len h = go (leb n (len - at)) refl
  where
    go : (t : Bool) → leb n (len - at) ≡ t → t ≡ leb (at + n) len
    go true q = sym (le-leb (at + n) len (omega (arith, leb-true n (len - at) q)))
    go false q = sym (lt-leb (at + n) len (omega (arith, leb-false n (len - at) q)))

-- what ends within a length ends at a number of 64 bits
pub end_fits : {b : Bool} (at n len : ℕ) → b ≡ leb (at + n) len → b ≡ true → Fits w64 len → Fits w64 (at + n)
end_fits at n len q h f = omega (arith, leb-true (at + n) len (sym q ∙ h))

-- ---- by the answer of `fits`, asked for the text's length

module _ (d t : List ℕ) (at : ℕ) {n : ℕ} {b : Bool} (k : n ≡ length t) (q : b ≡ leb (at + n) (length d)) where
  pub whole_room : b ≡ true → at + length t ≤ length d
  whole_room h = omega (arith, leb-true (at + n) (length d) (sym q ∙ h))

  asked : b ≡ leb (at + length t) (length d)
  asked = q ∙ ap (λ (m : ℕ). leb (at + m) (length d)) k

  pub put_fits : {e : ℕ} → b ≡ true → e ≡ at + length t → Ok e ≡ put_of d at t
  unfolding put_of
  put_fits h e = rw (← asked, h, e)

  pub held_fits : {d' : List ℕ} → b ≡ true → d' ≡ sets d at t → d' ≡ held_of d at t
  unfolding held_of
  held_fits h e = rw (← asked, h) e

  pub put_refused : b ≡ false → Err WrongSize ≡ put_of d at t
  unfolding put_of
  put_refused h = rw (← asked, h)

  pub held_refused : b ≡ false → d ≡ held_of d at t
  unfolding held_of
  held_refused h = rw (← asked, h)

-- ---- where it fits

module _ (d t : List ℕ) (at : ℕ) (room : at + length t ≤ length d) where
  put_there : put_of d at t ≡ Ok (at + length t)
  unfolding put_of
  put_there = rw (le-leb (at + length t) (length d) room)

  pub end_there : {p : Result ℕ Refusal} {e : ℕ} (z : ℕ) → p ≡ put_of d at t → e ≡ result_unwrap_or p z → e ≡ at + length t
  end_there z q h = h ∙ ap (λ (p : Result ℕ Refusal). result_unwrap_or p z) (q ∙ put_there)

  pub held_there : {d' : List ℕ} → d' ≡ held_of d at t → d' ≡ sets d at t
  unfolding held_of
  held_there q = q ∙ rw (le-leb (at + length t) (length d) room)

  pub never_refused : {p : Result ℕ Refusal} {r : Refusal} → p ≡ put_of d at t → p ≡ Err r → ⊥
  never_refused {p} {r} q h = let e : Err r ≡ Ok (at + length t) = sym h ∙ q ∙ put_there in let z : ◌≡◌ {A = ℕ} 0 1 = cc in omega arith

-- where a text is another, so are the answer and what the buffer holds
pub put_as : {r : Result ℕ Refusal} (d s t : List ℕ) (at : ℕ) → r ≡ put_of d at s → s ≡ t → r ≡ put_of d at t
put_as d s t at h q = rw q at h

pub held_as : {d1 : List ℕ} (d s t : List ℕ) (at : ℕ) → d1 ≡ held_of d at s → s ≡ t → d1 ≡ held_of d at t
held_as d s t at h q = rw q at h

-- a text that was put stands from the index on up to where it ends, and nothing else has changed
pub put_stands : (d t : List ℕ) (at n : ℕ) → put_of d at t ≡ Ok n
    → (n ≡ at + length t) × (at ≤ length d) × (held_of d at t ≡ take at d ++ (t ++ drop n d))
unfolding put_of held_of
put_stands d t at n p = go (leb (at + length t) (length d)) refl p
  where
    go : (b : Bool) → leb (at + length t) (length d) ≡ b → cond b (Ok (at + length t)) (Err WrongSize) ≡ Ok n
        → (n ≡ at + length t) × (at ≤ length d) × (cond b (sets d at t) d ≡ take at d ++ (t ++ drop n d))
    go true h q =
        let e : n ≡ at + length t = cc in
        let l : at + length t ≤ length d = leb-true (at + length t) (length d) h in
        (e, omega arith, rw e (sets-eq t d at l ∙ append_assoc (take at d) t (drop (at + length t) d)))
    go false h q = let z : ◌≡◌ {A = ℕ} 0 1 = cc in absurd (omega arith)
