-- The lines of a panel, put one behind the other in a text aside. Assumes nothing.
use Rattle.std.proofs.Common.{◌≡◌, ℕ, ◌<◌, Bool, true, false, ◌&&◌, T, ltb, List, [], ◌∷◌, ◌++◌, ℤ, pos, ◌-ℤ◌, sym, refl, ◌∙◌, subst, append_assoc, arith}
use Rattle.std.proofs.Common.{w32, SFits, to_z, of_z, ltb-false, ltb-true, lt-ltb}
use lib.Ieee.{Float, fin, binary64, of_bits, neg, lt, add, mul, to_unsigned}
use lib.Signed.{mag}
use mir.ValLaws.{to_z-of_z}
use Rattle.std.specs.Prelude.{Result, Ok, Err}
use Rattle.std.specs.Result.{OkIff, result_unwrap_or}
use Rattle.integer.proofs.BoolLaws.{by_cases, both}
use Rattle.buffer.specs.Append.{appended}
use Rattle.buffer.proofs.AppendLaws.{append_then}
use Rattle.event.specs.declared.FanSpeed.{FanSpeed}
use Rattle.event.specs.declared.FanSpeed.TheVariants.{NotMeasured, Stalled, Speed}
use Rattle.trace.specs.Trace.{ended, number_text}
use Rattle.display.specs.Lines.{none_word, stalled_word, speed_line}
use Rattle.display.specs.Worked.{narrow_of, short_of, whole_of, tenths_of, worked_speed}

-- ---- whole numbers

below_fits : {v : ℤ} → mag v < 2147483648 → SFits w32 v
below_fits f = record { sfits = omega (arith, f) }

narrow_as : {E : Type 0} (n : ℕ) (r : Result ℤ E) → OkIff r (SFits w32 (pos n)) (pos n) → result_unwrap_or r (pos 0) ≡ pos (narrow_of n)
narrow_as n (Ok x) h = let f = h.0.sfits in h.1 ∙ rw (lt-ltb n 2147483648 (omega (arith, f)))
narrow_as n (Err e) h =
    by_cases (ltb n 2147483648)
    (λ l. absurd (h (record { sfits = omega (arith, ltb-true n 2147483648 l) })))
    (λ l. rw l)

-- the patterns of 1.0 and of 2^64
pub short_is : (x : Float) → (lt (neg (of_bits binary64 4607182418800017408)) x && lt x (of_bits binary64 4895412794951729152)) ≡ short_of x
unfolding of_bits neg short_of
short_is x = refl

module _ (x : Float) {b : Bool} (is : b ≡ short_of x) where
  pub short_then : b ≡ true → T (lt (fin true 1 (pos 0)) x) × T (lt x (fin false 1 (pos 64)))
  unfolding short_of
  short_then q =
      let p = both (lt (fin true 1 (pos 0)) x) (lt x (fin false 1 (pos 64))) (sym is ∙ q) in
      (subst T (sym p.0) tt, subst T (sym p.1) tt)

  pub whole_short : {E : Type 0} {n : ℕ} (r : Result ℤ E) {v : ℤ} → b ≡ true → n ≡ to_unsigned 64 x → OkIff r (SFits w32 (pos n)) (pos n)
      → v ≡ result_unwrap_or r (pos 0) → mag v < 2147483648 → to_z w32 (of_z w32 v) ≡ pos (whole_of x)
  unfolding whole_of
  whole_short {n = n} r {v} q e h u f = to_z-of_z w32 v (below_fits f) ∙ u ∙ narrow_as n r h ∙ rw (e, ← is, q)

  pub whole_else : b ≡ false → pos 0 ≡ pos (whole_of x)
  unfolding whole_of
  whole_else q = rw (← is, q)

-- less 1280
pub minus : (n : ℕ) → n < 2147483648 → SFits w32 (pos n -ℤ pos 1280)
minus n h =
    by_cases (ltb n 1280)
    (λ l. rw l (record { sfits = omega (arith, ltb-true n 1280 l) }))
    (λ l. rw l (record { sfits = omega (arith, ltb-false n 1280 l) }))

pub tenths_fit : {n : ℕ} {v : ℤ} → v ≡ pos n → mag v < 2147483648 → SFits w32 (to_z w32 (of_z w32 v) -ℤ pos 1280)
tenths_fit {n} {v} e f = rw (to_z-of_z w32 v (below_fits f), e) (minus n (rw e at f))

-- the patterns of 128.0 and of 10.0
pub tenths_is : (x : Float) {v : ℤ}
    → v ≡ pos (whole_of (mul binary64 (add binary64 x (of_bits binary64 4638707616191610880)) (of_bits binary64 4621819117588971520)))
    → mag v < 2147483648 → to_z w32 (of_z w32 (to_z w32 (of_z w32 v) -ℤ pos 1280)) ≡ tenths_of x
unfolding of_bits tenths_of
tenths_is x {v} e f = rw (to_z-of_z w32 _ (tenths_fit e f), to_z-of_z w32 v (below_fits f), e)

-- ---- lines

pub word_appended : (name word x x1 x2 : List ℕ) {x3 : List ℕ} → x1 ≡ appended x name → x2 ≡ appended x1 word → x3 ≡ appended x2 (10 ∷ [])
    → x3 ≡ appended x (ended (name ++ word))
word_appended name word x x1 x2 h1 h2 h3 = rw append_assoc (append_then x x1 name (word ++ (10 ∷ [])) h1 (append_then x1 x2 word (10 ∷ []) h2 h3))

-- a number that went through a call
pub sent_appended : (name : List ℕ) (x : Float) {v : ℤ} → v ≡ tenths_of x → SFits w32 v → (t : List ℕ) {t1 : List ℕ}
    → t1 ≡ appended t (number_text name (to_z w32 (of_z w32 v))) → t1 ≡ appended t (number_text name (tenths_of x))
sent_appended name x {v} is f t h = rw (to_z-of_z w32 v f, is) at h

-- the speed of a fan
module _ (name : List ℕ) {s : FanSpeed} (t : List ℕ) {t1 : List ℕ} where
  pub none_appended : s ≡ NotMeasured → t1 ≡ appended t (ended (name ++ none_word)) → t1 ≡ appended t (worked_speed name s)
  unfolding speed_line
  none_appended is h = rw is h

  pub stalled_appended : s ≡ Stalled → t1 ≡ appended t (ended (name ++ stalled_word)) → t1 ≡ appended t (worked_speed name s)
  unfolding speed_line
  stalled_appended is h = rw is h

  pub speed_appended : {x : Float} → s ≡ Speed x → {v : ℤ} → v ≡ pos (whole_of x) → mag v < 2147483648
      → t1 ≡ appended t (number_text name (to_z w32 (of_z w32 v))) → t1 ≡ appended t (worked_speed name s)
  unfolding speed_line
  speed_appended is {v} e f h = rw is (rw (to_z-of_z w32 v (below_fits f), e) at h)
