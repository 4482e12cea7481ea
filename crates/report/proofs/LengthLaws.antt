-- How many digits numbers have, and how long the texts of a report are. Assumes nothing.
use Prim.Native.Nat.{ℕ, ◌+◌, ◌/◌, ◌%◌, ◌≤◌, ◌<◌}
use mathlib.Core.Path.{◌≡◌, sym, ap, ◌∙◌}
use mathlib.Core.List.{List, [], ◌∷◌}
use native.Mathlib.Omega.{arith}
use lib.ListN.{length, length-append}
use lib.Dec.{leb}
use borrow.Author.Tests.{le-leb, lt-leb}
use Rattle.std.proofs.Common.{inl, inr}
use Rattle.std.proofs.lemmas.Bool.{cases_lt}
use mir.Syntax.{w8}
use mir.Val.{Fits, bool_byte}
use Rattle.decimal.specs.Decimal.{decimal_of}
use Rattle.decimal.proofs.Laws.{decimal_small, decimal_large, small_length}
use Rattle.event.specs.Answers.{number_of, data_of}
use Rattle.event.specs.declared.Refusal.{Refusal}
use Rattle.std.specs.Prelude.{Result}
use Rattle.event.specs.declared.Shown.{Shown}
use Rattle.report.specs.Report.{field_text, answer_text, reply_text, pin_text, duty_text, entry_text, malformed_text}

-- ---- how many digits a number has

-- the digits of numbers below 100 and below 1000
pub decimal_two : (v : ℕ) → 10 ≤ v → v < 100 → decimal_of v ≡ (48 + v / 10) ∷ (48 + v % 10) ∷ []
decimal_two v h h' = rw (decimal_large v h, decimal_small (v / 10) (omega arith))

pub decimal_three : (v : ℕ) → 100 ≤ v → v < 1000 → decimal_of v ≡ (48 + v / 100) ∷ (48 + v / 10 % 10) ∷ (48 + v % 10) ∷ []
decimal_three v h h' =
    let q : v / 10 / 10 ≡ v / 100 = omega arith in
    rw (decimal_large v (omega arith), decimal_two (v / 10) (omega arith) (omega arith), q)

width_two : (v : ℕ) → 10 ≤ v → v < 100 → 2 ≡ length (decimal_of v)
width_two v h h' = rw (decimal_two v h h')

width_three : (v : ℕ) → 100 ≤ v → v < 256 → 3 ≡ length (decimal_of v)
width_three v h h' = rw (decimal_three v h (omega arith))

-- one, and one more from 10 and from 100 on
pub width_is : (v : ℕ) → Fits w8 v → {a b : ℕ} → a ≡ bool_byte (leb 10 v) → b ≡ bool_byte (leb 100 v) → (1 + a + b ≡ length (decimal_of v)) × (1 + a + b ≤ 3)
width_is v f {a} {b} h k =
    elim (cases_lt v 10) [
      | inl l ↦
          let a0 : a ≡ 0 = rw (lt-leb 10 v l) at h in
          let b0 : b ≡ 0 = rw (lt-leb 100 v (omega arith)) at k in
          (rw (a0, b0) (sym (small_length v l)), omega arith)
      | inr m ↦
          let a1 : a ≡ 1 = rw (le-leb 10 v m) at h in
          elim (cases_lt v 100) [
            | inl l ↦ let b0 : b ≡ 0 = rw (lt-leb 100 v l) at k in (rw (a1, b0) (width_two v m l), omega arith)
            | inr n ↦ let b1 : b ≡ 1 = rw (le-leb 100 v n) at k in (rw (a1, b1) (width_three v n (omega arith)), omega arith)
          ]
    ]

-- ---- how long the texts are

pub field_length : (name : List ℕ) (v : ℕ) → length (field_text name v) ≡ length name + length (decimal_of v) + 1
unfolding field_text
field_length name v = simp length-append (omega arith)

answer_length : (n : ℕ) → length (answer_text n) ≡ 8 + length (decimal_of n)
unfolding answer_text
answer_length n = simp field_length (omega arith)

pub reply_length : (a : Result ℕ Refusal) → length (reply_text a) ≡ 14 + length (decimal_of (number_of a)) + length (decimal_of (data_of a))
unfolding reply_text
reply_length a = simp (length-append, answer_length, field_length) (omega arith)

module _ (s : Shown) where
  pub pin_length : length (pin_text s) ≡ 19 + length (decimal_of s.int) + length (decimal_of s.therm) + length (decimal_of s.fault)
  unfolding pin_text
  pin_length = simp (length-append, field_length) (omega arith)

  pub duty_length : length (duty_text s) ≡ 14 + length (decimal_of s.duty1) + length (decimal_of s.duty2)
  unfolding duty_text
  duty_length = simp (length-append, field_length) (omega arith)

pub entry_length : (a : Result ℕ Refusal) (s : Shown) → length (entry_text a s) ≡ length (reply_text a) + length (pin_text s) + length (duty_text s)
unfolding entry_text
entry_length a s = simp length-append (omega arith)

pub malformed_length : (line : ℕ) → length (malformed_text line) ≡ 16 + length (decimal_of line)
unfolding malformed_text
malformed_length line =
    let ten : length (decimal_of 10) ≡ 2 = ap length (decimal_two 10 (omega arith) (omega arith)) in
    simp (length-append, answer_length, field_length) (omega arith)

-- ---- from the parts' lengths, as they were worked out

module _ (a : Result ℕ Refusal) (s : Shown) {n m : ℕ} (hn : n ≡ number_of a) (hm : m ≡ data_of a) where
  pub entry_sum : {x y i t f u v : ℕ} → x ≡ length (decimal_of n) → y ≡ length (decimal_of m)
      → i ≡ length (decimal_of s.int) → t ≡ length (decimal_of s.therm) → f ≡ length (decimal_of s.fault)
      → u ≡ length (decimal_of s.duty1) → v ≡ length (decimal_of s.duty2) → 47 + (x + y) + (i + t + f) + (u + v) ≡ length (entry_text a s)
  entry_sum hx hy hi ht hf hu hv =
      let number = hx ∙ ap (λ (k : ℕ). length (decimal_of k)) hn in
      let data' = hy ∙ ap (λ (k : ℕ). length (decimal_of k)) hm in
      omega (arith, number, data', entry_length a s, reply_length a, pin_length s, duty_length s)

pub malformed_sum : (line : ℕ) {x : ℕ} → x ≡ length (decimal_of line) → 16 + x ≡ length (malformed_text line)
malformed_sum line hx = omega (arith, malformed_length line)

pub number_sum : (n : ℕ) {x : ℕ} → x ≡ length (decimal_of n) → 8 + x ≡ length (answer_text n)
number_sum n hx = omega (arith, answer_length n)
