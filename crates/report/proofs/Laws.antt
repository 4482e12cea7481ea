-- Laws of the report's text: digits, lines and whole texts, put where they have room. Assumes nothing.
use Prim.Native.Nat.{ℕ, ◌+◌, ◌/◌, ◌%◌, ◌≤◌, ◌<◌}
use mathlib.Core.Path.{◌≡◌, refl, ap, ◌∙◌}
use mathlib.Core.List.{List, [], ◌∷◌, ◌++◌}
use native.Mathlib.Omega.{arith}
use native.Mathlib.Numerals.{add-one}
use lib.ListN.{length, set, length-set}
use lib.Seq.{sets, length-sets}
use mir.Syntax.{w64}
use mir.Val.{Fits}
use Rattle.decimal.specs.Decimal.{decimal_of}
use Rattle.decimal.proofs.Laws.{decimal_small}
use Rattle.buffer.proofs.TextLaws.{then, end_then, line_end, line_put, first_room, next_room}
use Rattle.report.specs.Report.{field_text, answer_text}
use Rattle.report.proofs.LengthLaws.{decimal_two, decimal_three, field_length}

-- ---- the digits of a number

-- where the decimal has room, each digit has
module _ (v at : ℕ) (d : List ℕ) (room : at + length (decimal_of v) ≤ length d) where
  pub one_room : v < 10 → at < length d
  one_room h = omega (arith, ap length (decimal_small v h))

  pub two_room : 10 ≤ v → v < 100 → at + 1 < length d
  two_room h h' = omega (arith, ap length (decimal_two v h h'))

  module _ (h : 100 ≤ v) (h' : v < 1000) where
    pub three_room : at < length d
    three_room = omega (arith, ap length (decimal_three v h h'))

    pub rest_room : (x a : ℕ) {d1 : List ℕ} → d1 ≡ set d at x → a ≡ at + 1 → a + 1 < length d1
    rest_room x a h1 qa = rw (h1, length-set) (omega (arith, ap length (decimal_three v h h')))

-- and put, they are the number's decimal
module _ (v at : ℕ) {a : ℕ} where
  pub one_end : v < 10 → a ≡ at + 1 → a ≡ at + length (decimal_of v)
  one_end h q = rw (decimal_small v h) q

  pub two_end : 10 ≤ v → v < 100 → a ≡ at + 2 → a ≡ at + length (decimal_of v)
  two_end h h' q = rw (decimal_two v h h') q

  pub three_end : {b : ℕ} → 100 ≤ v → v < 1000 → b ≡ at + 1 → a ≡ b + 2 → a ≡ at + length (decimal_of v)
  three_end h h' qb q = rw (decimal_three v h h') (omega arith)

module _ (v at : ℕ) (d : List ℕ) {d2 : List ℕ} where
  pub one_put : v < 10 → d2 ≡ set d at (48 + v) → d2 ≡ sets d at (decimal_of v)
  one_put h h2 = rw (decimal_small v h) h2

  pub two_put : 10 ≤ v → v < 100 → d2 ≡ set (set d at (48 + v / 10)) (at + 1) (48 + v % 10) → d2 ≡ sets d at (decimal_of v)
  two_put h h' h2 = rw (decimal_two v h h', ← add-one at) h2

  pub three_put : (d1 : List ℕ) (a : ℕ) → 100 ≤ v → v < 1000 → d1 ≡ set d at (48 + v / 100) → a ≡ at + 1
      → d2 ≡ set (set d1 a (48 + v % 100 / 10)) (a + 1) (48 + v % 100 % 10) → d2 ≡ sets d at (decimal_of v)
  three_put d1 a h h' h1 qa h2 =
      let tens : v % 100 / 10 ≡ v / 10 % 10 = omega arith in
      let ones : v % 100 % 10 ≡ v % 10 = omega arith in
      rw (decimal_three v h h', ← add-one at, ← qa, ← add-one a, ← h1, ← tens, ← ones) h2

-- ---- a line

pub name_room : (name : List ℕ) (v at : ℕ) (d : List ℕ) → at + length (field_text name v) ≤ length d → at + length name ≤ length d
name_room name v at d room = omega (arith, field_length name v)

module _ (name : List ℕ) (v at : ℕ) (d : List ℕ) (room : at + length (field_text name v) ≤ length d) {d1 : List ℕ} (name-put : d1 ≡ sets d at name) where
  pub digits_room : at + length name + length (decimal_of v) ≤ length d1
  digits_room = rw (name-put, length-sets) (omega (arith, field_length name v))

  module _ {e : ℕ} (q : e ≡ at + length name + length (decimal_of v)) {d2 : List ℕ} (h2 : d2 ≡ sets d1 (at + length name) (decimal_of v)) where
    pub newline_room : e < length d2
    newline_room = rw (h2, length-sets) (omega (arith, digits_room, ap length name-put ∙ length-sets d at name, field_length name v))

    pub line_fits : Fits w64 (length d) → Fits w64 (e + 1)
    line_fits f = omega (arith, field_length name v)

    pub field_end : e + 1 ≡ at + length (field_text name v)
    unfolding field_text
    field_end = line_end name (decimal_of v) at refl q

    pub field_put : {d3 : List ℕ} → d3 ≡ set d2 e 10 → d3 ≡ sets d at (field_text name v)
    unfolding field_text
    field_put h3 = line_put name (decimal_of v) at refl q d d1 d2 name-put h2 h3

-- ---- answer= and a line behind it, of numbers that were asked for

abbrev answer_is : List ℕ
answer_is = 97 ∷ 110 ∷ 115 ∷ 119 ∷ 101 ∷ 114 ∷ 61 ∷ []

number_is : (number : ℕ) {n : ℕ} → n ≡ number → field_text answer_is n ≡ answer_text number
unfolding answer_text
number_is number hn = rw hn

module _ (number v : ℕ) (name d : List ℕ) (at : ℕ) (room : at + length (answer_text number ++ field_text name v) ≤ length d) {n : ℕ} (hn : n ≡ number) where
  pub answer_room : at + length (field_text answer_is n) ≤ length d
  answer_room = rw (number_is number hn) (first_room d (answer_text number) (field_text name v) at room)

  module _ {m : ℕ} (hm : m ≡ v) {d1 : List ℕ} {e : ℕ} (h1 : d1 ≡ sets d at (field_text answer_is n)) (q1 : e ≡ at + length (field_text answer_is n)) where
    pub behind_room : e + length (field_text name m) ≤ length d1
    behind_room =
        rw hm
        (next_room d (answer_text number) (field_text name v) at room (rw (number_is number hn) at h1) (rw (number_is number hn) at q1))

    pub behind_end : {e2 : ℕ} → e2 ≡ e + length (field_text name m) → e2 ≡ at + length (answer_text number ++ field_text name v)
    behind_end {e2} q2 = end_then (answer_text number) (field_text name v) at e e2 (rw (number_is number hn) at q1) (rw hm at q2)

    pub behind_put : {d2 : List ℕ} → d2 ≡ sets d1 e (field_text name m) → d2 ≡ sets d at (answer_text number ++ field_text name v)
    behind_put {d2} h2 =
        then d d1 d2 (answer_text number) (field_text name v) at e (rw (number_is number hn) at h1) (rw (number_is number hn) at q1) (rw hm at h2)

-- ---- the number of a refusal

pub same_number : (n m : ℕ) → n ≡ m → answer_text n ≡ answer_text m
same_number n m q = ap answer_text q
