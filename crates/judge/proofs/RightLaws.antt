-- The reply in plain numbers is that of the rules. Assumes nothing.
use Prim.Native.Nat.{ℕ, zero, suc, ◌+◌, ◌-◌, ◌%◌, ◌<◌}
use mathlib.Core.Path.{◌≡◌, refl, sym, ap, ◌∙◌}
use mathlib.Core.Bool.{Bool, true, false, cond, not, ◌&&◌, ◌||◌, true≢false}
use mathlib.Core.List.{List, [], ◌∷◌}
use native.Mathlib.Omega.{arith}
use lib.Dec.{eqb, leb, ltb}
use lib.IntN.{ℤ, pos, negsuc}
use lib.ListN.{get_or}
use lib.Signed.{le_z, non_neg}
use borrow.Author.Tests.{eqb-true, eqb-false, leb-true, leb-false, le-leb, lt-leb, ltb-true, ltb-false, lt-ltb, eq-eqb, ne_eqb, not-false}
use Rattle.integer.proofs.BoolLaws.{by_cases, both}
use Rattle.integer.specs.Range.{eighths_of}
use Rattle.part.specs.declared.ChannelId.TheVariants.{Remote1, Remote2}
use Rattle.event.specs.Kinds.{is_kind, place_of, kind_of}
use Rattle.event.specs.declared.Event.{Event}
use Rattle.event.specs.declared.Kind.TheVariants as kind
use Rattle.rules.specs.Registers.{exists_at, read_only_at}
use Rattle.rules.specs.Events.{who, arg, val, is_number, within, natural, Range, Ranges, ranges, unused, carried, ranges_of}
use Rattle.rules.specs.Replies as replies
use Rattle.rules.specs.Replies.{is_register, is_odd, lowest}
use Rattle.rules.proofs.EventLaws.{val_lies}
use Rattle.rules.proofs.RegisterLaws.{exists_small}
use Rattle.input.specs.Inputs.{plain_of, eighths_held, input_of}
use Rattle.input.proofs.PlainLaws.{plain_is, sample_is}
use Rattle.judge.specs.Judged.{plain_ranges, row_of, fits_row, other_address_in, no_part_in, no_register_in, read_only_in, out_of_range_in, bad_code_in}
use Rattle.judge.specs.Judged.{odd_local_in, broken_diode_in, lowest_in, Right}
use Rattle.judge.specs.declared.Standing.{Standing}

and_false : (b : Bool) → (b && false) ≡ false
and_false true = refl
and_false false = refl

-- ---- numbers in a range

beyond : (high : ℕ) → high < 2147483648 → leb 2147483648 high ≡ false
beyond high h = lt-leb 2147483648 high h

within_is : (low high : ℕ) (v : ℤ) → high < 2147483648 → (leb low (plain_of v) && leb (plain_of v) high) ≡ within low high v
within_is low high (pos m) h = refl
within_is low high (negsuc m) h = rw (beyond high h) (and_false (leb low 2147483648))

-- ---- a kind's ranges

-- a range from 0 up whose high end a number of 32 bits can be; one that starts at 0; that or the range of a sample
abbrev from_plain : Range → Bool
from_plain r = non_neg r.low && (non_neg r.high && ltb (natural r.high) 2147483648)

abbrev from_zero : Range → Bool
from_zero r = is_number r.low 0 && from_plain r

abbrev of_sample : (low high : ℤ) → Bool
of_sample (negsuc a) (pos b) = eqb a 1023 && eqb b 1023
of_sample (negsuc a) (negsuc b) = false
of_sample (pos a) high = false

abbrev plainly : Ranges → Bool
plainly r = from_plain r.who && (from_zero r.arg && (from_zero r.val || of_sample r.val.low r.val.high))

who_is : (low high v : ℤ) → non_neg low ≡ true → non_neg high ≡ true → natural high < 2147483648
    → (leb (natural low) (plain_of v) && leb (plain_of v) (natural high)) ≡ (le_z low v && le_z v high)
who_is (pos l) (pos h) (pos m) p q s = refl
who_is (pos l) (pos h) (negsuc m) p q s = rw (beyond h s) (and_false (leb l 2147483648))
who_is (pos l) (negsuc h) v p q s = absurd (true≢false (sym q))
who_is (negsuc l) high v p q s = absurd (true≢false (sym p))

arg_is : (low high v : ℤ) → is_number low 0 ≡ true → non_neg high ≡ true → natural high < 2147483648
    → leb (plain_of v) (natural high) ≡ (le_z low v && le_z v high)
arg_is (pos l) (pos h) (pos m) p q s = rw (eqb-true l 0 p, le-leb 0 m (omega arith))
arg_is (pos l) (pos h) (negsuc m) p q s = beyond h s
arg_is (pos l) (negsuc h) v p q s = absurd (true≢false (sym q))
arg_is (negsuc l) high v p q s = absurd (true≢false (sym p))

held_small : (v : ℤ) → leb (eighths_held v) 2048 ≡ true
unfolding eighths_of
held_small (pos n) = by_cases (ltb n 1024) (λ y. rw y (le-leb (1024 + n) 2048 (omega (arith, ltb-true n 1024 y)))) (λ y. rw y)
held_small (negsuc n) = by_cases (ltb n 1024) (λ y. rw y (le-leb (1023 - n) 2048 (omega arith))) (λ y. rw y)

sample_fits : (v : ℤ) → (leb (plain_of v) 2147483648 && leb (eighths_held v) 2047) ≡ (le_z (negsuc 1023) v && le_z v (pos 1023))
unfolding eighths_of
sample_fits (pos n) =
    by_cases (ltb n 1024)
    (λ y. let h = ltb-true n 1024 y in rw (y, le-leb n 2147483648 (omega arith), le-leb (1024 + n) 2047 (omega arith), le-leb n 1023 (omega arith)))
    (λ y. let h = ltb-false n 1024 y in rw (y, and_false (leb n 2147483648)) (sym (lt-leb n 1023 (omega arith))))
sample_fits (negsuc n) =
    by_cases (ltb n 1024)
    (λ y. let h = ltb-true n 1024 y in rw (y, le-leb (1023 - n) 2047 (omega arith), le-leb n 1023 (omega arith)))
    (λ y. let h = ltb-false n 1024 y in rw (y, lt-leb n 1023 (omega arith)))

val_is : (low high v : ℤ) → ((is_number low 0 && (non_neg low && (non_neg high && ltb (natural high) 2147483648))) || of_sample low high) ≡ true
    → (leb (plain_of v) (cond (non_neg low) (natural high) 2147483648) && leb (eighths_held v) (cond (non_neg low) 2048 2047)) ≡ (le_z low v && le_z v high)
val_is (pos l) high v y =
    let p = both (is_number (pos l) 0) _ (or_no _ y) in
    let q = both (non_neg high) (ltb (natural high) 2147483648) p.1 in
    rw (held_small v) (and_true (leb (plain_of v) (natural high)) ∙ arg_is (pos l) high v p.0 q.0 (ltb-true _ _ q.1))
  where
    or_no : (b : Bool) → (b || false) ≡ true → b ≡ true
    or_no true z = refl
    or_no false z = z

    and_true : (b : Bool) → (b && true) ≡ b
    and_true true = refl
    and_true false = refl
val_is (negsuc a) (pos b) v y =
    let p = both (eqb a 1023) (eqb b 1023) y in
    rw (eqb-true a 1023 p.0, eqb-true b 1023 p.1) (sample_fits v)
val_is (negsuc a) (negsuc b) v y = absurd (true≢false (sym y))

row_is : (r : Ranges) (e : Event) → plainly r ≡ true → fits_row (plain_ranges r) (input_of e) ≡ replies.fits_in r e
row_is r e y =
    let p = both (from_plain r.who) _ y in
    let q = both (from_zero r.arg) _ p.1 in
    let w = both (non_neg r.who.low) _ p.0 in
    let h = both (non_neg r.who.high) _ w.1 in
    let a = both (is_number r.arg.low 0) _ q.0 in
    let g = both (non_neg r.arg.high) _ (both (non_neg r.arg.low) _ a.1).1 in
    rw (
      who_is r.who.low r.who.high (who e) w.0 h.0 (ltb-true _ _ h.1),
      arg_is r.arg.low r.arg.high (arg e) a.0 g.0 (ltb-true _ _ g.1),
      val_is r.val.low r.val.high (val e) q.1,
    )

-- every row of the table is such, by one test
every : List Ranges → Bool
every [] = true
every (r ∷ rs) = plainly r && every rs

any_row : (rows : List Ranges) (k : ℕ) (none : Ranges) → every rows ≡ true → plainly none ≡ true → plainly (get_or rows k none) ≡ true
unfolding every
any_row [] k none y z = z
any_row (r ∷ rs) zero none y z = (both (plainly r) (every rs) y).0
any_row (r ∷ rs) (suc k) none y z = any_row rs k none (both (plainly r) (every rs) y).1 z

range_is : (e : Event) → out_of_range_in (input_of e) ≡ replies.out_of_range e
unfolding row_of ranges_of every
range_is e =
    let none = ranges unused unused unused in
    ap not (row_is (get_or carried (place_of (kind_of e)) none) e (any_row carried (place_of (kind_of e)) none refl refl))

-- ---- registers

register_is : (v : ℤ) → (leb (plain_of v) 255 && exists_at (plain_of v % 256)) ≡ is_register v
register_is (pos n) =
    by_cases (leb n 255)
    (λ y. let m : n % 256 ≡ n = omega (arith, leb-true n 255 y) in rw (y, m))
    (λ y. rw y (sym (by_cases (exists_at n) (λ z. absurd (omega (arith, leb-false n 255 y, exists_small n z))) (λ z. z))))
register_is (negsuc n) = refl

read_only_is : (e : Event) → replies.no_register e ≡ false → read_only_in (input_of e) ≡ replies.read_only e
read_only_is e there = by_cases (is_kind kind.Write e) (λ w. rw w (same (arg e) (not-false _ (rw w at there)))) (λ w. rw w)
  where
    same : (v : ℤ) → is_register v ≡ true → read_only_at (plain_of v % 256) ≡ read_only_at (natural v)
    same (pos n) y = let m : n % 256 ≡ n = omega (arith, exists_small n y) in rw m
    same (negsuc n) y = absurd (true≢false (sym y))

code_is : (v : ℤ) → plain_of v % 256 % 8 ≡ natural v % 8
code_is (pos n) = omega arith
code_is (negsuc n) = refl

-- ---- odd samples

even_odd : (n : ℕ) → n < 1024 → eqb ((1023 - n) % 2) 1 ≡ eqb (n % 2) 0
even_odd n h =
    by_cases (eqb (n % 2) 0)
    (λ y. eq-eqb ((1023 - n) % 2) 1 (omega (arith, eqb-true (n % 2) 0 y)) ∙ sym y)
    (λ y. ne_eqb ((1023 - n) % 2) 1 (λ z. eqb-false (n % 2) 0 y (omega arith)) ∙ sym y)

odd_held : (t : ℤ) → (le_z (negsuc 1023) t && le_z t (pos 1023)) ≡ true → eqb (eighths_held t % 2) 1 ≡ is_odd t
unfolding eighths_of
odd_held (pos n) y =
    let m : (1024 + n) % 2 ≡ n % 2 = omega arith in
    rw (lt-ltb n 1024 (omega (arith, leb-true n 1023 y))) (ap (λ (k : ℕ). eqb k 1) m)
odd_held (negsuc n) y =
    let h : n < 1024 = omega (arith, leb-true n 1023 (both (leb n 1023) true y).0) in
    rw (lt-ltb n 1024 h) (even_odd n h)

odd_is : (e : Event) → replies.out_of_range e ≡ false → odd_local_in (input_of e) ≡ replies.odd_local e
odd_is e fine =
    by_cases (is_kind kind.Sample e)
    (λ k. rw (k, plain_is (who e) 0 (omega arith), odd_held (val e) (val_lies e fine 4 k)))
    (λ k. rw k)

-- ---- the reply: where a register is none, or a number out of its range, the tests after it need not agree

module _ (s : Standing) (e : Event) (own : s.address < 256) where
  address_is : other_address_in s (input_of e) ≡ replies.other_address s.address e
  address_is = rw (plain_is (who e) s.address (omega arith))

  part_is : no_part_in (input_of e) ≡ replies.no_part e
  part_is = rw (within_is 1 2 (who e) (omega arith), ← within_is 0 2 (who e) (omega arith), le-leb 0 (plain_of (who e)) (omega arith))

  no_register_is : no_register_in (input_of e) ≡ replies.no_register e
  no_register_is = rw (register_is (arg e))

  bad_code_is : bad_code_in (input_of e) ≡ replies.bad_code e
  bad_code_is = rw (within_is 0x24 0x26 (arg e) (omega arith), code_is (val e))

  broken_is : broken_diode_in s (input_of e) ≡ replies.broken_diode s.error1 s.error2 e
  broken_is = rw (sample_is Remote1 e, sample_is Remote2 e)

  reply_is : lowest_in s (input_of e) ≡ lowest s.on s.address s.monitoring s.error1 s.error2 e
  unfolding lowest_in lowest
  reply_is =
      rw (address_is, part_is, no_register_is, range_is e, bad_code_is, broken_is)
      (by_cases (replies.no_register e)
      (λ y. rw y)
      (λ y. rw (read_only_is e y) (by_cases (replies.out_of_range e) (λ z. rw z) (λ z. rw (odd_is e z)))))

pub right : Right
right s e own = reply_is s e own
