-- The page's words for numbers and registers say what the rules' do. Assumes nothing.
use Prim.Native.Nat.{ℕ, ◌≤◌}
use mathlib.Core.Path.{◌≡◌, refl, sym, ap, ◌∙◌}
use mathlib.Core.Bool.{Bool, true, false, ◌&&◌, true≢false, beq, and_comm}
use mathlib.Core.List.{List, [], ◌∷◌}
use native.Mathlib.Omega.{arith}
use lib.Dec.{eqb, leb}
use lib.IntN.{ℤ, pos, negsuc}
use lib.Signed.{le_z}
use borrow.Author.Tests.{eqb-true, eqb-false, leb-true, le-leb, lt-leb}
use Rattle.integer.proofs.BoolLaws.{by_cases, both, neither}
use Rattle.rules.specs.Registers.{Row, table, says, exists_at, mask_at, read_only_at}
use Rattle.rules.specs.Events.{is_number, within, natural, up_to, unused, lies}
use Rattle.rules.specs.Fields.{range_code}
use Rattle.rules.specs.Replies.{is_register, is_odd}
use Rattle.rules.specs.PageReplies.{same, one_of, between, is_zero, registers, read_only_registers, bad_range, odd}
use Rattle.rules.proofs.RegisterLaws.{every, exists_small}

-- ---- numbers

-- neither above nor below is the same
level : (m n : ℕ) → (leb m n && leb n m) ≡ eqb m n
level m n =
    by_cases (eqb m n)
    (λ q. rw (q, le-leb m n (omega (arith, eqb-true m n q)), le-leb n m (omega (arith, eqb-true m n q))))
    (λ q. by_cases (leb m n)
    (λ u. rw (q, u) (lt-leb n m (omega (arith, leb-true m n u, eqb-false m n q))))
    (λ u. rw (q, u)))

pub same_is : (v : ℤ) (n : ℕ) → is_number v n ≡ same v (pos n)
same_is (pos m) n = sym (level m n)
same_is (negsuc m) n = refl

-- a number that is no fan's
pub neither_fan : (n : ℤ) → one_of (1 ∷ 2 ∷ []) n ≡ false → (is_number n 1 ≡ false) × (is_number n 2 ≡ false)
unfolding one_of
neither_fan n y =
    let a = neither (same n (pos 1)) _ y in
    let b = neither (same n (pos 2)) false a.1 in
    (same_is n 1 ∙ a.0, same_is n 2 ∙ b.0)

pub within_is : (low high : ℕ) (v : ℤ) → within low high v ≡ between (pos low) (pos high) v
within_is low high (pos m) = refl
within_is low high (negsuc m) = refl

pub zero_is : (v : ℤ) → lies unused v ≡ is_zero v
zero_is v = and_comm (le_z (pos 0) v) (le_z v (pos 0))

-- ---- registers

-- a test that passes at the address of each row passes at every address that exists
at_rows : (test : ℕ → Bool) (rows : List Row) → every (λ r. test r.address) rows ≡ true → (a : ℕ) → says (λ r. true) false rows a ≡ true → test a ≡ true
unfolding every says
at_rows test [] h a y = absurd (true≢false (sym y))
at_rows test (r ∷ rs) h a y =
    let q = both (test r.address) _ h in
    by_cases (eqb a r.address)
    (λ z. ap test (eqb-true a r.address z) ∙ q.0)
    (λ z. at_rows test rs q.1 a (rw z at y))

pub at_row : (test : ℕ → Bool) → every (λ r. test r.address) table ≡ true → (a : ℕ) → exists_at a ≡ true → test a ≡ true
unfolding exists_at
at_row test h a y = at_rows test table h a y

-- the addresses of the table's rows
addresses : List Row → List ℕ
addresses [] = []
addresses (r ∷ rs) = r.address ∷ addresses rs

among : (rows : List Row) (a : ℕ) → says (λ r. true) false rows a ≡ one_of (addresses rows) (pos a)
unfolding says one_of addresses
among [] a = refl
among (r ∷ rs) a = rw (← same_is (pos a) r.address) (by_cases (eqb a r.address) (λ z. rw z) (λ z. rw z (among rs a)))

pub register_is : (v : ℤ) → is_register v ≡ one_of registers v
unfolding exists_at table addresses one_of
register_is (pos a) = among table a
register_is (negsuc a) = refl

equal : (a b : Bool) → beq a b ≡ true → a ≡ b
equal true true h = refl
equal true false h = sym h
equal false true h = h
equal false false h = refl

pub read_only_is : (v : ℤ) → is_register v ≡ true → read_only_at (natural v) ≡ one_of read_only_registers v
unfolding every table read_only_at exists_at mask_at one_of
read_only_is (pos a) y = equal _ _ (at_row (λ n. beq (read_only_at n) (one_of read_only_registers (pos n))) refl a y)
read_only_is (negsuc a) y = absurd (true≢false (sym y))

-- ---- bytes and samples

pub control_is : (v : ℤ) → is_register v ≡ true → within 0x24 0x26 v ≡ one_of (0x24 ∷ 0x25 ∷ 0x26 ∷ []) v
unfolding every table one_of
control_is (pos a) y = equal _ _ (at_row (λ n. beq (within 0x24 0x26 (pos n)) (one_of (0x24 ∷ 0x25 ∷ 0x26 ∷ []) (pos n))) refl a y)
control_is (negsuc a) y = absurd (true≢false (sym y))

pub bad_range_is : (v : ℤ) → leb 5 (range_code (natural v)) ≡ bad_range v
unfolding bad_range
bad_range_is (pos n) = refl
bad_range_is (negsuc n) = refl

pub odd_is : (v : ℤ) → is_odd v ≡ odd v
unfolding odd
odd_is (pos n) = refl
odd_is (negsuc n) = refl

-- ---- numbers that need no range

pub own_fits : (v : ℤ) (own : ℕ) → own ≤ 46 → is_number v own ≡ true → lies (up_to 127) v ≡ true
own_fits (pos m) own h y = rw (le-leb 0 m (omega arith), le-leb m 127 (omega (arith, eqb-true m own y)))
own_fits (negsuc m) own h y = absurd (true≢false (sym y))

pub register_fits : (v : ℤ) → is_register v ≡ true → lies (up_to 255) v ≡ true
register_fits (pos a) y = rw (le-leb 0 a (omega arith), le-leb a 255 (omega (arith, exists_small a y)))
register_fits (negsuc a) y = absurd (true≢false (sym y))
