-- A row of alert entries by its places: what some entry passes, that two have one address, and the lowest address that asserts. Assumes nothing.
use Prim.Native.Nat.{ℕ, suc, zero, ◌≤◌, ◌<◌}
use mathlib.Core.Path.{◌≡◌, refl, sym}
use mathlib.Core.Bool.{Bool, true, false, not, ◌&&◌, ◌||◌, or-true}
use mathlib.Core.List.{List, [], ◌∷◌}
use native.Mathlib.Omega.{arith}
use lib.Dec.{leb, eqb}
use lib.ListN.{length}
use borrow.Author.Tests.{le-leb, eq-eqb, ne_eqb}
use Rattle.integer.proofs.BoolLaws.{by_cases, either}
use Rattle.event.specs.declared.AlertEntry.{AlertEntry}
use Rattle.rules.specs.AlertRow.{outside_in, has_address, twice_in, asserts_in, lowest_asserting}
use Rattle.rules.specs.PageAlertRow.{entry_at, address_at, asserts_at, AllInside, AllDifferent, Lowest}

-- ---- a test of a row that passes where an entry passes its own

module _
    (in_row : List AlertEntry → Bool) (test : AlertEntry → Bool) (none : in_row [] ≡ false)
    (more : (e : AlertEntry) (row : List AlertEntry) → in_row (e ∷ row) ≡ (test e || in_row row)) where
  one_passes : (row : List AlertEntry) (i : ℕ) → i < length row → test (entry_at i row) ≡ true → in_row row ≡ true
  one_passes [] i l y = absurd (omega arith)
  one_passes (e ∷ row) zero l y = rw (more, y)
  one_passes (e ∷ row) (suc i) l y = rw (more, one_passes row i (omega arith) y, or-true)

  none_passes : (row : List AlertEntry) → ((i : ℕ) → i < length row → test (entry_at i row) ≡ false) → in_row row ≡ false
  none_passes [] n = none
  none_passes (e ∷ row) n = rw (more, n 0 (omega arith), none_passes row (λ i l. n (suc i) (omega arith)))

abbrev outside : AlertEntry → Bool
outside e = not (leb 44 e.address && leb e.address 46)

pub one_outside : (row : List AlertEntry) (i : ℕ) → i < length row → (leb 44 (address_at i row) && leb (address_at i row) 46) ≡ false → outside_in row ≡ true
unfolding outside_in
one_outside row i l o = one_passes outside_in outside refl (λ e r. refl) row i l (rw o)

pub all_inside : (row : List AlertEntry) → AllInside row → outside_in row ≡ false
unfolding outside_in
all_inside row fine =
    none_passes outside_in outside refl (λ e r. refl) row
    (λ i l. rw (le-leb 44 (address_at i row) (fine i l).0, le-leb (address_at i row) 46 (fine i l).1))

pub one_asserts : (row : List AlertEntry) (i : ℕ) → i < length row → asserts_at i row ≡ true → asserts_in row ≡ true
unfolding asserts_in
one_asserts = one_passes asserts_in (λ e. e.asserting) refl (λ e r. refl)

pub none_asserts : (row : List AlertEntry) → ((i : ℕ) → i < length row → asserts_at i row ≡ false) → asserts_in row ≡ false
unfolding asserts_in
none_asserts = none_passes asserts_in (λ e. e.asserting) refl (λ e r. refl)

-- ---- two entries with one address

has : (a : ℕ) (row : List AlertEntry) (i : ℕ) → i < length row → address_at i row ≡ a → has_address a row ≡ true
unfolding has_address
has a row i l q = one_passes (has_address a) (λ e. eqb e.address a) refl (λ e r. refl) row i l (eq-eqb (address_at i row) a q)

has_none : (a : ℕ) (row : List AlertEntry) → ((i : ℕ) → i < length row → address_at i row ≡ a → ⊥) → has_address a row ≡ false
unfolding has_address
has_none a row n = none_passes (has_address a) (λ e. eqb e.address a) refl (λ e r. refl) row (λ i l. ne_eqb (address_at i row) a (n i l))

pub two_alike : (row : List AlertEntry) (i j : ℕ) → i < j → j < length row → address_at i row ≡ address_at j row → twice_in row ≡ true
unfolding twice_in
two_alike [] i j o l q = absurd (omega arith)
two_alike (e ∷ row) i zero o l q = absurd (omega arith)
two_alike (e ∷ row) zero (suc j) o l q = rw (has e.address row j (omega arith) (sym q))
two_alike (e ∷ row) (suc i) (suc j) o l q = rw (two_alike row i j (omega arith) (omega arith) q, or-true)

pub all_different : (row : List AlertEntry) → AllDifferent row → twice_in row ≡ false
unfolding twice_in
all_different [] d = refl
all_different (e ∷ row) d =
    rw (
      has_none e.address row (λ j l q. d 0 (suc j) (omega arith) (omega arith) (sym q)),
      all_different row (λ i j o l. d (suc i) (suc j) (omega arith) (omega arith)),
    )

-- ---- the lowest address that asserts

-- no entry that asserts is below it
reached : (row : List AlertEntry) (i : ℕ) → i < length row → asserts_at i row ≡ true → lowest_asserting row ≤ address_at i row
unfolding lowest_asserting
reached [] i l y = absurd (omega arith)
reached (e ∷ row) zero l y = rw y (omega arith)
reached (e ∷ row) (suc i) l y =
    let r = reached row i (omega arith) y in
    either (λ n. n ≤ address_at i row) e.asserting (omega arith) r

-- and what is above none of those is not above it
at_least :
    (a : ℕ) (row : List AlertEntry) → a ≤ 255 → ((j : ℕ) → j < length row → asserts_at j row ≡ true → a ≤ address_at j row) → a ≤ lowest_asserting row
unfolding lowest_asserting
at_least a [] b h = b
at_least a (e ∷ row) b h =
    let r = at_least a row b (λ j l. h (suc j) (omega arith)) in
    by_cases e.asserting
    (λ y. rw y (omega (arith, h 0 (omega arith) y)))
    (λ n. rw n r)

pub lowest_is : (row : List AlertEntry) (i : ℕ) → i < length row → address_at i row ≤ 46 → Lowest i row → lowest_asserting row ≡ address_at i row
lowest_is row i l b low = omega (arith, reached row i l low.0, at_least (address_at i row) row (omega arith) low.1)
