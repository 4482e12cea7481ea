-- The reading that a sample makes: the page's figure is the rules', it is in its range, and of local even. Assumes nothing.
use Prim.Native.Nat.{ℕ, zero, suc, ◌+◌, ◌-◌, ◌*◌, ◌%◌}
use mathlib.Core.Path.{◌≡◌, refl, ap, ◌∙◌}
use mathlib.Core.Bool.{Bool, true, false, cond}
use mathlib.Core.List.{◌∷◌}
use native.Mathlib.Omega.{arith}
use lib.Dec.{ltb}
use lib.IntN.{ℤ, pos, negsuc, neg_ℤ, ◌+ℤ◌, ◌-ℤ◌, ◌*ℤ◌, sub_ℕ, +ℤ_idr}
use lib.Signed.{lt_z}
use borrow.Author.Tests.{ltb-true, ltb-false, eqb-false, lt-leb, le-leb, ne_eqb}
use Rattle.integer.specs.Bits.{bit_of}
use Rattle.integer.proofs.BoolLaws.{by_cases, either}
use Rattle.part.specs.declared.ChannelId.{ChannelId}
use Rattle.part.specs.declared.ChannelId.TheVariants.{Local, Remote1, Remote2}
use Rattle.rules.specs.Registers.{offset_at, exists_at}
use Rattle.rules.specs.Events.{from_to, lies}
use Rattle.rules.specs.Stored.{Taken, stored_at}
use Rattle.rules.specs.Replies.{is_odd, History, taken}
use Rattle.rules.specs.Offsets.{offset_of, clamped, highest, measured_z, measured}
use Rattle.rules.specs.Shows.{byte_at, value}
use Rattle.rules.specs.PageWords.{sampled, by_channel, not_above, not_below, reading_figure}

-- ---- the page's figure

eight_times : (n : ℕ) → pos 8 *ℤ neg_ℤ (pos n) ≡ neg_ℤ (pos (8 * n))
eight_times zero = refl
eight_times (suc n) = refl

pub sum_is : (subtracts : Bool) (n : ℕ) (t : ℤ) → t +ℤ (pos 8 *ℤ cond subtracts (neg_ℤ (pos n)) (pos n)) ≡ cond subtracts (t -ℤ pos (8 * n)) (t +ℤ pos (8 * n))
sum_is true n t = ap (λ (k : ℤ). t +ℤ k) (eight_times n)
sum_is false n t = refl

clamp_is : (high : ℕ) (t : ℤ) → clamped (negsuc 1023) (pos high) t ≡ not_below (negsuc 1023) (not_above (pos high) t)
clamp_is high (pos n) =
    by_cases (ltb high n)
    (λ y. rw (y, lt-leb n high (ltb-true high n y)))
    (λ y. rw (y, le-leb n high (ltb-false high n y)))
clamp_is high (negsuc n) =
    by_cases (ltb 1023 n)
    (λ y. rw (y, lt-leb n 1023 (ltb-true 1023 n y)))
    (λ y. rw (y, le-leb n 1023 (ltb-false 1023 n y)))

by_figure :
    (high b : ℕ) (t : ℤ) →
    clamped (negsuc 1023) (pos high) (t +ℤ (pos 8 *ℤ offset_of b))
    ≡ not_below (negsuc 1023) (not_above (pos high) (cond (bit_of b 7) (t -ℤ pos (8 * (b % 16))) (t +ℤ pos (8 * (b % 16)))))
by_figure high b t =
    ap (clamped (negsuc 1023) (pos high)) (sum_is (bit_of b 7) (b % 16) t)
    ∙ clamp_is high (cond (bit_of b 7) (t -ℤ pos (8 * (b % 16))) (t +ℤ pos (8 * (b % 16))))

offset_shown : (c : ChannelId) (t : ℤ) (d : Taken) → stored_at (offset_at c) (sampled c t ∷ d) ≡ value (by_channel 0x0D 0x0E 0x0F c) d
unfolding value byte_at exists_at stored_at
offset_shown Local t d = refl
offset_shown Remote1 t d = refl
offset_shown Remote2 t d = refl

pub figure_is : (c : ChannelId) (t : ℤ) (h : History) → measured c (sampled c t) (taken h) ≡ reading_figure c t h
unfolding measured_z
figure_is Local t h = rw (offset_shown Local t (taken h)) (by_figure 1022 (value 0x0D (taken h)) t)
figure_is Remote1 t h = rw (offset_shown Remote1 t (taken h)) (by_figure 1023 (value 0x0E (taken h)) t)
figure_is Remote2 t h = rw (offset_shown Remote2 t (taken h)) (by_figure 1023 (value 0x0F (taken h)) t)

-- ---- the range

-- what is held
abbrev summed : (offset : ℕ) (t : ℤ) → ℤ
summed b t = t +ℤ (pos 8 *ℤ offset_of b)

clamp_lies : (high : ℕ) (t : ℤ) → lies (from_to (negsuc 1023) (pos high)) (clamped (negsuc 1023) (pos high) t) ≡ true
clamp_lies high (pos n) =
    by_cases (ltb high n)
    (λ y. rw (y, le-leb high high (omega arith)))
    (λ y. rw (y, le-leb n high (ltb-false high n y)))
clamp_lies high (negsuc n) =
    by_cases (ltb 1023 n)
    (λ y. rw y)
    (λ y. rw (y, le-leb n 1023 (ltb-false 1023 n y)))

pub measured_lies : (c : ChannelId) (b : ℕ) (t : ℤ) → lies (from_to (negsuc 1023) (highest c)) (measured_z c b t) ≡ true
unfolding measured_z
measured_lies Local b t = clamp_lies 1022 (summed b t)
measured_lies Remote1 b t = clamp_lies 1023 (summed b t)
measured_lies Remote2 b t = clamp_lies 1023 (summed b t)

-- ---- even

difference_even : (a b : ℕ) → (a + b) % 2 ≡ 0 → is_odd (sub_ℕ a b) ≡ false
difference_even a b q =
    by_cases (ltb a b)
    (λ y. rw y (ne_eqb ((b - suc a) % 2) 0 (λ z. omega (arith, ltb-true a b y))))
    (λ y. rw y (ne_eqb ((a - b) % 2) 1 (λ z. omega (arith, ltb-false a b y))))

plus_even : (k : ℕ) (t : ℤ) → k % 2 ≡ 0 → is_odd t ≡ false → is_odd (t +ℤ pos k) ≡ false
plus_even k (pos n) q y = ne_eqb ((n + k) % 2) 1 (λ z. omega (arith, eqb-false (n % 2) 1 y (omega arith)))
plus_even k (negsuc n) q y = difference_even k (suc n) (omega (arith, eqb-false (n % 2) 0 y))

minus_even : (k : ℕ) (t : ℤ) → k % 2 ≡ 0 → is_odd t ≡ false → is_odd (t -ℤ pos k) ≡ false
minus_even zero t q y = rw (+ℤ_idr t) y
minus_even (suc k) (pos n) q y = difference_even n (suc k) (omega (arith, eqb-false (n % 2) 1 y))
minus_even (suc k) (negsuc n) q y = ne_eqb (suc (n + k) % 2) 0 (λ z. eqb-false (n % 2) 0 y (omega arith))

Even : ℤ → Type 0
Even t = is_odd t ≡ false

clamp_even : (t : ℤ) → Even t → Even (clamped (negsuc 1023) (pos 1022) t)
clamp_even t y = either Even (lt_z t (negsuc 1023)) (unfold Even in refl) (either Even (lt_z (pos 1022) t) (unfold Even in refl) y)

sum_even : (b : ℕ) (t : ℤ) → is_odd t ≡ false → Even (summed b t)
sum_even b t y =
    rw (sum_is (bit_of b 7) (b % 16) t)
    (either Even (bit_of b 7)
    (unfold Even in minus_even (8 * (b % 16)) t (omega arith) y)
    (unfold Even in plus_even (8 * (b % 16)) t (omega arith) y))

pub measured_even : (b : ℕ) (t : ℤ) → is_odd t ≡ false → is_odd (measured_z Local b t) ≡ false
unfolding measured_z Even
measured_even b t y = clamp_even (summed b t) (sum_even b t y)
