-- A reading comes back from its register and from 0x06 without loss. Assumes nothing.
use Prim.Native.Nat.{ℕ, suc, ◌+◌, ◌-◌, ◌*◌, ◌/◌, ◌%◌, ◌<◌, ◌≤◌}
use mathlib.Core.Path.{◌≡◌, refl, sym, ap, ◌∙◌}
use mathlib.Core.Bool.{true, false}
use mathlib.Core.List.{[], ◌∷◌}
use native.Mathlib.Omega.{arith}
use lib.Dec.{leb}
use lib.IntN.{ℤ, pos, negsuc, ◌+ℤ◌, ◌*ℤ◌}
use borrow.Author.Tests.{eqb-false, lt-ltb, le-ltb, le-leb, leb-true}
use Rattle.integer.proofs.BoolLaws.{by_cases, either, both}
use Rattle.part.specs.declared.ChannelId.{ChannelId}
use Rattle.part.specs.declared.ChannelId.TheVariants.{Local, Remote1, Remote2}
use Rattle.event.specs.Kinds.{is_kind}
use Rattle.event.specs.declared.Event.{Event}
use Rattle.event.specs.declared.Kind.TheVariants as kind
use Rattle.rules.specs.Registers.{exists_at}
use Rattle.rules.specs.Events.{val, from_to, lies, samples, restarts}
use Rattle.rules.specs.Stored.{Taken}
use Rattle.rules.specs.Replies.{is_odd, odd_local}
use Rattle.rules.specs.Offsets.{highest, measured}
use Rattle.rules.specs.Temperatures.{temperature, whole_byte, remainder, degrees}
use Rattle.rules.specs.Shows.{remainders_byte, byte_at, value}
use Rattle.rules.specs.PageWords.{sampled, by_channel}
use Rattle.rules.proofs.TakenLaws.{Took, none, more, went}
use Rattle.rules.proofs.OffsetLaws.{measured_lies, measured_even}

-- ---- the whole part and the remainder

split : (t : ℤ) → lies (from_to (negsuc 1023) (pos 1023)) t ≡ true → t ≡ (pos 8 *ℤ degrees (whole_byte t)) +ℤ pos (remainder t)
split (pos n) y =
    let h = leb-true n 1023 y in
    rw (lt-ltb (n / 8 % 256) 128 (omega arith)) (ap pos (omega arith))
split (negsuc n) y =
    let h = leb-true n 1023 (both (leb n 1023) true y).0 in
    let eights : 8 * suc (255 - (255 - n / 8 % 256)) ≡ suc (7 + 8 * (n / 8)) = omega arith in
    rw (le-ltb (255 - n / 8 % 256) 128 (omega arith), eights, lt-ltb (7 - n % 8) (suc (7 + 8 * (n / 8))) (omega arith)) (ap negsuc (omega arith))

small : (t : ℤ) → remainder t < 8
small (pos n) = omega arith
small (negsuc n) = omega arith

even : (t : ℤ) → is_odd t ≡ false → 2 * (remainder t / 2) ≡ remainder t
even (pos n) y = omega (arith, eqb-false (n % 2) 1 y)
even (negsuc n) y = omega (arith, eqb-false (n % 2) 0 y)

-- ---- the range of a channel is within that of two bytes

widened : (high : ℕ) (t : ℤ) → high ≤ 1023 → lies (from_to (negsuc 1023) (pos high)) t ≡ true → lies (from_to (negsuc 1023) (pos 1023)) t ≡ true
widened high (pos n) h y = le-leb n 1023 (omega (arith, leb-true n high y))
widened high (negsuc n) h y = y

wide : (c : ChannelId) (t : ℤ) → lies (from_to (negsuc 1023) (highest c)) t ≡ true → lies (from_to (negsuc 1023) (pos 1023)) t ≡ true
wide Local t y = widened 1022 t (omega arith) y
wide Remote1 t y = y
wide Remote2 t y = y

zero_lies : (c : ChannelId) → lies (from_to (negsuc 1023) (highest c)) (pos 0) ≡ true
zero_lies Local = refl
zero_lies Remote1 = refl
zero_lies Remote2 = refl

-- ---- back from 0x06

-- the remainder of a channel in the byte of 0x06
abbrev rest : ChannelId → ℕ → ℕ
rest c byte = by_channel (2 * (byte / 64)) (byte % 8) (byte / 8 % 8) c

rest_small : (c : ChannelId) (l a b : ℤ) → rest c (remainders_byte l a b) < 8
rest_small Local l a b = omega (arith, small l, small a, small b)
rest_small Remote1 l a b = omega arith
rest_small Remote2 l a b = omega arith

pub eighths : (c : ChannelId) (d : Taken) → rest c (value 0x06 d) < 8
unfolding value byte_at exists_at
eighths c d = rest_small c (temperature Local d) (temperature Remote1 d) (temperature Remote2 d)

-- it is of its channel's reading alone: the local one in quarters
abbrev held : ChannelId → ℕ → ℕ
held c r = by_channel (2 * (r / 2)) r r c

rest_is : (c : ChannelId) (d : Taken) → rest c (value 0x06 d) ≡ held c (remainder (temperature c d))
unfolding value byte_at exists_at
rest_is Local d = omega (arith, small (temperature Local d), small (temperature Remote1 d), small (temperature Remote2 d))
rest_is Remote1 d = omega (arith, small (temperature Remote1 d))
rest_is Remote2 d = omega (arith, small (temperature Remote1 d), small (temperature Remote2 d))

pub rest_same : (c : ChannelId) (d g : Taken) → temperature c d ≡ temperature c g → rest c (value 0x06 d) ≡ rest c (value 0x06 g)
rest_same c d g q = rest_is c d ∙ rw q (sym (rest_is c g))

-- a sample is the last reading of its channel
pub last_reading_lem : (d : Taken) (t : ℤ) (c : ChannelId) → temperature c (sampled c t ∷ d) ≡ measured c (sampled c t) d
unfolding temperature
last_reading_lem d t Local = refl
last_reading_lem d t Remote1 = refl
last_reading_lem d t Remote2 = refl

-- ---- after every list of accepted events

-- a reading is in the range of its channel
pub within : (c : ChannelId) (d : Taken) → lies (from_to (negsuc 1023) (highest c)) (temperature c d) ≡ true
unfolding temperature
within c [] = zero_lies c
within c (e ∷ d) = either P (restarts e) (zero_lies c) (either P (samples c e) (measured_lies c _ (val e)) (within c d))
  where
    P : ℤ → Type 0
    P v = lies (from_to (negsuc 1023) (highest c)) v ≡ true

pub in_bytes : (c : ChannelId) (d : Taken) → lies (from_to (negsuc 1023) (pos 1023)) (temperature c d) ≡ true
in_bytes c d = wide c (temperature c d) (within c d)

-- the local one is even
even_after : (e : Event) (d : Taken) → odd_local e ≡ false → is_odd (temperature Local d) ≡ false → is_odd (temperature Local (e ∷ d)) ≡ false
unfolding temperature
even_after e d fine was =
    by_cases (restarts e)
    (λ s. rw s)
    (λ s. by_cases (samples Local e)
    (λ y. let p = both (is_kind kind.Sample e) _ y in rw (s, y) (measured_even _ (val e) (rw (p.0, p.1) at fine)))
    (λ y. rw (s, y) was))

pub local_even : {d : Taken} → Took d → is_odd (temperature Local d) ≡ false
local_even none = (unfold temperature in refl)
local_even (more {e = e} {d = d} go t) = even_after e d (went e d go).even (local_even t)

-- so a reading comes back from its registers
module _ {d : Taken} (t : Took d) where
  rest_back : (c : ChannelId) → rest c (value 0x06 d) ≡ remainder (temperature c d)
  rest_back Local = rest_is Local d ∙ even (temperature Local d) (local_even t)
  rest_back Remote1 = rest_is Remote1 d
  rest_back Remote2 = rest_is Remote2 d

  whole_back : (c : ChannelId) → value (by_channel 0x0A 0x0B 0x0C c) d ≡ whole_byte (temperature c d)
  unfolding value byte_at exists_at
  whole_back Local = refl
  whole_back Remote1 = refl
  whole_back Remote2 = refl

  pub reads_back : (c : ChannelId) → temperature c d ≡ (pos 8 *ℤ degrees (value (by_channel 0x0A 0x0B 0x0C c) d)) +ℤ pos (rest c (value 0x06 d))
  reads_back c = rw (whole_back c, rest_back c) (split (temperature c d) (in_bytes c d))
