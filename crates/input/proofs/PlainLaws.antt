-- An event as plain numbers is to each part of the chip what the rules say of the event. Assumes nothing.
use Prim.Native.Nat.{ℕ, ◌<◌, ◌≤◌}
use mathlib.Core.Path.{◌≡◌, refl, sym}
use mathlib.Core.Bool.{true, true≢false}
use native.Mathlib.Omega.{arith}
use lib.Dec.{leb, eqb}
use lib.IntN.{ℤ, pos, negsuc}
use borrow.Author.Tests.{ne_eqb, leb-true}
use Rattle.integer.proofs.BoolLaws.{both}
use Rattle.part.specs.declared.ChannelId.{ChannelId}
use Rattle.part.specs.declared.ChannelId.TheVariants.{Local, Remote1, Remote2}
use Rattle.part.specs.declared.FanId.{FanId}
use Rattle.part.specs.declared.FanId.TheVariants.{One, Two}
use Rattle.event.specs.declared.Event.{Event}
use Rattle.rules.specs.Events.{who, is_number, natural, from_to, lies, channel_number, fan_number, samples, reports, measures, periods}
use Rattle.input.specs.Inputs.{plain_of, input_of, is_sample, is_report, is_count, is_period}

pub plain_is : (v : ℤ) (n : ℕ) → n < 2147483648 → eqb (plain_of v) n ≡ is_number v n
plain_is (pos m) n h = refl
plain_is (negsuc m) n h = ne_eqb 2147483648 n (λ q. omega arith)

-- ---- a number that lies in a range from 0 up is that plain number

module _ (low high : ℕ) where
  pub lies_plain : (v : ℤ) → lies (from_to (pos low) (pos high)) v ≡ true → (plain_of v ≡ natural v) × (natural v ≤ high)
  lies_plain (pos m) y = (refl, leb-true m high (both (leb low m) (leb m high) y).1)
  lies_plain (negsuc m) y = absurd (true≢false (sym y))

  pub lies_number : (v : ℤ) (n : ℕ) → lies (from_to (pos low) (pos high)) v ≡ true → is_number v n ≡ eqb (natural v) n
  lies_number (pos m) n y = refl
  lies_number (negsuc m) n y = absurd (true≢false (sym y))

-- ---- samples, reports, counts and periods

channel_small : (c : ChannelId) → channel_number c < 2147483648
channel_small Local = omega arith
channel_small Remote1 = omega arith
channel_small Remote2 = omega arith

fan_small : (f : FanId) → fan_number f < 2147483648
fan_small One = omega arith
fan_small Two = omega arith

pub sample_is : (c : ChannelId) (e : Event) → is_sample c (input_of e) ≡ samples c e
sample_is c e = rw (plain_is (who e) (channel_number c) (channel_small c))

pub report_is : (c : ChannelId) (e : Event) → is_report c (input_of e) ≡ reports c e
report_is c e = rw (plain_is (who e) (channel_number c) (channel_small c))

pub count_is : (f : FanId) (e : Event) → is_count f (input_of e) ≡ measures f e
count_is f e = rw (plain_is (who e) (fan_number f) (fan_small f))

pub period_is : (f : FanId) (e : Event) → is_period f (input_of e) ≡ periods f e
period_is f e = rw (plain_is (who e) (fan_number f) (fan_small f))
