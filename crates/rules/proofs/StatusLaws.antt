-- The bits of the status bytes as a user reads them, and what moves them. Assumes nothing.
use Prim.Native.Nat.{ℕ, ◌+◌, ◌*◌, ◌/◌, ◌%◌}
use mathlib.Core.Path.{◌≡◌, refl, sym, ◌∙◌}
use mathlib.Core.Bool.{Bool, true, false, cond, not, and-false, and-not_self, or-true}
use mathlib.Core.List.{[], ◌∷◌}
use native.Mathlib.Omega.{arith}
use lib.Dec.{eqb}
use lib.IntN.{ℤ, pos}
use borrow.Author.Tests.{eqb-true, eqb-false}
use Rattle.integer.specs.Bits.{bit_of, weighed, packed}
use Rattle.integer.proofs.PackLaws.{bit_0, bit_2, bit_3, bit_4, bit_5, bit_6, bit_7}
use Rattle.part.specs.declared.ChannelId.{ChannelId}
use Rattle.part.specs.declared.ChannelId.TheVariants.{Local, Remote1, Remote2}
use Rattle.part.specs.declared.FanId.{FanId}
use Rattle.part.specs.declared.FanId.TheVariants.{One, Two}
use Rattle.rules.specs.Registers.{exists_at}
use Rattle.rules.specs.Stored.{Taken, stored_at, pointer, pin_low, diode_error, pulled_bit}
use Rattle.rules.specs.Temperatures.{latch, therm_asserted, channel_on, high_bit, low_bit, therm_bit}
use Rattle.rules.specs.Targets.{overridden}
use Rattle.rules.specs.Duties.{at_alarm, alarm_bit, failed, fault_bit}
use Rattle.rules.specs.Shows.{status, byte_at, value}
use Rattle.rules.specs.PageWords.{by_channel, by_fan, read}

-- ---- each bit at its place

module _ (d : Taken) where
  pub high_shown : (c : ChannelId) → bit_of (value (by_channel 0x02 0x02 0x03 c) d) (by_channel 6 2 2 c) ≡ high_bit c d
  unfolding value byte_at exists_at status
  high_shown Local = rw bit_6
  high_shown Remote1 = rw bit_2
  high_shown Remote2 = rw bit_2

  pub low_shown : (c : ChannelId) → bit_of (value (by_channel 0x02 0x02 0x03 c) d) (by_channel 7 3 3 c) ≡ low_bit c d
  unfolding value byte_at exists_at status
  low_shown Local = rw bit_7
  low_shown Remote1 = rw bit_3
  low_shown Remote2 = rw bit_3

  pub therm_shown : (c : ChannelId) → bit_of (value (by_channel 0x03 0x02 0x03 c) d) (by_channel 6 4 4 c) ≡ therm_bit c d
  unfolding value byte_at exists_at status
  therm_shown Local = rw bit_6
  therm_shown Remote1 = rw bit_4
  therm_shown Remote2 = rw bit_4

  pub alarm_shown : (f : FanId) → bit_of (value (by_fan 0x02 0x03 f) d) 0 ≡ alarm_bit f d
  unfolding value byte_at exists_at status
  alarm_shown One = rw bit_0
  alarm_shown Two = rw bit_0

  pub error_shown : (f : FanId) → bit_of (value (by_fan 0x02 0x03 f) d) 5 ≡ diode_error (by_fan Remote1 Remote2 f) d
  unfolding value byte_at exists_at status
  error_shown One = rw bit_5
  error_shown Two = rw bit_5

  pub pulled_shown : bit_of (value 0x03 d) 7 ≡ pulled_bit d
  unfolding value byte_at exists_at status
  pulled_shown = rw bit_7

-- ---- a disabled channel has no bit

module _ (c : ChannelId) where
  pub high_off : (d : Taken) → channel_on c d ≡ false → high_bit c d ≡ false
  unfolding high_bit
  high_off [] q = refl
  high_off (e ∷ d) q = simp (q, and-false, or-true)

  pub low_off : (d : Taken) → channel_on c d ≡ false → low_bit c d ≡ false
  unfolding low_bit
  low_off [] q = refl
  low_off (e ∷ d) q = simp (q, and-false, or-true)

  pub therm_off : (d : Taken) → channel_on c d ≡ false → therm_bit c d ≡ false
  unfolding therm_bit
  therm_off [] q = refl
  therm_off (e ∷ d) q = simp (q, and-false, or-true)

-- so to clear it changes nothing
pub stays : (on was : Bool) → (on ≡ false → was ≡ false) → cond (not on) false was ≡ was
stays true was q = refl
stays false was q = sym (q refl)

-- ---- a read

-- bit 5 of a byte, alone or beside the alarm bit
pub fifth : (n : ℕ) (alarm b : Bool) → bit_of n 5 ≡ b → packed alarm false false false false b false false ≡ weighed alarm 1 + 32 * (n / 32 % 2)
unfolding packed
fifth n true true q = omega (arith, eqb-true (n / 32 % 2) 1 q)
fifth n true false q = omega (arith, eqb-false (n / 32 % 2) 1 q)
fifth n false true q = omega (arith, eqb-true (n / 32 % 2) 1 q)
fifth n false false q = omega (arith, eqb-false (n / 32 % 2) 1 q)

module _ (d : Taken) (w : ℤ) where
  -- it enters no alarm speed
  read_alarm : (f : FanId) → at_alarm f (read w (pos 0) (pos 0) ∷ d) ≡ at_alarm f d
  unfolding at_alarm overridden therm_asserted stored_at latch pin_low
  read_alarm One = refl
  read_alarm Two = refl

  -- a read leaves a channel's bits in the other register
  high_stays : (c : ChannelId) → cond (not (channel_on c d)) false (high_bit c d) ≡ high_bit c d
  high_stays c = stays (channel_on c d) (high_bit c d) (high_off c d)

  low_stays : (c : ChannelId) → cond (not (channel_on c d)) false (low_bit c d) ≡ low_bit c d
  low_stays c = stays (channel_on c d) (low_bit c d) (low_off c d)

  therm_stays : (c : ChannelId) → cond (not (channel_on c d)) false (therm_bit c d) ≡ therm_bit c d
  therm_stays c = stays (channel_on c d) (therm_bit c d) (therm_off c d)

  cleared :
      (f : FanId) → pointer d ≡ by_fan 0x02 0x03 f →
      value (by_fan 0x02 0x03 f) (read w (pos 0) (pos 0) ∷ d) ≡ packed false false false false false (diode_error (by_fan Remote1 Remote2 f) d) false false
  unfolding value byte_at exists_at status alarm_bit fault_bit failed high_bit low_bit therm_bit diode_error pulled_bit
  cleared One p = rw (p, read_alarm One, and-not_self (at_alarm One d))
  cleared Two p = rw (p, read_alarm Two, and-not_self (at_alarm Two d))

  pub clears :
      (f : FanId) → pointer d ≡ by_fan 0x02 0x03 f →
      value (by_fan 0x02 0x03 f) (read w (pos 0) (pos 0) ∷ d) ≡ 32 * (value (by_fan 0x02 0x03 f) d / 32 % 2)
  clears f p = cleared f p ∙ (fifth (value (by_fan 0x02 0x03 f) d) false (diode_error (by_fan Remote1 Remote2 f) d) (error_shown d f) ∙ omega arith)

  pub keeps :
      (f : FanId) → eqb (pointer d) (by_fan 0x02 0x03 f) ≡ false →
      value (by_fan 0x02 0x03 f) (read w (pos 0) (pos 0) ∷ d) ≡ value (by_fan 0x02 0x03 f) d
  unfolding value byte_at exists_at status alarm_bit fault_bit failed high_bit low_bit therm_bit diode_error pulled_bit stored_at
  keeps One p =
      rw (p, read_alarm One, and-not_self (at_alarm One d), high_stays Remote1, low_stays Remote1, therm_stays Remote1, high_stays Local, low_stays Local)
  keeps Two p =
      rw (p, read_alarm Two, and-not_self (at_alarm Two d), high_stays Remote2, low_stays Remote2, therm_stays Remote2, therm_stays Local)
