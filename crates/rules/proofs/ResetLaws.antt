-- The software reset: what it keeps, and that it leaves what power leaves. Assumes nothing.
use Prim.Native.Nat.{ℕ, ◌+◌, ◌*◌, ◌/◌, ◌%◌}
use mathlib.Core.Path.{◌≡◌, refl, sym, ◌∙◌}
use mathlib.Core.Bool.{true, false, or-true}
use mathlib.Core.List.{◌∷◌}
use lib.Dec.{eqb}
use lib.IntN.{ℤ, pos}
use Rattle.integer.specs.Bits.{bit_of, packed}
use Rattle.part.specs.declared.ChannelId.TheVariants.{Remote1, Remote2}
use Rattle.part.specs.declared.FanId.{FanId}
use Rattle.part.specs.declared.FanId.TheVariants.{One, Two}
use Rattle.rules.specs.Registers.{reset_at, exists_at}
use Rattle.rules.specs.Events.{restarts}
use Rattle.rules.specs.Stored.{Taken, stored_at, pointer, pin_low, own_address, diode_error, pulled_bit}
use Rattle.rules.specs.Temperatures.{temperature, latch, therm_asserted, high_bit, low_bit, therm_bit}
use Rattle.rules.specs.Targets.{overridden}
use Rattle.rules.specs.Duties.{spin_up_of, left, duty_after, spin_after, spin, failed, fault_bit, at_alarm, alarm_bit}
use Rattle.rules.specs.Shows.{status, byte_at, value, shown}
use Rattle.rules.specs.PageWords.{power, by_fan}
use Rattle.rules.specs.PageTemperatures.{reset}
use Rattle.rules.proofs.PowerLaws.{restart_shown, power_free}
use Rattle.rules.proofs.StatusLaws.{error_shown, fifth}

module _ (d : Taken) (w : ℤ) (b : ℕ) where
  pub reset_keeps_lem : (own_address (reset w b ∷ d) ≡ own_address d) × (pin_low (reset w b ∷ d) ≡ pin_low d) × (pointer (reset w b ∷ d) ≡ 1)
  unfolding own_address pin_low pointer
  reset_keeps_lem = (refl, refl, refl)

module _ (d : Taken) (w : ℤ) (b : ℕ) (seven : bit_of b 7 ≡ true) where
  pub afresh : restarts (reset w b) ≡ true
  afresh = rw seven

  -- ---- the pin is high

  module _ (high : pin_low d ≡ false) where
    reset_calm : overridden (reset w b ∷ d) ≡ false
    unfolding overridden therm_asserted latch pin_low stored_at reset_at
    reset_calm = rw (high, seven)

    module _ (x y own : ℕ) (p : diode_error Remote1 d ≡ eqb x 1) (q : diode_error Remote2 d ≡ eqb y 1) where
      status_alike : (f : FanId) → status f (reset w b ∷ d) ≡ status f (power (pos own) (pos x) (pos y) ∷ d)
      unfolding status therm_asserted stored_at reset_at latch high_bit low_bit therm_bit diode_error pulled_bit fault_bit alarm_bit at_alarm failed
          overridden pin_low
      status_alike One = rw (seven, high, p)
      status_alike Two = rw (seven, high, q)

      pub reset_as_power_lem : (a : ℕ) → value a (reset w b ∷ d) ≡ value a (power (pos own) (pos x) (pos y) ∷ d)
      unfolding value byte_at stored_at temperature
      reset_as_power_lem a = rw (status_alike One, status_alike Two, seven)

      pub outputs_alike : shown (reset w b ∷ d) ≡ shown (power (pos own) (pos x) (pos y) ∷ d)
      unfolding diode_error
      outputs_alike =
          restart_shown (reset w b) d afresh reset_calm
          ∙ (rw (p, q) refl ∙ sym (restart_shown (power (pos own) (pos x) (pos y)) d refl (power_free d (pos own) (pos x) (pos y))))

  -- ---- the pin is low

  module _ (low : pin_low d ≡ true) where
    low_status_lem :
        (f : FanId) →
        value (by_fan 0x02 0x03 f) (reset w b ∷ d) ≡ packed true false false false false (diode_error (by_fan Remote1 Remote2 f) d) false false
    unfolding value byte_at exists_at status stored_at reset_at latch high_bit low_bit therm_bit diode_error pulled_bit fault_bit alarm_bit at_alarm failed
        overridden pin_low
    low_status_lem One = rw (seven, low)
    low_status_lem Two = rw (seven, low)

    pub low_byte : (f : FanId) → value (by_fan 0x02 0x03 f) (reset w b ∷ d) ≡ 1 + 32 * (value (by_fan 0x02 0x03 f) d / 32 % 2)
    low_byte f = low_status_lem f ∙ fifth (value (by_fan 0x02 0x03 f) d) true (diode_error (by_fan Remote1 Remote2 f) d) (error_shown d f)

    pub low_spin : (f : FanId) → left (spin f (reset w b ∷ d)) ≡ 20
    unfolding spin spin_after duty_after spin_up_of overridden pin_low stored_at reset_at
    low_spin One = rw (seven, low, or-true)
    low_spin Two = rw (seven, low, or-true)
