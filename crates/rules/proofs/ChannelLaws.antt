-- What a sample and other events do to the latch and the status bits of a channel, by the registers that a user reads. Assumes nothing.
use mathlib.Core.Path.{◌≡◌, refl}
use mathlib.Core.Bool.{Bool, true, false, cond, not, ◌&&◌, ◌||◌, or-true}
use mathlib.Core.List.{◌∷◌}
use lib.IntN.{ℤ, pos, ◌*ℤ◌}
use lib.Signed.{lt_z}
use Rattle.integer.specs.Bits.{bit_of}
use Rattle.part.specs.declared.ChannelId.{ChannelId}
use Rattle.part.specs.declared.ChannelId.TheVariants.{Local, Remote1, Remote2}
use Rattle.event.specs.Kinds.{is_kind}
use Rattle.event.specs.declared.Event.{Event}
use Rattle.event.specs.declared.Kind.TheVariants as kind
use Rattle.rules.specs.Registers.{exists_at}
use Rattle.rules.specs.Stored.{Taken, stored_at}
use Rattle.rules.specs.Offsets.{measured}
use Rattle.rules.specs.Temperatures.{degrees, hysteresis, latch, therm_asserted, high_bit, low_bit, therm_bit}
use Rattle.rules.specs.Shows.{byte_at, value, shown}
use Rattle.rules.specs.PageWords.{by_channel, read, sampled}
use Rattle.rules.proofs.StayLaws.{another, sampled_kind}

-- ---- the latch

module _ (d : Taken) where
  pub latch_after_lem :
      (c : ChannelId) (t : ℤ) →
      latch c (sampled c t ∷ d) ≡ hysteresis (latch c d) (degrees (value (by_channel 0x16 0x1A 0x1E c) d)) (measured c (sampled c t) d)
  unfolding latch value byte_at exists_at stored_at
  latch_after_lem Local t = refl
  latch_after_lem Remote1 t = refl
  latch_after_lem Remote2 t = refl

  pub latch_stays_lem :
      (c : ChannelId) (e : Event) → is_kind kind.Sample e ≡ false → is_kind kind.Power e ≡ false → is_kind kind.Write e ≡ false →
      latch c (e ∷ d) ≡ latch c d
  unfolding latch
  latch_stays_lem c e s p w = rw (s, p, w)

  pub latch_another : (c other : ChannelId) (t : ℤ) → (c ≡ other → ⊥) → latch c (sampled other t ∷ d) ≡ latch c d
  unfolding latch
  latch_another c other t n = rw (another c other t n, sampled_kind kind.Power other t, sampled_kind kind.Write other t)

  -- ---- THERM

  pub therm_on : (c : ChannelId) → latch c d ≡ true → (shown d).therm ≡ 1
  unfolding shown therm_asserted
  therm_on Local y = rw y
  therm_on Remote1 y = rw (y, or-true (latch Local d))
  therm_on Remote2 y = rw (y, or-true (latch Remote1 d), or-true (latch Local d))

  pub therm_off : latch Local d ≡ false → latch Remote1 d ≡ false → latch Remote2 d ≡ false → (shown d).therm ≡ 0
  unfolding shown therm_asserted
  therm_off l a b = rw (l, a, b)

  pub therm_read_lem : (w : ℤ) → (shown (read w (pos 0) (pos 0) ∷ d)).therm ≡ (shown d).therm
  unfolding shown therm_asserted latch
  therm_read_lem w = refl

-- ---- the bits, of an enabled channel

or_is : (a b : Bool) → cond a true b ≡ (a || b)
or_is true b = refl
or_is false b = refl

-- above the high limit, below the low one; the latch goes from off to on
abbrev above : ChannelId → ℤ → Taken → Bool
above c t d = lt_z (pos 8 *ℤ degrees (value (by_channel 0x14 0x18 0x1C c) d)) (measured c (sampled c t) d)

abbrev below : ChannelId → ℤ → Taken → Bool
below c t d = lt_z (measured c (sampled c t) d) (pos 8 *ℤ degrees (value (by_channel 0x15 0x19 0x1D c) d))

abbrev trips : ChannelId → ℤ → Taken → Bool
trips c t d = not (latch c d) && latch c (sampled c t ∷ d)

module _ (d : Taken) (t : ℤ) where
  pub high_after : (c : ChannelId) → bit_of (value 0x01 d) (by_channel 4 5 6 c) ≡ true → high_bit c (sampled c t ∷ d) ≡ (above c t d || high_bit c d)
  unfolding high_bit value byte_at exists_at stored_at
  high_after Local on = rw on (or_is (above Local t d) (high_bit Local d))
  high_after Remote1 on = rw on (or_is (above Remote1 t d) (high_bit Remote1 d))
  high_after Remote2 on = rw on (or_is (above Remote2 t d) (high_bit Remote2 d))

  pub low_after : (c : ChannelId) → bit_of (value 0x01 d) (by_channel 4 5 6 c) ≡ true → low_bit c (sampled c t ∷ d) ≡ (below c t d || low_bit c d)
  unfolding low_bit value byte_at exists_at stored_at
  low_after Local on = rw on (or_is (below Local t d) (low_bit Local d))
  low_after Remote1 on = rw on (or_is (below Remote1 t d) (low_bit Remote1 d))
  low_after Remote2 on = rw on (or_is (below Remote2 t d) (low_bit Remote2 d))

  pub therm_after : (c : ChannelId) → bit_of (value 0x01 d) (by_channel 4 5 6 c) ≡ true → therm_bit c (sampled c t ∷ d) ≡ (trips c t d || therm_bit c d)
  unfolding therm_bit value byte_at exists_at stored_at
  therm_after Local on = rw on (or_is (trips Local t d) (therm_bit Local d))
  therm_after Remote1 on = rw on (or_is (trips Remote1 t d) (therm_bit Remote1 d))
  therm_after Remote2 on = rw on (or_is (trips Remote2 t d) (therm_bit Remote2 d))
