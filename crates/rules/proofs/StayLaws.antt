-- Status bits that an event leaves as they were. Assumes nothing.
use mathlib.Core.Path.{◌≡◌, refl}
use mathlib.Core.Bool.{false}
use mathlib.Core.List.{◌∷◌}
use lib.Dec.{eqb}
use lib.IntN.{ℤ}
use Rattle.part.specs.declared.ChannelId.{ChannelId}
use Rattle.part.specs.declared.ChannelId.TheVariants.{Local, Remote1, Remote2}
use Rattle.event.specs.Kinds.{place_of, is_kind}
use Rattle.event.specs.declared.Event.{Event}
use Rattle.event.specs.declared.Kind.{Kind}
use Rattle.event.specs.declared.Kind.TheVariants as kind
use Rattle.rules.specs.Registers.{config2}
use Rattle.rules.specs.Events.{samples}
use Rattle.rules.specs.Stored.{Taken, pulled_bit}
use Rattle.rules.specs.Temperatures.{channel_on, high_bit, low_bit, therm_bit}
use Rattle.rules.specs.PageWords.{sampled}
use Rattle.rules.proofs.CalmLaws.{byte_same}
use Rattle.rules.proofs.StatusLaws.{high_off, low_off, therm_off, stays}

-- an event that is no power, write or read
module _ (e : Event) (d : Taken) (no_power : is_kind kind.Power e ≡ false) (no_write : is_kind kind.Write e ≡ false)
    (no_read : is_kind kind.Read e ≡ false) where
  pub on_kept : (c : ChannelId) → channel_on c (e ∷ d) ≡ channel_on c d
  on_kept c = rw (byte_same e d no_power no_write config2 refl)

  -- nor a sample of the channel
  module _ (c : ChannelId) (other : samples c e ≡ false) where
    pub high_kept : high_bit c (e ∷ d) ≡ high_bit c d
    unfolding high_bit
    high_kept = rw (other, no_power, no_write, no_read, on_kept c) (stays (channel_on c d) (high_bit c d) (high_off c d))

    pub low_kept : low_bit c (e ∷ d) ≡ low_bit c d
    unfolding low_bit
    low_kept = rw (other, no_power, no_write, no_read, on_kept c) (stays (channel_on c d) (low_bit c d) (low_off c d))

    pub therm_kept : therm_bit c (e ∷ d) ≡ therm_bit c d
    unfolding therm_bit
    therm_kept = rw (other, no_power, no_write, no_read, on_kept c) (stays (channel_on c d) (therm_bit c d) (therm_off c d))

  pub pulled_kept : is_kind kind.Pin e ≡ false → pulled_bit (e ∷ d) ≡ pulled_bit d
  unfolding pulled_bit
  pulled_kept no_pin = rw (no_pin, no_power, no_write, no_read)

-- a sample of another channel is none of this one
pub another : (c other : ChannelId) (t : ℤ) → (c ≡ other → ⊥) → samples c (sampled other t) ≡ false
another Local Local t n = absurd (n refl)
another Local Remote1 t n = refl
another Local Remote2 t n = refl
another Remote1 Local t n = refl
another Remote1 Remote1 t n = absurd (n refl)
another Remote1 Remote2 t n = refl
another Remote2 Local t n = refl
another Remote2 Remote1 t n = refl
another Remote2 Remote2 t n = absurd (n refl)

pub sampled_kind : (k : Kind) (c : ChannelId) (t : ℤ) → is_kind k (sampled c t) ≡ eqb 4 (place_of k)
sampled_kind k Local t = refl
sampled_kind k Remote1 t = refl
sampled_kind k Remote2 t = refl
