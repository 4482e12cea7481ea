-- Document 01, "Temperatures, latches and cards", over the accepted events: t in eighths of a degree, limits in signed degrees.
-- t is the reading that a sample makes (T-01 of document 02).
use Rattle.std.specs.Prelude.{ℕ, ◌-◌, ◌/◌, ◌%◌, Bool, true, false, cond, not, ◌&&◌, ◌||◌, [], ◌∷◌, ltb, ℤ, pos, negsuc, ◌-ℤ◌, ◌*ℤ◌}
use Rattle.std.specs.Int.Signed.{lt_z}
use Rattle.part.specs.declared.ChannelId.{ChannelId}
use Rattle.part.specs.declared.ChannelId.TheVariants.{Local, Remote1, Remote2}
use Rattle.part.specs.declared.FanId.{FanId}
use Rattle.part.specs.declared.FanId.TheVariants.{One, Two}
use Rattle.event.specs.declared.Event.{Event}
use Rattle.rules.specs.Registers.{config2, status_at, high_limit_at, low_limit_at, therm_limit_at}
use Rattle.rules.specs.Fields.{channel_enabled}
use Rattle.rules.specs.Events.{samples, reads, restarts}
use Rattle.rules.specs.Stored.{Taken, stored_at, pointer}
use Rattle.rules.specs.Offsets.{measured}

-- ---- rule 1: readings

-- the last reading since power or reset, which zero it
unfoldable pub temperature : ChannelId → Taken → ℤ
temperature c [] = pos 0
temperature c (e ∷ d) = cond (restarts e) (pos 0) (cond (samples c e) (measured c e d) (temperature c d))

-- the whole part rounded down, in two's complement; -1, which is `negsuc 0`, is 255
abbrev pub whole_byte : ℤ → ℕ
whole_byte (pos n) = n / 8 % 256
whole_byte (negsuc n) = 255 - n / 8 % 256

-- the remainder, 0 to 7
abbrev pub remainder : ℤ → ℕ
remainder (pos n) = n % 8
remainder (negsuc n) = 7 - n % 8

-- limits are signed whole degrees: the number of a byte in two's complement
abbrev pub degrees : ℕ → ℤ
degrees byte = cond (ltb byte 128) (pos byte) (negsuc (255 - byte))

abbrev pub limit : (address : ℕ) → Taken → ℤ
limit a d = degrees (stored_at a d)

-- ---- rule 2: the THERM latch

-- on if t > 8 limit, off if t < 8(limit - 5), else kept
abbrev pub hysteresis : Bool → (limit t : ℤ) → Bool
hysteresis on limit t = cond (lt_z (pos 8 *ℤ limit) t) true (cond (lt_z t (pos 8 *ℤ (limit -ℤ pos 5))) false on)

unfoldable pub latch : ChannelId → Taken → Bool
latch c [] = false
latch c (e ∷ d) = cond (restarts e) false (cond (samples c e) (hysteresis (latch c d) (limit (therm_limit_at c) (e ∷ d)) (measured c e d)) (latch c d))

-- THERM is asserted while a latch is on; nothing masks it
unfoldable pub therm_asserted : Taken → Bool
therm_asserted d = latch Local d || (latch Remote1 d || latch Remote2 d)

-- ---- rules 3 to 5 and 7: the status bits of a channel

abbrev pub channel_on : ChannelId → Taken → Bool
channel_on c d = channel_enabled c (stored_at config2 d)

-- rule 4: the status registers, by their fan, of a channel's high and low bits, and of its THERM bit
abbrev pub limit_bits_in : ChannelId → FanId
limit_bits_in Local = One
limit_bits_in Remote1 = One
limit_bits_in Remote2 = Two

abbrev pub therm_bit_in : ChannelId → FanId
therm_bit_in Local = Two
therm_bit_in Remote1 = One
therm_bit_in Remote2 = Two

-- rules 5 and 7: a restart, a read of its register and a cleared enable bit clear a bit
abbrev pub clears : ChannelId → FanId → Event → Taken → Bool
clears c f e d = restarts e || (reads (status_at f) (pointer d) e || not (channel_on c (e ∷ d)))

-- rule 3: high if t > 8 high, low if t < 8 low, THERM where the latch goes from off to on, each with the channel enabled
unfoldable pub high_bit : ChannelId → Taken → Bool
high_bit c [] = false
high_bit c (e ∷ d) =
    cond (samples c e && (channel_on c (e ∷ d) && lt_z (pos 8 *ℤ limit (high_limit_at c) (e ∷ d)) (measured c e d))) true
    (cond (clears c (limit_bits_in c) e d) false (high_bit c d))

unfoldable pub low_bit : ChannelId → Taken → Bool
low_bit c [] = false
low_bit c (e ∷ d) =
    cond (samples c e && (channel_on c (e ∷ d) && lt_z (measured c e d) (pos 8 *ℤ limit (low_limit_at c) (e ∷ d)))) true
    (cond (clears c (limit_bits_in c) e d) false (low_bit c d))

unfoldable pub therm_bit : ChannelId → Taken → Bool
therm_bit c [] = false
therm_bit c (e ∷ d) =
    cond (samples c e && (channel_on c (e ∷ d) && (not (latch c d) && latch c (e ∷ d)))) true
    (cond (clears c (therm_bit_in c) e d) false (therm_bit c d))
