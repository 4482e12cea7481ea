-- What is held with 1024 added stands for t: byte, remainder and comparisons are those of the rules.
use Rattle.std.specs.Prelude.{ℕ, ◌*◌, ◌<◌, ◌≡◌, Bool, ℤ, pos, ◌+ℤ◌, ◌*ℤ◌}
use Rattle.std.specs.Int.Signed.{lt_z}
use Rattle.part.specs.declared.ChannelId.{ChannelId}
use Rattle.part.specs.declared.ChannelId.TheVariants.{Local, Remote1, Remote2}
use Rattle.rules.specs.Temperatures.{whole_byte, remainder, degrees, hysteresis}
use Rattle.reading.specs.Reading.{byte_of, remainder_of, reading_of, extended_of, remainder_in}
use Rattle.reading.specs.Limits.{latched_of, running_of, is_high, is_low}

-- What is held as `reading` stands for t.
pub record Faithful (t : ℤ) (reading : ℕ) : Type 0 where
  -- temperatures 1: the whole part and the remainder, of which t is made
  pub whole : byte_of reading ≡ whole_byte t
  pub rest : remainder_of reading ≡ remainder t
  pub split : t ≡ (pos 8 *ℤ degrees (byte_of reading)) +ℤ pos (remainder_of reading)
  -- temperatures 2, for every limit byte
  pub latch : (on : Bool) (limit : ℕ) → limit < 256 → latched_of on limit reading ≡ hysteresis on (degrees limit) t
  -- temperatures 3
  pub high : (limit : ℕ) → limit < 256 → is_high limit reading ≡ lt_z (pos 8 *ℤ degrees limit) t
  pub low : (limit : ℕ) → limit < 256 → is_low limit reading ≡ lt_z t (pos 8 *ℤ degrees limit)
  -- duty 1, for every Tmin
  pub flag : (on : Bool) (tmin : ℕ) → running_of on tmin reading ≡ hysteresis on (pos tmin) t

-- a channel's own of three
abbrev pub chosen : ChannelId → (local remote1 remote2 : ℕ) → ℕ
chosen Local local remote1 remote2 = local
chosen Remote1 local remote1 remote2 = remote1
chosen Remote2 local remote1 remote2 = remote2

-- Readings and bytes turn into each other without loss (demand 2).
pub record Lossless : Type 0 where
  pub reading : (r : ℕ) → r < 2048 → reading_of (byte_of r) (remainder_of r) ≡ r
  pub byte : (b e : ℕ) → b < 256 → e < 8 → byte_of (reading_of b e) ≡ b
  pub remainder : (b e : ℕ) → b < 256 → e < 8 → remainder_of (reading_of b e) ≡ e
  -- register 0x06: three remainders, the local one even, and any byte
  pub remainders :
      (c : ChannelId) (q remote1 remote2 : ℕ) → q < 4 → remote1 < 8 → remote2 < 8 →
      remainder_in c (extended_of (2 * q) remote1 remote2) ≡ chosen c (2 * q) remote1 remote2
  pub extended : (b : ℕ) → b < 256 → extended_of (remainder_in Local b) (remainder_in Remote1 b) (remainder_in Remote2 b) ≡ b
