-- Document 01, "Temperatures, latches and cards", rule 1. A reading of t eighths is held as t + 1024.
use Rattle.std.specs.Prelude.{ℕ, ◌+◌, ◌*◌, ◌/◌, ◌%◌}
use Rattle.part.specs.declared.ChannelId.{ChannelId}
use Rattle.part.specs.declared.ChannelId.TheVariants.{Local, Remote1, Remote2}

-- the whole part rounded down, in two's complement
abbrev pub byte_of : ℕ → ℕ
byte_of reading = (reading / 8 + 128) % 256

-- the remainder, 0 to 7
abbrev pub remainder_of : ℕ → ℕ
remainder_of reading = reading % 8

-- the reading that a byte and a remainder are of
abbrev pub reading_of : (byte remainder : ℕ) → ℕ
reading_of byte remainder = 8 * ((byte + 128) % 256) + remainder

-- register 0x06 (Table 22 of 000): remote 1 in bits 2:0, remote 2 in 5:3, local in quarters in 7:6
abbrev pub extended_of : (local remote1 remote2 : ℕ) → ℕ
extended_of local remote1 remote2 = remote1 + 8 * remote2 + 64 * (local / 2)

-- a channel's remainder in register 0x06
abbrev pub remainder_in : ChannelId → ℕ → ℕ
remainder_in Local byte = 2 * (byte / 64)
remainder_in Remote1 byte = byte % 8
remainder_in Remote2 byte = byte / 8 % 8
