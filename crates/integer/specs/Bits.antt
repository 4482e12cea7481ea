-- The bits of a byte, by their places from 0 to 7.
use Rattle.std.specs.Prelude.{ℕ, ◌+◌, ◌-◌, ◌/◌, ◌%◌, ◌^◌, Bool, cond, eqb}
use Rattle.std.specs.Int.Bits.{bit_and, bit_or}

abbrev pub bit_of : ℕ → ℕ → Bool
bit_of byte place = eqb (byte / 2 ^ place % 2) 1

-- the bits of the new byte where the mask has a 1, else those of the old
unfoldable pub merged_of : (mask old new : ℕ) → ℕ
merged_of mask old new = bit_or (bit_and old (255 - mask)) (bit_and new mask)

-- 1 for on, 0 for off
abbrev pub flag_of : Bool → ℕ
flag_of on = cond on 1 0

-- eight bits as a byte, the first at place 0
abbrev pub weighed : Bool → (weight : ℕ) → ℕ
weighed on weight = cond on weight 0

unfoldable pub packed : (b0 b1 b2 b3 b4 b5 b6 b7 : Bool) → ℕ
packed b0 b1 b2 b3 b4 b5 b6 b7 =
    weighed b0 1 + weighed b1 2 + weighed b2 4 + weighed b3 8 + weighed b4 16 + weighed b5 32 + weighed b6 64 + weighed b7 128
