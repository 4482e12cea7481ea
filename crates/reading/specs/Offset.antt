-- Document 02, T-01: the reading that a sample makes, both held with 1024 added. `FaithfulOffset` holds it to the rules, which are in signed numbers.
use Rattle.std.specs.Prelude.{ℕ, ◌+◌, ◌-◌, ◌*◌, min, ◌≡◌, cond, ℤ, Some}
use Rattle.integer.specs.Range.{eighths_of}
use Rattle.part.specs.declared.ChannelId.{ChannelId}
use Rattle.part.specs.declared.ChannelId.TheVariants.{Local, Remote1, Remote2}
use Rattle.rules.specs.Fields.{offset_degrees, offset_subtracts}
use Rattle.rules.specs.Offsets.{measured_z}

-- 1022 for local, else 1023
abbrev pub top_of : ChannelId → ℕ
top_of Local = 2046
top_of Remote1 = 2047
top_of Remote2 = 2047

-- eight times the degrees of an offset subtracted or added, by its sign; less than 0 is 0, which is -1024
abbrev pub shifted_of : (offset sample : ℕ) → ℕ
shifted_of offset sample = cond (offset_subtracts offset) (sample - 8 * offset_degrees offset) (sample + 8 * offset_degrees offset)

unfoldable pub measured_of : ChannelId → (offset sample : ℕ) → ℕ
measured_of c offset sample = min (top_of c) (shifted_of offset sample)

-- what is held stands for the reading of the rules, for every offset byte and every sample in the range
abbrev pub FaithfulOffset : Type 0
FaithfulOffset =
    (c : ChannelId) (offset : ℕ) (t : ℤ) (sample : ℕ) → eighths_of t ≡ Some sample →
    eighths_of (measured_z c offset t) ≡ Some (measured_of c offset sample)
