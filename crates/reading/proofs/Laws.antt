-- Readings and bytes turn into each other without loss. Assumes nothing.
use Prim.Native.Nat.{ℕ, ◌*◌, ◌<◌}
use mathlib.Core.Path.{◌≡◌}
use native.Mathlib.Omega.{arith}
use Rattle.part.specs.declared.ChannelId.{ChannelId}
use Rattle.part.specs.declared.ChannelId.TheVariants.{Local, Remote1, Remote2}
use Rattle.reading.specs.Reading.{extended_of, remainder_in}
use Rattle.reading.specs.Faithful.{chosen, Lossless}

remainders :
    (c : ChannelId) (q remote1 remote2 : ℕ) → q < 4 → remote1 < 8 → remote2 < 8 →
    remainder_in c (extended_of (2 * q) remote1 remote2) ≡ chosen c (2 * q) remote1 remote2
remainders Local q a b h h1 h2 = omega arith
remainders Remote1 q a b h h1 h2 = omega arith
remainders Remote2 q a b h h1 h2 = omega arith

pub lossless : Lossless
lossless =
    record {
      reading = λ r h. omega arith;
      byte = λ b e h h'. omega arith;
      remainder = λ b e h h'. omega arith;
      remainders = remainders;
      extended = λ b h. omega arith;
    }
