-- The bits of a status byte that count for INT. Assumes nothing.
use Prim.Native.Nat.{ℕ}
use mathlib.Core.Bool.{Bool, false}
use mathlib.Core.Path.{◌≡◌}
use lib.Bits.{bit_and}
use lib.Dec.{ltb}
use Rattle.output.specs.Outputs.{pending_in}

pub pending_off : (on : Bool) (status : ℕ) → on ≡ false → ltb 0 (bit_and status 0xDF) ≡ pending_in on status
pending_off on status t = rw t
