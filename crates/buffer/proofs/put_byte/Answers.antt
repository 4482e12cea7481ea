use Rattle.buffer.proofs.TextLaws.{past}
use native.Mathlib.Omega.{arith}
use Rattle.buffer.proofs.put_byte.Goals as goal

pub returns-else-skip-len : goal.returns-else-skip-len
returns-else-skip-len c = past _ _ _ (omega arith)

pub returns-else-at-len : goal.returns-else-at-len
returns-else-at-len c = past _ _ _ (omega arith)
