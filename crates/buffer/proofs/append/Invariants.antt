use Rattle.std.proofs.Common.{◌≡◌, take}
use Rattle.buffer.specs.Append.{appended}
use Rattle.buffer.proofs.append.Given as goal

abbrev pub invariant-loop-byte : goal.invariant-loop-byte
invariant-loop-byte l = l.text.items ≡ appended l.fn.text.items (take l.byte-index l.bytes)
