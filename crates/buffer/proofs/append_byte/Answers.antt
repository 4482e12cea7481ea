use Rattle.std.proofs.Common.{rules}
use Rattle.buffer.proofs.AppendLaws.{append_full, append_room}
use Rattle.buffer.proofs.append_byte.Goals as goal

pub returns-then-not-is_full : goal.returns-then-not-is_full
returns-then-not-is_full c = search (append_room, rules)

pub returns-else-not-is_full : goal.returns-else-not-is_full
returns-else-not-is_full c = search (append_full, rules)
