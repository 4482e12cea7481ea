use Rattle.std.proofs.Common.{rules}
use Rattle.buffer.proofs.AppendLaws.{append_none, append_full, append_more, append_end}
use Rattle.buffer.proofs.append.Goals as goal

pub returns-then-is_full : goal.returns-then-is_full
returns-then-is_full c = search (append_full, rules)

pub loop-byte-init : goal.loop-byte-init
loop-byte-init c = search (append_none, rules)

pub loop-byte-preserved : goal.loop-byte-preserved
loop-byte-preserved c = search append_more

pub returns : goal.returns
returns c = search append_end
