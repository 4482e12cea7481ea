use Rattle.std.proofs.Common.{rules}
use Rattle.line.specs.Line.{same_bytes}
use Rattle.line.proofs.same.Goals as goal

pub returns : goal.returns
unfolding same_bytes
returns c = search rules
