use Rattle.std.proofs.Common.{length, take, drop}
use Rattle.line.specs.Line.{same_bytes}
use Rattle.line.proofs.Lines.{behind}
use Rattle.line.proofs.Bytes.{same_symm}
use Rattle.trace.proofs.stands.Goals as goal

pub returns : goal.returns
unfolding same_bytes
returns c =
    let rest = behind c.args.text.now c.args.at c.min.result c.min.ensures in
    rw (c.starts_with.ensures.value, rest) (same_symm c.args.bytes.now (take (length c.args.bytes.now) (drop c.args.at c.args.text.now)))
