use Rattle.report.proofs.LengthLaws.{width_is}
use Rattle.report.proofs.width.Goals as goal

pub returns : goal.returns
returns c = width_is c.args.v c.ranges.v c.from.ensures c.from-2.ensures
