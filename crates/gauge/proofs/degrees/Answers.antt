use Rattle.std.proofs.Common.{rules}
use Rattle.gauge.proofs.Laws.{degrees_is}
use Rattle.gauge.proofs.degrees.Goals as goal

pub returns : goal.returns
returns c = search (rules, degrees_is)
