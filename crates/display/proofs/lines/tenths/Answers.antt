use Rattle.display.proofs.LineLaws.{tenths_is}
use Rattle.display.proofs.lines.tenths.Goals as goal

pub returns : goal.returns
returns c = search tenths_is
