use Rattle.display.proofs.LineLaws.{short_is}
use Rattle.display.proofs.lines.is_short.Goals as goal

pub returns : goal.returns
returns c = search short_is
