use Rattle.gauge.proofs.Laws.{turns}
use Rattle.gauge.proofs.speed.Goals as goal

pub returns-in_default : goal.returns-in_default
returns-in_default c = search turns
