use Rattle.runner.proofs.LinesLaws.{last_long, last_judged}
use Rattle.runner.proofs.after_last.Goals as goal

pub returns-then-text-gt65536 : goal.returns-then-text-gt65536
returns-then-text-gt65536 c = search last_long

pub returns : goal.returns
returns c = search last_judged
