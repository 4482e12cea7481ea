use Rattle.imager.proofs.Laws.{after_uneven, after_whole}
use Rattle.imager.proofs.after_all.Goals as goal

pub returns-then-numbers-gt0 : goal.returns-then-numbers-gt0
returns-then-numbers-gt0 c = search after_uneven

pub returns : goal.returns
returns c = search after_whole
