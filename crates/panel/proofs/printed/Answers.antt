use Rattle.panel.proofs.Laws.{end_is, held_is}
use Rattle.panel.proofs.printed.Goals as goal

pub returns : goal.returns
returns c = record { value = search end_is; lines_after = search held_is }
