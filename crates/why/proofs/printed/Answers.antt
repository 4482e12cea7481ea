use Rattle.why.proofs.Laws.{end_is, held_is}
use Rattle.why.proofs.printed.Goals as goal

pub returns : goal.returns
returns c = record { value = search end_is; lines_after = search held_is }
