use Rattle.replay.proofs.Laws.{end_is, held_is, refused_is, refused_held}
use borrow.Author.Rules.{rules}
use Rattle.replay.proofs.printed.Goals as goal

pub returns-in-Ok : goal.returns-in-Ok
returns-in-Ok c = record { value = search end_is; report_after = search held_is }

pub returns-in-Err : goal.returns-in-Err
returns-in-Err c = record { value = search refused_is; report_after = search refused_held }
