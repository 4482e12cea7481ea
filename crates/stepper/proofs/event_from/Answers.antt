use Rattle.stepper.proofs.Laws.{is_event_lem, is_none}
use Rattle.stepper.proofs.event_from.Goals as goal

pub returns : goal.returns
returns c = search (is_event_lem, c.in_ok-place.was)

pub returns-in_err-place : goal.returns-in_err-place
returns-in_err-place c = rw c.from_residual.ensures (search (is_none, c.in_err-place.was))
