use Rattle.std.proofs.Common.{rules}
use Rattle.stepper.proofs.Laws.{start_keeper, start_count, next_keeper, next_count}
use Rattle.imager.proofs.Laws.{none_kept, all_kept}
use Rattle.imager.proofs.run_all.Goals as goal

pub loop-i-init : goal.loop-i-init
loop-i-init c = (search start_keeper, search start_count)

pub returns-in_err-event : goal.returns-in_err-event
returns-in_err-event c = rw c.from_residual.ensures (search (none_kept, c.in_err-event.was))

pub loop-i-preserved : goal.loop-i-preserved
loop-i-preserved c = (search (next_keeper, c.in_ok-event.was), search (next_count, c.in_ok-event.was))

pub returns : goal.returns
returns c = search (all_kept, rules)
