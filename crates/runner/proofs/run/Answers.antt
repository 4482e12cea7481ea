use Rattle.trace_reader.proofs.Left.{all_left}
use Rattle.runner.proofs.Laws.{step_start, step_end, step_wrong, step_event}
use Rattle.runner.proofs.run.Goals as goal

pub loop-reading-init : goal.loop-reading-init
loop-reading-init c =
    step_start c.args.text.now (all_left c.into_iter-reading-iterator.ensures.into_iter_gives c.new-reading-items.ensures) c.off-k.ensures

pub returns-in_default : goal.returns-in_default
returns-in_default c = step_wrong c.loop-reading.invariant (rw c.in_default.is at c.in-Some.ensures.steps)

pub loop-reading-preserved : goal.loop-reading-preserved
loop-reading-preserved c = step_event c.loop-reading.invariant (rw c.in-Ok.is at c.in-Some.ensures.steps) c.step-k.ensures

pub returns : goal.returns
returns c = step_end c.loop-reading.invariant c.in-None.ensures.steps.0
