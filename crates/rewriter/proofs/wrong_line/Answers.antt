use Rattle.std.proofs.Common.{refl}
use Rattle.trace_reader.proofs.Left.{all_left}
use Rattle.rewriter.proofs.Search.{start, none_put, none_held}
use Rattle.rewriter.proofs.wrong_line.Goals as goal

pub loop-reading-init : goal.loop-reading-init
loop-reading-init c = (refl, start c.args.text.now (all_left c.into_iter-reading-iterator.ensures.into_iter_gives c.new-reading-items.ensures))

pub returns-clause-value : goal.returns-clause-value
returns-clause-value c = none_put c.args.text.now c.args.line.now c.loop-reading.invariant.0 c.loop-reading.invariant.1 c.in-None.ensures.steps.0

pub returns-clause-line_after : goal.returns-clause-line_after
returns-clause-line_after c = none_held c.args.text.now c.args.line.now c.loop-reading.invariant.0 c.loop-reading.invariant.1 c.in-None.ensures.steps.0
