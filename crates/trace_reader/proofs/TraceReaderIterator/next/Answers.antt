use Rattle.std.proofs.Common.{rules}
use Rattle.trace_reader.proofs.Left.{none_left, event_left, wrong_left}
use Rattle.trace_reader.proofs.TraceReaderIterator.next.Goals as goal

pub returns-then-self-clause-steps : goal.returns-then-self-clause-steps
returns-then-self-clause-steps c = (search none_left, search none_left)

pub returns-in-Ok-clause-steps : goal.returns-in-Ok-clause-steps
returns-in-Ok-clause-steps c = search event_left

pub returns-in-Ok-clause-goes : goal.returns-in-Ok-clause-goes
returns-in-Ok-clause-goes c =
    let e = event_left c.args.self.now.text.now c.args.self.now.at c.read.ensures c.if-self.false _ _ c.in-Ok.is in
    search (rules, e)

pub returns-in-Err-clause-steps : goal.returns-in-Err-clause-steps
returns-in-Err-clause-steps c = search wrong_left

pub returns-in-Err-clause-goes : goal.returns-in-Err-clause-goes
returns-in-Err-clause-goes c =
    let e = wrong_left c.args.self.now.text.now c.args.self.now.at c.read.ensures c.if-self.false _ c.in-Err.is in
    search (rules, e)
