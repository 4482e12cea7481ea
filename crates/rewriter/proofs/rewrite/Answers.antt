use Rattle.trace_reader.proofs.Left.{all_left}
use Rattle.rewriter.proofs.Laws.{start, last, wrong, stands_there, copied, full, full_held}
use Rattle.rewriter.proofs.rewrite.Goals as goal

pub loop-reading-init : goal.loop-reading-init
loop-reading-init c = start c.args.text.now c.args.copy.now (all_left c.into_iter-reading-iterator.ensures.into_iter_gives c.new-reading-items.ensures)

pub returns-in_default : goal.returns-in_default
returns-in_default c =
    let e = wrong c.loop-reading.invariant (rw c.in_default.is at c.in-Some.ensures.steps) in
    record { value = e; copy_after = stands_there c.loop-reading.invariant e }

pub returns-in_default-put_event : goal.returns-in_default-put_event
returns-in_default-put_event c =
    let q = rw c.in-Ok.is at c.in-Some.ensures.steps in
    record {
      value = full c.loop-reading.invariant q c.put_event.ensures.value c.in_default-put_event.is;
      copy_after = full_held c.loop-reading.invariant q c.put_event.ensures.value c.in_default-put_event.is c.put_event.ensures.buf_after;
    }

pub loop-reading-preserved : goal.loop-reading-preserved
loop-reading-preserved c =
    copied c.loop-reading.invariant (rw c.in-Ok.is at c.in-Some.ensures.steps) c.put_event.ensures.value c.in-Ok-put_event.is c.put_event.ensures.buf_after

pub returns : goal.returns
returns c =
    let e = last c.loop-reading.invariant c.in-None.ensures.steps.0 in
    record { value = e; copy_after = stands_there c.loop-reading.invariant e }
