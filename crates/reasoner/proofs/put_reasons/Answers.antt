use Rattle.reasoner.proofs.Laws.{both_put}
use Rattle.reasoner.proofs.put_reasons.Goals as goal

pub returns : goal.returns
returns c =
    both_put _ _ c.args.reasons.now c.args.at (rw c.why.ensures at c.why_bytes.ensures) (rw c.why-2.ensures at c.why_bytes-2.ensures)
    c.put_bytes.ensures c.put_bytes-2.ensures
