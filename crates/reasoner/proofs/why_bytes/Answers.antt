use Rattle.reasoner.proofs.Laws.{because_is, refused_is}
use Rattle.reasoner.proofs.why_bytes.Goals as goal

pub returns-in-Ok : goal.returns-in-Ok
returns-in-Ok c = search because_is

pub returns-in-Err : goal.returns-in-Err
returns-in-Err c = search refused_is
