use Rattle.buffer.proofs.TextLaws.{copy_more, copy_end_lem}
use Rattle.report.proofs.put_name.Goals as goal

pub loop-skip-preserved : goal.loop-skip-preserved
loop-skip-preserved c = search copy_more

pub returns : goal.returns
returns c = search copy_end_lem
