use Rattle.report.proofs.LengthLaws.{number_sum}
use Rattle.report.proofs.number_len.Goals as goal

pub returns : goal.returns
returns c = search number_sum
