use native.Mathlib.Omega.{arith}
use Rattle.report.proofs.LengthLaws.{entry_sum}
use Rattle.report.proofs.entry_len.Goals as goal

pub returns : goal.returns
returns c = (search entry_sum, omega arith)
