use native.Mathlib.Omega.{arith}
use Rattle.decimal.proofs.Laws.{word_width}
use Rattle.report.proofs.LengthLaws.{malformed_sum}
use Rattle.report.proofs.malformed_len.Goals as goal

pub overflow_add-result : goal.overflow_add-result
overflow_add-result c = omega (arith, word_width c.args.line c.ranges.line)

pub returns : goal.returns
returns c = (search malformed_sum, omega (arith, word_width c.args.line c.ranges.line))
