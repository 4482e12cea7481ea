use Rattle.std.proofs.Common.{rules}
use Rattle.decimal.proofs.ReadLaws.{run_bad, run_more, run_over, run_end}
use Rattle.decimal.proofs.digits.Goals as goal

pub returns-then-not-is_ascii_digit : goal.returns-then-not-is_ascii_digit
returns-then-not-is_ascii_digit c = search run_bad

pub returns-then-v-gt2147483648 : goal.returns-then-v-gt2147483648
returns-then-v-gt2147483648 c = search run_over

pub loop-b-preserved : goal.loop-b-preserved
loop-b-preserved c = (search rules, search run_more)

pub returns : goal.returns
returns c = search run_end
