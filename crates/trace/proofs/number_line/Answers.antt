use Rattle.trace.proofs.Numbers.{number_behind, behind_fits, number_other}
use borrow.Author.Rules.{rules}
use Rattle.trace.proofs.number_line.Goals as goal

pub overflow_add-at : goal.overflow_add-at
overflow_add-at c = search (behind_fits, rules)

pub returns-then-stands : goal.returns-then-stands
returns-then-stands c = search number_behind

pub returns-else-stands : goal.returns-else-stands
returns-else-stands c = search number_other
