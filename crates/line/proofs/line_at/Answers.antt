use borrow.Author.Rules.{rules}
use Rattle.line.proofs.Lines.{end_from, end_within, line_part, line_past, lies_past, lies_at}
use Rattle.line.proofs.line_at.Goals as goal

pub returns-then-n-at : goal.returns-then-n-at
returns-then-n-at c = (search line_past, search lies_past)

pub slice_bounds-result-count-2 : goal.slice_bounds-result-count-2
slice_bounds-result-count-2 c = search end_from

pub slice_bounds-result-start-2 : goal.slice_bounds-result-start-2
slice_bounds-result-start-2 c = search (end_from, rules)

pub slice_bounds-result-end-2 : goal.slice_bounds-result-end-2
slice_bounds-result-end-2 c = search (end_within, rules)

pub returns : goal.returns
returns c = (search line_part, search lies_at)
