use Rattle.line.proofs.Lines.{behind, end_from}
use Rattle.trace.proofs.Numbers.{digit_given, decimal_unended, decimal_given, decimal_malformed}
use borrow.Author.Rules.{rules}
use Rattle.trace.proofs.decimal_line.Goals as goal

pub returns-then-text-e : goal.returns-then-text-e
returns-then-text-e c = search decimal_unended

pub slice_bounds-read_decimal-count : goal.slice_bounds-read_decimal-count
slice_bounds-read_decimal-count c = search end_from

pub slice_bounds-read_decimal-start : goal.slice_bounds-read_decimal-start
slice_bounds-read_decimal-start c = search (end_from, rules)

pub returns : goal.returns
returns c = search (decimal_given, c.in_ok-v.was)

pub returns-in_err-v : goal.returns-in_err-v
returns-in_err-v c = rw c.from_residual.ensures (search (decimal_malformed, c.in_err-v.was))

pub returns-in-48-to-57 : goal.returns-in-48-to-57
returns-in-48-to-57 c =
    let rest = behind c.args.text.now c.args.at c.min.result c.min.ensures in
    search (digit_given c.args.text.now c.args.at rest, rules)
