use Rattle.std.proofs.Common.{rules, ◌≡◌, ◌≢◌, ◌∙◌, drop}
use borrow.Author.Tests.{tests}
use Rattle.std.proofs.lemmas.Iterator.{YieldsList-from_slice, IsFirst-from_position}
use Rattle.line.specs.Line.{end_at, line_at}
use Rattle.line.proofs.Lines.{behind, length-first_line}
use Rattle.line.proofs.line_end.Goals as goal

pub returns : goal.returns
unfolding end_at line_at
returns c =
    let rest = behind c.args.text.now c.args.at c.min.result c.min.ensures in
    let found = IsFirst-from_position _ _ c.position.result (λ b. b ≡ 10) (λ b. b ≢ 10) c.position.ensures.ran
    (YieldsList-from_slice (drop c.args.at c.args.text.now) (c.iter.ensures.rest ∙ rest))
    (λ x q k. search (rules, tests)) (λ x q k. search (rules, tests)) in
    rw (c.unwrap_or.ensures, rest, length-first_line _ _ found)
