use Rattle.std.proofs.Common.{arith, sym, ◌∙◌, None}
use Rattle.line.proofs.Lines.{behind}
use Rattle.trace.specs.Words.{kind_line, kind_named, named_by}
use Rattle.trace.proofs.Lines.{unended}
use Rattle.trace.proofs.Near.{near_as, near_some, near_none}
use Rattle.trace.proofs.kind_line.Goals as goal

pub returns-then-near-e : goal.returns-then-near-e
unfolding kind_line
returns-then-near-e c =
    let rest = behind c.args.text.now c.args.at c.min.result c.min.ensures in
    near_none c.args.text.now c.args.at rest _ c.min-2.ensures
    (sym (unended named_by None kind_named _ _ c.line_end-e.ensures c.if-near-e.true))

pub returns-in_err-kind : goal.returns-in_err-kind
returns-in_err-kind c =
    let rest = behind c.args.text.now c.args.at c.min.result c.min.ensures in
    let unnamed = sym c.in_err-kind.was ∙ c.kind_named.ensures in
    rw c.from_residual.ensures
    (near_none c.args.text.now c.args.at rest _ c.min-2.ensures
    (near_as c.args.text.now c.args.at rest _ c.min-2.ensures c.line_end-e.ensures c.if-near-e.false unnamed))

pub returns : goal.returns
returns c =
    let rest = behind c.args.text.now c.args.at c.min.result c.min.ensures in
    let named = sym c.in_ok-kind.was ∙ c.kind_named.ensures in
    near_some c.args.text.now c.args.at rest _ c.min-2.ensures
    (near_as c.args.text.now c.args.at rest _ c.min-2.ensures c.line_end-e.ensures c.if-near-e.false named) (omega arith)
