use Rattle.std.proofs.lemmas.Result.{err_from_is_err_and}
use Rattle.explainer.proofs.Laws.{refused, told_first, told_second, told_both}
use Rattle.explainer.proofs.told.Goals as goal

pub returns-in_err-keeper : goal.returns-in_err-keeper
returns-in_err-keeper c =
    let p = err_from_is_err_and c.from_residual.result c.from_residual.ensures.1 in
    rw (p.1, p.2) (search (refused, c.in_err-keeper.ensures))

pub returns-in_err-one : goal.returns-in_err-one
returns-in_err-one c =
    let p = err_from_is_err_and c.from_residual-in_err-one.result c.from_residual-in_err-one.ensures.1 in
    rw (p.1, p.2) (search (told_first, c.in_ok-keeper.ensures, c.in_err-one.ensures))

pub returns-in_err-two : goal.returns-in_err-two
returns-in_err-two c =
    let p = err_from_is_err_and c.from_residual-in_err-two.result c.from_residual-in_err-two.ensures.1 in
    rw (p.1, p.2) (search (told_second, c.in_ok-keeper.ensures, c.in_ok-one.ensures, c.in_err-two.ensures))

pub returns : goal.returns
returns c = search (told_both, c.in_ok-keeper.ensures, c.in_ok-one.ensures, c.in_ok-two.ensures)
