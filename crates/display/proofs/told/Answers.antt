use Rattle.std.proofs.lemmas.Result.{err_from_is_err_and}
use Rattle.display.proofs.Laws.{refused, shown}
use Rattle.display.proofs.told.Goals as goal

pub returns-in_err-keeper : goal.returns-in_err-keeper
returns-in_err-keeper c =
    let p = err_from_is_err_and c.from_residual.result c.from_residual.ensures.1 in
    rw (p.1, p.2) (search (refused, c.in_err-keeper.ensures))

pub returns : goal.returns
returns c = search (shown, c.in_ok-keeper.ensures)
