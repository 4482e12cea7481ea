use Rattle.imager.proofs.Laws.{refused_answer, refused_left, all_answer, all_left}
use Rattle.std.proofs.lemmas.Result.{err_from_is_err_and}
use Rattle.imager.proofs.image.Goals as goal

pub returns-in_err-keeper : goal.returns-in_err-keeper
returns-in_err-keeper c =
    let p = err_from_is_err_and c.from_residual.result c.from_residual.ensures.1 in
    record { value = rw (p.1, p.2) (search (refused_answer, c.in_err-keeper.was)); buffer_after = search (refused_left, c.in_err-keeper.was) }

pub returns : goal.returns
returns c = record { value = search (all_answer, c.in_ok-keeper.was); buffer_after = search (all_left, c.in_ok-keeper.was) }
