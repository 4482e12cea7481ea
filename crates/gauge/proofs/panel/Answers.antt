use Rattle.std.proofs.lemmas.Result.{err_from_is_err_and}
use Rattle.gauge.proofs.Laws.{panel_off, panel_on}
use Rattle.gauge.proofs.panel.Goals as goal

pub returns-in_err-device : goal.returns-in_err-device
returns-in_err-device c =
    let p = err_from_is_err_and c.from_residual.result c.from_residual.ensures.1 in
    rw (p.1, p.2) (search (panel_off, c.in_err-device.ensures))

pub returns : goal.returns
returns c = search (panel_on, c.in_ok-device.ensures)
