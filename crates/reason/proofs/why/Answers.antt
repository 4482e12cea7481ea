use Rattle.std.proofs.Common.{◌∙◌, ap, w32}
use mir.ValLaws.{to_z-of_z}
use Rattle.std.proofs.lemmas.Result.{err_from_is_err_and}
use Rattle.reason.specs.Aging.{fan_numbered}
use Rattle.reason.proofs.AgingLaws.{told_off, told_none, told_fan}
use Rattle.reason.proofs.why.Goals as goal

pub returns-in_err-device : goal.returns-in_err-device
returns-in_err-device c =
    let p = err_from_is_err_and c.from_residual.result c.from_residual.ensures.1 in
    rw (p.1, p.2) (search (told_off, c.in_err-device.ensures))

pub returns-in_err-fan : goal.returns-in_err-fan
returns-in_err-fan c =
    let p = err_from_is_err_and c.from_residual-in_err-fan.result c.from_residual-in_err-fan.ensures.1 in
    let none = c.in_err-fan.ensures ∙ ap fan_numbered (to_z-of_z w32 c.args.fan c.ranges.fan) in
    rw (p.1, p.2) (search (told_none, c.in_ok-device.ensures, none))

pub returns : goal.returns
returns c =
    let some = c.in_ok-fan.ensures ∙ ap fan_numbered (to_z-of_z w32 c.args.fan c.ranges.fan) in
    rw c.explained.ensures (search (told_fan, c.in_ok-device.ensures, some))
