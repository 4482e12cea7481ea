use mir.Syntax.{w32}
use mir.ValLaws.{to_z-of_z}
use Rattle.decimal.proofs.Laws.{text_width}
use Rattle.buffer.proofs.AppendLaws.{aside_room, aside_counted, aside_append}
use Rattle.buffer.proofs.append_signed.Goals as goal

pub slice_bounds-sign_and_digits-end : goal.slice_bounds-sign_and_digits-end
slice_bounds-sign_and_digits-end c =
    let p = rw (to_z-of_z w32 c.args.v c.ranges.v) at c.put_signed-end.ensures in
    aside_room _ _ p.buf_after p.value (text_width c.args.v c.ranges.v)

pub slice_bounds-append-end : goal.slice_bounds-append-end
slice_bounds-append-end c =
    let p = rw (to_z-of_z w32 c.args.v c.ranges.v) at c.put_signed-end.ensures in
    aside_counted _ _ p.buf_after p.value (text_width c.args.v c.ranges.v)

pub returns : goal.returns
returns c =
    let p = rw (to_z-of_z w32 c.args.v c.ranges.v) at c.put_signed-end.ensures in
    aside_append _ _ p.buf_after p.value (text_width c.args.v c.ranges.v) _ c.append.ensures
