use Rattle.buffer.proofs.WholeLaws.{put_as, held_as}
use Rattle.display.specs.Worked.{worked_told}
use Rattle.display.proofs.display.Goals as goal

pub returns-in-Ok : goal.returns-in-Ok
unfolding worked_told
returns-in-Ok c = record { value = search (put_as, c.in-Ok.ensures); buf_after = search (held_as, c.in-Ok.ensures) }

pub returns-in-Err : goal.returns-in-Err
unfolding worked_told
returns-in-Err c = record { value = search (put_as, c.in-Err.ensures); buf_after = search (held_as, c.in-Err.ensures) }
