use Rattle.buffer.proofs.WholeLaws.{put_as, held_as}
use Rattle.display.proofs.LengthLaws.{lines_appended}
use Rattle.display.proofs.lines.put_panel.Goals as goal

pub returns : goal.returns
returns c = record { value = search (put_as, lines_appended); buf_after = search (held_as, lines_appended) }
