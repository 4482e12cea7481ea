use Rattle.buffer.proofs.WholeLaws.{put_as, held_as}
use Rattle.report.proofs.Laws.{same_number}
use Rattle.report.proofs.put_refusal.Goals as goal

pub returns : goal.returns
returns c = record { value = search (put_as, same_number); buf_after = search (held_as, same_number) }
