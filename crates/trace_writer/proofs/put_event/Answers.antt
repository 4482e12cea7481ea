use Rattle.buffer.proofs.WholeLaws.{put_as, held_as}
use Rattle.trace_writer.proofs.Laws.{event_appended}
use Rattle.trace_writer.proofs.put_event.Goals as goal

pub returns : goal.returns
returns c = record { value = search (put_as, event_appended); buf_after = search (held_as, event_appended) }
