use Rattle.buffer.proofs.TextLaws.{then, end_then, first_room, next_room}
use Rattle.report.specs.Report.{duty_text}
use Rattle.report.proofs.put_duties.Goals as goal

pub put_line-a-requires : goal.put_line-a-requires
unfolding duty_text
put_line-a-requires c = search first_room

pub put_line-requires : goal.put_line-requires
unfolding duty_text
put_line-requires c = search next_room

pub returns : goal.returns
unfolding duty_text
returns c = record { value = search end_then; buf_after = search then }
