use Rattle.buffer.proofs.TextLaws.{then, end_then, first_room, middle_room, last_room}
use Rattle.report.specs.Report.{pin_text}
use Rattle.report.proofs.put_pins.Goals as goal

pub put_line-a-requires : goal.put_line-a-requires
unfolding pin_text
put_line-a-requires c = search first_room

pub put_line-b-requires : goal.put_line-b-requires
unfolding pin_text
put_line-b-requires c = search middle_room

pub put_line-requires : goal.put_line-requires
unfolding pin_text
put_line-requires c = search last_room

pub returns : goal.returns
unfolding pin_text
returns c = record { value = search end_then; buf_after = search then }
