use Rattle.buffer.proofs.TextLaws.{then, end_then, first_room, middle_room, last_room}
use Rattle.report.specs.Report.{entry_text}
use Rattle.report.proofs.put_lines.Goals as goal

pub put_reply-a-requires : goal.put_reply-a-requires
unfolding entry_text
put_reply-a-requires c = search first_room

pub put_pins-b-requires : goal.put_pins-b-requires
unfolding entry_text
put_pins-b-requires c = search middle_room

pub put_duties-requires : goal.put_duties-requires
unfolding entry_text
put_duties-requires c = search last_room

pub returns : goal.returns
unfolding entry_text
returns c = record { value = search end_then; buf_after = search then }
