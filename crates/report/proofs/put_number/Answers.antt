use Rattle.buffer.proofs.WholeLaws.{whole_room, put_fits, held_fits, put_refused, held_refused}
use Rattle.report.specs.Report.{answer_text}
use Rattle.report.proofs.put_number.Goals as goal

pub put_line-requires : goal.put_line-requires
unfolding answer_text
put_line-requires c = search whole_room

pub returns-then-fits : goal.returns-then-fits
unfolding answer_text
returns-then-fits c = record { value = search put_fits; buf_after = search held_fits }

pub returns-else-fits : goal.returns-else-fits
returns-else-fits c = record { value = search put_refused; buf_after = search held_refused }
