use Rattle.buffer.proofs.WholeLaws.{whole_room, put_fits, held_fits, put_refused, held_refused}
use Rattle.report.proofs.put_entry.Goals as goal

pub put_lines-requires : goal.put_lines-requires
put_lines-requires c = search whole_room

pub returns-then-fits : goal.returns-then-fits
returns-then-fits c = record { value = search put_fits; buf_after = search held_fits }

pub returns-else-fits : goal.returns-else-fits
returns-else-fits c = record { value = search put_refused; buf_after = search held_refused }
