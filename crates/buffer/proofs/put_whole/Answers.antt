use Rattle.buffer.proofs.WholeLaws.{end_fits, put_fits, held_fits, put_refused, held_refused}
use Rattle.buffer.proofs.put_whole.Goals as goal

pub overflow_add-result : goal.overflow_add-result
overflow_add-result c = search end_fits

pub returns-then-fits : goal.returns-then-fits
returns-then-fits c = record { value = search put_fits; buf_after = search held_fits }

pub returns-else-fits : goal.returns-else-fits
returns-else-fits c = record { value = search put_refused; buf_after = search held_refused }
