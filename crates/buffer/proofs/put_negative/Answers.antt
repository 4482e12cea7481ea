use Rattle.buffer.proofs.TextLaws.{one_fits, past_put, cons_put, cons_length}
use Rattle.buffer.proofs.put_negative.Goals as goal

pub overflow_add-result : goal.overflow_add-result
overflow_add-result c = search one_fits

pub returns-then-buf-at-clause-buf_after : goal.returns-then-buf-at-clause-buf_after
returns-then-buf-at-clause-buf_after c = search past_put

pub overflow_add-result-2 : goal.overflow_add-result-2
overflow_add-result-2 c = search one_fits

pub shape_of-buf : goal.shape_of-buf
shape_of-buf c = search cons_length

pub returns-clause-buf_after : goal.returns-clause-buf_after
returns-clause-buf_after c = search cons_put
