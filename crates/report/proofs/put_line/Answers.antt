use native.Mathlib.Omega.{arith}
use lib.ListN.{length-set}
use Rattle.report.proofs.Laws.{name_room, digits_room, newline_room, line_fits, field_end, field_put}
use Rattle.report.proofs.put_line.Goals as goal

pub put_name-requires : goal.put_name-requires
put_name-requires c = search name_room

pub put_digits-e-requires : goal.put_digits-e-requires
put_digits-e-requires c = search digits_room

pub bounds-buf-e : goal.bounds-buf-e
bounds-buf-e c = search newline_room

pub overflow_add-result : goal.overflow_add-result
overflow_add-result c = search line_fits

pub shape_of-buf : goal.shape_of-buf
shape_of-buf c = simp length-set (omega arith)

pub returns : goal.returns
returns c = record { value = search field_end; buf_after = search field_put }
