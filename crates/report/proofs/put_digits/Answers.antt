use native.Mathlib.Omega.{arith}
use Rattle.report.proofs.Laws.{one_room, two_room, three_room, rest_room, one_end, two_end, three_end, one_put, two_put, three_put}
use Rattle.report.proofs.put_digits.Goals as goal

pub put_digit-requires : goal.put_digit-requires
put_digit-requires c = (omega arith, search one_room)

pub returns-then-v-lt10 : goal.returns-then-v-lt10
returns-then-v-lt10 c = record { value = search one_end; buf_after = search one_put }

pub put_pair-requires : goal.put_pair-requires
put_pair-requires c = (omega arith, search two_room)

pub returns-then-v-lt100 : goal.returns-then-v-lt100
returns-then-v-lt100 c = record { value = search two_end; buf_after = search two_put }

pub put_digit-a-requires : goal.put_digit-a-requires
put_digit-a-requires c = (omega arith, search three_room)

pub put_pair-requires-then-v-lt1000 : goal.put_pair-requires-then-v-lt1000
put_pair-requires-then-v-lt1000 c = (omega arith, search rest_room)

pub returns-then-v-lt1000 : goal.returns-then-v-lt1000
returns-then-v-lt1000 c = record { value = search three_end; buf_after = search three_put }
