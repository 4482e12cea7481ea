use Rattle.report.specs.Report.{malformed_text}
use Rattle.report.proofs.Laws.{answer_room, behind_room, behind_end, behind_put}
use Rattle.report.proofs.put_ending.Goals as goal

pub put_line-a-requires : goal.put_line-a-requires
unfolding malformed_text
put_line-a-requires c = search answer_room

pub put_line-requires : goal.put_line-requires
unfolding malformed_text
put_line-requires c = search behind_room

pub returns : goal.returns
unfolding malformed_text
returns c = record { value = search behind_end; buf_after = search behind_put }
