use Rattle.report.specs.Report.{reply_text}
use Rattle.report.proofs.Laws.{answer_room, behind_room, behind_end, behind_put}
use Rattle.report.proofs.put_reply.Goals as goal

pub put_line-b-requires : goal.put_line-b-requires
unfolding reply_text
put_line-b-requires c = search answer_room

pub put_line-requires : goal.put_line-requires
unfolding reply_text
put_line-requires c = search behind_room

pub returns : goal.returns
unfolding reply_text
returns c = record { value = search behind_end; buf_after = search behind_put }
