use Rattle.player.proofs.AnswerLaws.{too_long, too_long_held, too_short_lem, too_short_held, measured_room, sure_room, answered, answered_held}
use Rattle.player.proofs.replay.Goals as goal

pub returns-then-text-gt65536 : goal.returns-then-text-gt65536
returns-then-text-gt65536 c = record { value = search too_long; report_after = search too_long_held }

pub write_report-requires : goal.write_report-requires
write_report-requires c = search sure_room

pub returns-then-text-report : goal.returns-then-text-report
returns-then-text-report c = record { value = search (answered, sure_room); report_after = search (answered_held, sure_room) }

pub returns-then-report-report_len : goal.returns-then-report-report_len
returns-then-report-report_len c = record { value = search too_short_lem; report_after = search too_short_held }

pub returns : goal.returns
returns c = record { value = search (answered, measured_room); report_after = search (answered_held, measured_room) }
