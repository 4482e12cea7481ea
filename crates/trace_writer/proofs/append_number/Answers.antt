use Rattle.trace_writer.proofs.Laws.{number_short, number_appended}
use Rattle.trace_writer.proofs.append_number.Goals as goal

pub returns : goal.returns
returns c = record { text_after = search number_appended; short = search number_short }
