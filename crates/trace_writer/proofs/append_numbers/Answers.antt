use Rattle.trace_writer.proofs.Laws.{numbers_short, numbers_appended}
use Rattle.trace_writer.proofs.append_numbers.Goals as goal

pub returns : goal.returns
returns c = record { text_after = search numbers_appended; short = search numbers_short }
