use Rattle.trace_writer.proofs.Laws.{short, kind_appended}
use Rattle.trace_writer.proofs.append_kind.Goals as goal

pub returns : goal.returns
returns c = record { text_after = search kind_appended; short = short c.args.k }
