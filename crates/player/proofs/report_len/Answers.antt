use Rattle.std.proofs.Common.{ap}
use Rattle.trace_reader.specs.Left.{readings_left}
use Rattle.player.specs.Left.{entries_left}
use Rattle.player.proofs.PlayedLaws.{measured_start}
use Rattle.player.proofs.report_len.Goals as goal

pub loop-entry-init : goal.loop-entry-init
loop-entry-init c =
    let entries = c.args.entries in
    measured_start (readings_left entries.reader) entries.line entries.keeper entries.in_range
    (ap entries_left c.into_iter-entry-iterator.ensures.into_iter_gives)
