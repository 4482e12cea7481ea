-- What is left of a report.
use Rattle.std.specs.Prelude.{ℕ, List}
use Rattle.trace_reader.specs.Left.{readings_left}
use Rattle.player.specs.declared.entries.Entry.{Entry}
use Rattle.player.specs.declared.entries.Entries.{Entries}
use Rattle.player.specs.Entries.{report_by, entries_by}

abbrev pub entries_left : Entries → List Entry
entries_left entries = entries_by (readings_left entries.reader) entries.line entries.keeper

abbrev pub report_left : Entries → List ℕ
report_left entries = report_by (entries_left entries)
