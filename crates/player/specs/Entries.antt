-- The entries of a report, by stepping a keeper over what is read of a text.
use Rattle.std.specs.Prelude.{ℕ, ◌+◌, List, [], ◌∷◌, ◌++◌, Result, Ok, Err}
use Rattle.event.specs.declared.Event.{Event}
use Rattle.trace.specs.declared.Misread.{Misread}
use Rattle.report.specs.Report.{entry_text, malformed_text}
use Rattle.keeper.specs.Keeping.{outcome_of}
use Rattle.keeper.specs.declared.Keeper.{Keeper}
use Rattle.player.specs.declared.entries.Entry.{Entry}
use Rattle.player.specs.declared.entries.Entry.TheVariants.{Answered, Malformed}

-- the lines of an entry, and of entries one behind the other
abbrev pub entry_bytes : Entry → List ℕ
entry_bytes (Answered a s) = entry_text a s
entry_bytes (Malformed line) = malformed_text line

abbrev pub report_by : List Entry → List ℕ
report_by [] = []
report_by (entry ∷ entries) = entry_bytes entry ++ report_by entries

-- the text that is left to read starts at line `line`
abbrev pub entries_by : List (Result Event Misread) → (line : ℕ) → Keeper → List Entry
entries_by [] line k = []
entries_by (Ok e ∷ left) line k = Answered (outcome_of k e).answer (outcome_of k e).shown ∷ entries_by left (line + 4) (outcome_of k e).keeper
entries_by (Err w ∷ left) line k = Malformed (line + w.line) ∷ entries_by left line k
