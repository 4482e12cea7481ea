-- The report of a text by its events, those of `events_of` (document 01, "Trace text and report").
use Rattle.std.specs.Prelude.{ℕ, ◌+◌, ◌*◌, ◌≡◌, List, [], ◌∷◌, ◌++◌, length, Err}
use Rattle.rules.specs.Replies.{History, taken}
use Rattle.rules.specs.Shows.{answer, shown}
use Rattle.trace.specs.Trace.{event_at}
use Rattle.trace.specs.Whole.{Events, WrongLine, events_of, whole_text_of}
use Rattle.report.specs.Report.{entry_text, malformed_text}
use Rattle.player.specs.Report.{report_of}

-- the lines of events, those of the newest last
unfoldable pub entries_of : History → List ℕ
unfolding entry_text
entries_of [] = []
entries_of (e ∷ h) = entries_of h ++ entry_text (answer e h) (shown (taken (e ∷ h)))

-- the text begins with that of some events; of the next one a line, 0 to 3, is the first that is wrong or missing
pub record Stops (text : List ℕ) : Type 0 where
  pub before : History
  pub rest : List ℕ
  pub line : ℕ
  pub start : ℕ
  pub begins : text ≡ whole_text_of before ++ rest
  pub wrong : event_at text (length (whole_text_of before)) ≡ Err (record { line = line; start = start })
  -- the lines of those events, and then the number of that line, counted from 1
  pub report : report_of text ≡ entries_of before ++ malformed_text (1 + 4 * length before + line)

pub record Reported (text : List ℕ) : Type 0 where
  -- the events of a text, and nothing else
  pub events : (h : History) → events_of text ≡ Events h → report_of text ≡ entries_of h
  pub malformed : events_of text ≡ WrongLine → Stops text
