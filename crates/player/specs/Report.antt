-- Document 01, "Trace text and report": the report of a text, by the rules over the history.
use Rattle.std.specs.Prelude.{ℕ, zero, suc, ◌+◌, ◌*◌, ◌≤◌, List, [], ◌∷◌, ◌++◌, cond, ltb, leb, length, Result, Err, Ok}
use Rattle.event.specs.declared.Refusal.TheVariants.{WrongSize}
use Rattle.trace.specs.Trace.{event_at}
use Rattle.trace.specs.declared.Misread.{Misread}
use Rattle.event.specs.declared.Event.{Event}
use Rattle.report.specs.Report.{entry_text, answer_text, malformed_text}
use Rattle.buffer.specs.Put.{put_of, held_of}
use Rattle.event.specs.Answers.{refusal_number}
use Rattle.event.specs.declared.Refusal.{Refusal}
use Rattle.rules.specs.Replies.{History, taken}
use Rattle.rules.specs.Shows.{answer, shown}

-- what stands in the report for what was read: the event's lines and the rest, or the ending
abbrev pub lines : Result (Event × ℕ) Misread → (line : ℕ) → History → (rest : ℕ → History → List ℕ) → List ℕ
lines (Ok (e, next)) line h rest = entry_text (answer e h) (shown (taken (e ∷ h))) ++ rest next (e ∷ h)
lines (Err w) line h rest = malformed_text (line + w.line)

-- the report of the text from an index on, where line `line` starts, after the events h; k is at least the bytes left
unfoldable pub report_from : (k : ℕ) → List ℕ → (at line : ℕ) → History → List ℕ
report_from zero text at line h = []
report_from (suc k) text at line h =
    cond (leb (length text) at) [] (lines (event_at text at) line h (λ next h'. report_from k text next (line + 4) h'))

-- the whole report; empty text gives an empty report
unfoldable pub report_of : List ℕ → List ℕ
report_of text = report_from (length text) text 0 1 []

-- no report is longer than 3 bytes for each byte of text, and an ending of 26
abbrev pub Bounded : Type 0
Bounded = (text : List ℕ) → length text ≤ 65536 → length (report_of text) ≤ 3 * length text + 26

-- a text of more than 65,536 bytes is refused with 11 before any line is judged; then a buffer too short for the report
unfoldable pub replay_answer : (text buffer : List ℕ) → Result ℕ Refusal
replay_answer text buffer = cond (ltb 65536 (length text)) (Err WrongSize) (put_of buffer 0 (report_of text))

unfoldable pub replay_buffer : (text buffer : List ℕ) → List ℕ
replay_buffer text buffer = cond (ltb 65536 (length text)) buffer (held_of buffer 0 (report_of text))

-- what the program prints of a text: its report, or the number of the refusal alone
unfoldable pub printed_of : (text : List ℕ) → List ℕ
printed_of text = cond (ltb 65536 (length text)) (answer_text (refusal_number WrongSize)) (report_of text)
