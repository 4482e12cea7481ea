-- The first wrong line of a text, without its newline: where an event is not well-formed, the line that is not, or is missing.
use Rattle.std.specs.Prelude.{ℕ, zero, suc, List, [], cond, leb, length, Result, Ok, Err}
use Rattle.line.specs.Line.{line_at}
use Rattle.trace.specs.Trace.{event_at}
use Rattle.trace.specs.declared.Misread.{Misread}
use Rattle.event.specs.declared.Event.{Event}

-- an event is passed; a wrong line is the answer, and empty where it is missing
abbrev pub wrong_line_by : Result (Event × ℕ) Misread → (text : List ℕ) → (rest : ℕ → List ℕ) → List ℕ
wrong_line_by (Ok (e, next)) text rest = rest next
wrong_line_by (Err w) text rest = line_at text w.start

-- from an index of the text on; k is at least the bytes left
unfoldable pub wrong_line_from : (k : ℕ) → List ℕ → (at : ℕ) → List ℕ
wrong_line_from zero text at = []
wrong_line_from (suc k) text at = cond (leb (length text) at) [] (wrong_line_by (event_at text at) text (λ next. wrong_line_from k text next))

-- empty where the whole text is well-formed
unfoldable pub wrong_line : List ℕ → List ℕ
wrong_line text = wrong_line_from (length text) text 0
