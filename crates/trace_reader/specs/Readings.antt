-- What is read of a text from an index on: its events, and then its first wrong line, if it has one.
use Rattle.std.specs.Prelude.{ℕ, zero, suc, ◌-◌, List, [], ◌∷◌, cond, leb, length, Result, Ok, Err}
use Rattle.event.specs.declared.Event.{Event}
use Rattle.trace.specs.Trace.{event_at}
use Rattle.trace.specs.Whole.{Whole, Events, WrongLine}
use Rattle.trace.specs.declared.Misread.{Misread}

abbrev pub reading_then : Result (Event × ℕ) Misread → (rest : ℕ → List (Result Event Misread)) → List (Result Event Misread)
reading_then (Ok (e, next)) rest = Ok e ∷ rest next
reading_then (Err misread) rest = Err misread ∷ []

-- k is at least the bytes left
unfoldable pub readings_within : (k : ℕ) → List ℕ → ℕ → List (Result Event Misread)
readings_within zero text at = []
readings_within (suc k) text at = cond (leb (length text) at) [] (reading_then (event_at text at) (readings_within k text))

unfoldable pub readings_from : List ℕ → ℕ → List (Result Event Misread)
unfolding readings_within
readings_from text at = readings_within (length text - at) text at

-- the events of a whole text, the newest first, behind the events h
abbrev pub whole_as_read : List (Result Event Misread) → List Event → Whole
whole_as_read [] h = Events h
whole_as_read (Ok e ∷ readings) h = whole_as_read readings (e ∷ h)
whole_as_read (Err misread ∷ readings) h = WrongLine
