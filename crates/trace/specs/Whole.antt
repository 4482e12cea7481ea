-- Document 01, "Trace text and report": the events of a whole text, or that a line of it is wrong or missing.
use Rattle.std.specs.Prelude.{ℕ, zero, suc, List, [], ◌∷◌, ◌++◌, cond, leb, length, Result, Ok, Err}
use Rattle.std.specs.Int.{w32}
use Rattle.std.proofs.Common.{SFits}
use Rattle.event.specs.Kinds.{numbers_of}
use Rattle.event.specs.declared.Event.{Event}
use Rattle.trace.specs.Trace.{event_at, event_text}
use Rattle.trace.specs.declared.Misread.{Misread}

-- the newest event first
pub data Whole : Type 0 where
  Events : List Event → Whole
  WrongLine : Whole

abbrev pub whole_by : Result (Event × ℕ) Misread → List Event → (rest : ℕ → List Event → Whole) → Whole
whole_by (Ok (e, next)) h rest = rest next (e ∷ h)
whole_by (Err w) h rest = WrongLine

-- from an index of the text on, after the events h; k is at least the bytes left
unfoldable pub events_from : (k : ℕ) → List ℕ → (at : ℕ) → List Event → Whole
events_from zero text at h = Events h
events_from (suc k) text at h = cond (leb (length text) at) (Events h) (whole_by (event_at text at) h (λ next h'. events_from k text next h'))

-- an empty text has no event
unfoldable pub events_of : List ℕ → Whole
events_of text = events_from (length text) text 0 []

-- the text that is written of events, the newest last
unfoldable pub whole_text_of : List Event → List ℕ
unfolding event_text
whole_text_of [] = []
whole_text_of (e ∷ h) = whole_text_of h ++ event_text e

-- the numbers of the events have 32 bits, as those that are read
abbrev pub Written : List Event → Type 0
Written [] = Unit {0}
Written (e ∷ h) = SFits w32 (numbers_of e).who × SFits w32 (numbers_of e).arg × SFits w32 (numbers_of e).val × Written h
