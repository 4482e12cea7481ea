-- Where the events of a text end that are written again into a buffer, one behind the other from its start.
use Rattle.std.specs.Prelude.{ℕ, zero, suc, List, cond, leb, length, Result, Ok, Err}
use Rattle.trace.specs.Trace.{event_at}
use Rattle.trace.specs.declared.Misread.{Misread}
use Rattle.event.specs.declared.Event.{Event}

-- an event that ends within the room is passed; one that does not, and a wrong line, end the copy
abbrev pub copy_end_by : Result (Event × ℕ) Misread → (at room : ℕ) → (rest : ℕ → ℕ) → ℕ
copy_end_by (Ok (e, next)) at room rest = cond (leb next room) (rest next) at
copy_end_by (Err w) at room rest = at

-- from an index of the text on; k is at least the bytes left
unfoldable pub copy_end_from : (k : ℕ) → List ℕ → (at room : ℕ) → ℕ
copy_end_from zero text at room = at
copy_end_from (suc k) text at room = copy_end_by (event_at text at) at room (λ next. copy_end_from k text next room)

unfoldable pub copy_end : List ℕ → (room : ℕ) → ℕ
copy_end text room = copy_end_from (length text) text 0 room
