-- Events as four numbers each (the kind's place in document 01's table from 0, who, arg, val), and outcomes as seven bytes each, by the rules over the history.
use Rattle.std.specs.Prelude.{◌≡◌, ◌≤◌}
use Rattle.std.specs.Borrow.{MutBor}
use Rattle.std.specs.Prelude.{ℕ, zero, suc, ◌+◌, ◌*◌, ◌/◌, ◌%◌, List, [], ◌∷◌, ◌++◌, Bool, true, false, cond, ◌&&◌, eqb, ltb, leb, ℤ, pos, length, get_or}
use Rattle.std.specs.Prelude.{Option, Some, None, Result, Ok, Err}
use Rattle.std.proofs.lemmas.List.Edits.{sets}
use Rattle.integer.specs.Range.{below_of}
use Rattle.event.specs.declared.Refusal.{Refusal}
use Rattle.event.specs.Kinds.{kinds, kind_at, event_of}
use Rattle.event.specs.Answers.{number_of, data_of}
use Rattle.event.specs.declared.Numbers.{Numbers}
use Rattle.event.specs.declared.Event as event
use Rattle.event.specs.declared.Shown.{Shown}
use Rattle.event.specs.declared.Refusal.TheVariants.{WrongSize}
use Rattle.rules.specs.Replies.{History, taken}
use Rattle.rules.specs.Shows.{answer, shown}
use Rattle.keeper.specs.Keeping.{outcome_of}
use Rattle.keeper.specs.declared.Outcome.{Outcome}
use Rattle.history.specs.Agreement.{run}

-- ---- events

-- an event of the kind at a place of the table
abbrev pub event_by : Option ℕ → Numbers → Option event.Event
event_by (Some place) n = Some (event_of (kind_at place) n)
event_by None n = None

unfoldable pub event_from : (kind : ℤ) → Numbers → Option event.Event
event_from v n = event_by (below_of v (length kinds)) n

-- event number i of a list of numbers
unfoldable pub event_numbered : List ℤ → (i : ℕ) → Option event.Event
event_numbered s i =
    cond (ltb i (length s / 4))
    (event_from (get_or s (4 * i) (pos 0)) (record {
      who = get_or s (4 * i + 1) (pos 0);
      arg = get_or s (4 * i + 2) (pos 0);
      val = get_or s (4 * i + 3) (pos 0);
    }))
    None

abbrev pub is_event : Option event.Event → Bool
is_event (Some e) = true
is_event None = false

-- how many events there are, of those before i and at most `left` more: up to the first that is none
unfoldable pub event_count_from : (left i : ℕ) → List ℤ → ℕ
event_count_from zero i s = i
event_count_from (suc left) i s = cond (is_event (event_numbered s i)) (event_count_from left (suc i) s) i

unfoldable pub event_count : List ℤ → ℕ
event_count s = event_count_from (length s / 4) 0 s

abbrev pub and_before : Option event.Event → History → History
and_before (Some e) h = e ∷ h
and_before None h = h

-- the first n events
unfoldable pub first_events : (n : ℕ) → List ℤ → History
first_events zero s = []
first_events (suc i) s = and_before (event_numbered s i) (first_events i s)

-- ---- bytes for each event

-- what is put of the first n events, one behind the other: each by the event and those before it
abbrev pub bytes_at : {A : Type 0} → (each : event.Event → History → List A) → Option event.Event → History → List A
bytes_at each (Some e) h = each e h
bytes_at each None h = []

unfoldable pub bytes_of : {A : Type 0} → (each : event.Event → History → List A) → (n : ℕ) → List ℤ → List A
bytes_of each zero s = []
bytes_of each (suc i) s = bytes_of each i s ++ bytes_at each (event_numbered s i) (first_events i s)

-- the numbers are whole events, and there is room in the buffer d for so many bytes of each
abbrev pub well_sized : {A : Type 0} (width : ℕ) (s : List ℤ) (d : List A) → Bool
well_sized width s d = eqb (length s % 4) 0 && leb (width * (length s / 4)) (length d)

-- where the bytes end in the buffer; or 11, and the buffer as it was
unfoldable pub bytes_answer : {A : Type 0} (width : ℕ) (s : List ℤ) (d : List A) → Result ℕ Refusal
bytes_answer width s d = cond (well_sized width s d) (Ok (width * event_count s)) (Err WrongSize)

unfoldable pub bytes_buffer : {A : Type 0} (width : ℕ) (each : event.Event → History → List A) (s : List ℤ) (d : List A) → List A
bytes_buffer width each s d = cond (well_sized width s d) (sets d 0 (bytes_of each (event_count s) s)) d

-- an outcome may be put wherever its bytes have room
abbrev pub CanPut : {A : Type 0} → (pre : Outcome → MutBor (List A) → ℕ → Type 0) → (width : ℕ) → Type 0
CanPut {A} pre width = (o : Outcome) (buffer : MutBor (List A)) (at : ℕ) → at + width ≤ length buffer.now → pre o buffer at

-- what is put of an outcome is, after each list of events, what a rule says: so many bytes
pub record Puts {A : Type 0} (post : Outcome → MutBor (List A) → ℕ → Unit {0} → MutBor (List A) → Type 0) (width : ℕ) (each : event.Event → History → List A)
    : Type 0 where
  pub size : (e : event.Event) (h : History) → length (each e h) ≡ width
  pub put : (e : event.Event) (h : History) (old new : MutBor (List A)) (at : ℕ) → post (outcome_of (run h) e) old at tt new →
      new.now ≡ sets old.now at (each e h)

-- ---- outcomes: answer, data, INT, THERM, FAN_FAULT, both duties

abbrev pub outcome_bytes : Result ℕ Refusal → Shown → List ℕ
outcome_bytes a s = number_of a ∷ data_of a ∷ s.int ∷ s.therm ∷ s.fault ∷ s.duty1 ∷ s.duty2 ∷ []

-- what the rules say of the next event
abbrev pub outcome_after : event.Event → History → List ℕ
outcome_after e h = outcome_bytes (answer e h) (shown (taken (e ∷ h)))

unfoldable pub steps_answer : (s : List ℤ) (d : List ℕ) → Result ℕ Refusal
steps_answer s d = bytes_answer 7 s d

unfoldable pub steps_buffer : (s : List ℤ) (d : List ℕ) → List ℕ
steps_buffer s d = bytes_buffer 7 outcome_after s d
