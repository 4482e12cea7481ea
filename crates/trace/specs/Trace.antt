-- Document 01, "Trace text and report": four lines an event, kind=, who=, arg=, val=, each ended by a newline.
use Rattle.std.specs.Prelude.{ℕ, ◌+◌, List, [], ◌∷◌, ◌++◌, cond, ltb, ℤ, length, take, drop, Option, Some, None, Result, Ok, Err}
use Rattle.decimal.specs.Decimal.{parse_of, text_of}
use Rattle.event.specs.declared.Event.{Event}
use Rattle.event.specs.declared.Numbers.{Numbers}
use Rattle.event.specs.declared.Kind.{Kind}
use Rattle.event.specs.Kinds.{kind_of, numbers_of, event_of}
use Rattle.line.specs.Line.{same_bytes, line_at, end_at}
use Rattle.trace.specs.Words.{kind_text, who_name, arg_name, val_name, kind_line}
use Rattle.trace.specs.declared.Misread.{Misread}

-- ---- reading

-- the decimal behind a name on a line without its newline
unfoldable pub number_named : (name line : List ℕ) → Option ℤ
unfolding same_bytes parse_of
number_named name line = cond (same_bytes (take (length name) line) name) (parse_of (drop (length name) line)) None

abbrev pub given_by : (next : ℕ) → Option ℤ → Option (ℤ × ℕ)
given_by next (Some z) = Some (z, next)
given_by next None = None

-- the line at an index as a name and a decimal, ended by a newline
unfoldable pub number_line : (name text : List ℕ) → ℕ → Option (ℤ × ℕ)
unfolding number_named line_at end_at
number_line name text at = cond (ltb (end_at text at) (length text)) (given_by (end_at text at + 1) (number_named name (line_at text at))) None

-- the four lines, each read where the one before it ended; a wrong one by its place from 0 and its start
abbrev pub after_val : (start : ℕ) → Kind → (who arg : ℤ) → Option (ℤ × ℕ) → Result (Event × ℕ) Misread
after_val start k who arg (Some (val, next)) = Ok (event_of k (record { who = who; arg = arg; val = val }), next)
after_val start k who arg None = Err (record { line = 3; start = start })

abbrev pub after_arg : List ℕ → (start : ℕ) → Kind → (who : ℤ) → Option (ℤ × ℕ) → Result (Event × ℕ) Misread
after_arg text start k who (Some (arg, next)) = after_val next k who arg (number_line val_name text next)
after_arg text start k who None = Err (record { line = 2; start = start })

abbrev pub after_who : List ℕ → (start : ℕ) → Kind → Option (ℤ × ℕ) → Result (Event × ℕ) Misread
after_who text start k (Some (who, next)) = after_arg text next k who (number_line arg_name text next)
after_who text start k None = Err (record { line = 1; start = start })

abbrev pub after_kind : List ℕ → (start : ℕ) → Option (Kind × ℕ) → Result (Event × ℕ) Misread
after_kind text start (Some (k, next)) = after_who text next k (number_line who_name text next)
after_kind text start None = Err (record { line = 0; start = start })

unfoldable pub event_at : List ℕ → ℕ → Result (Event × ℕ) Misread
unfolding kind_line number_line
event_at text at = after_kind text at (kind_line text at)

-- ---- writing

-- a line: what it says, and its newline
abbrev pub ended : List ℕ → List ℕ
ended line = line ++ (10 ∷ [])

-- the line of a number behind its name; the three of an event's numbers, and the four of the event
unfoldable pub number_text : (name : List ℕ) → ℤ → List ℕ
unfolding text_of
number_text name v = ended (name ++ text_of v)

unfoldable pub numbers_text : Numbers → List ℕ
unfolding number_text
numbers_text n = number_text who_name n.who ++ (number_text arg_name n.arg ++ number_text val_name n.val)

unfoldable pub event_text : Event → List ℕ
unfolding numbers_text
event_text e = ended (kind_text (kind_of e)) ++ numbers_text (numbers_of e)
