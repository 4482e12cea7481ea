-- Why both fans have their duties (T-03 of document 02) after each event of a list, eight bytes each, by the rules over the history.
use Rattle.std.specs.Prelude.{ℕ, List, [], ◌∷◌, ◌++◌, ℤ, pos, get_or, Result, Ok, Err}
use Rattle.event.specs.Answers.{refusal_number}
use Rattle.event.specs.declared.Event.{Event}
use Rattle.event.specs.declared.Reason.{Reason}
use Rattle.event.specs.declared.Refusal.{Refusal}
use Rattle.rules.specs.Replies.{History, taken}
use Rattle.rules.specs.Reasons.{reason_number, reason_values, why_for}
use Rattle.stepper.specs.Steps.{bytes_answer, bytes_buffer}

-- of a fan: the number of its reason, and the values, 0 where it has no more; or 0 and the number of the refusal
abbrev pub why_bytes : Result Reason Refusal → List ℕ
why_bytes (Ok r) = reason_number r ∷ get_or (reason_values r) 0 0 ∷ get_or (reason_values r) 1 0 ∷ get_or (reason_values r) 2 0 ∷ []
why_bytes (Err a) = 0 ∷ refusal_number a ∷ 0 ∷ 0 ∷ []

-- fan 1, then fan 2
abbrev pub both_bytes : (one two : Result Reason Refusal) → List ℕ
both_bytes one two = why_bytes one ++ why_bytes two

-- what the rules say after the next event
abbrev pub reasons_after : Event → History → List ℕ
reasons_after e h = both_bytes (why_for (pos 1) (taken (e ∷ h))) (why_for (pos 2) (taken (e ∷ h)))

unfoldable pub reasons_answer : (s : List ℤ) (d : List ℕ) → Result ℕ Refusal
reasons_answer s d = bytes_answer 8 s d

unfoldable pub reasons_buffer : (s : List ℤ) (d : List ℕ) → List ℕ
reasons_buffer s d = bytes_buffer 8 reasons_after s d
