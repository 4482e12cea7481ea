-- What a program prints of a trace text, by what it prints after the events of one: lines that it asks of the keeper after the last event.
use Rattle.std.specs.Prelude.{ℕ, ◌<◌, ◌≤◌, ◌≡◌, cond, List, [], ◌∷◌, ltb, length}
use Rattle.event.specs.Answers.{refusal_number}
use Rattle.event.specs.declared.Refusal.TheVariants.{Malformed, WrongSize}
use Rattle.rules.specs.Replies.{History}
use Rattle.trace.specs.Whole.{Whole, Events, WrongLine, Written, events_of, whole_text_of}
use Rattle.report.specs.Report.{answer_text}

-- answer= and 10 for a malformed text
unfoldable pub whole_lines : (lines : History → List ℕ) → Whole → List ℕ
unfolding answer_text
whole_lines lines (Events h) = lines h
whole_lines lines WrongLine = answer_text (refusal_number Malformed)

-- answer= and 11 for a text of more than 65,536 bytes, before any line is judged
unfoldable pub lines_after : (lines : History → List ℕ) → (text : List ℕ) → List ℕ
unfolding answer_text whole_lines
lines_after lines text = cond (ltb 65536 (length text)) (answer_text (refusal_number WrongSize)) (whole_lines lines (events_of text))

-- ---- the same of a text by what it was written of, and in bytes

-- the text is that of the events, the newest first, and short enough to be judged
pub record TraceOf (h : History) (text : List ℕ) : Type 0 where
  pub short : length text ≤ 65536
  pub numbers : Written h
  pub whole : text ≡ whole_text_of h

pub record LinesOf (lines : History → List ℕ) (text : List ℕ) : Type 0 where
  -- answer=11: more than 65,536 bytes, whatever they are
  pub long : 65536 < length text → lines_after lines text ≡ 97 ∷ 110 ∷ 115 ∷ 119 ∷ 101 ∷ 114 ∷ 61 ∷ 49 ∷ 49 ∷ 10 ∷ []
  -- answer=10: the text of no list of events
  pub wrong :
      length text ≤ 65536 → ((h : History) → text ≡ whole_text_of h → ⊥) →
      lines_after lines text ≡ 97 ∷ 110 ∷ 115 ∷ 119 ∷ 101 ∷ 114 ∷ 61 ∷ 49 ∷ 48 ∷ 10 ∷ []
  -- else the lines of the events
  pub events : (h : History) → TraceOf h text → lines_after lines text ≡ lines h
