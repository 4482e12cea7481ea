-- T-03 and T-07 of document 02: what the program `why` prints of a trace text, by the rules over its events.
use Rattle.std.specs.Prelude.{ℕ, List, pos, Result, Ok, Err}
use Rattle.event.specs.Answers.{refusal_number}
use Rattle.event.specs.declared.Explanation.{Explanation}
use Rattle.event.specs.declared.Refusal.{Refusal}
use Rattle.rules.specs.Replies.{History, taken}
use Rattle.rules.specs.Stamps.{explanation_for}
use Rattle.report.specs.Report.{answer_text}
use Rattle.runner.specs.Lines.{lines_after}
use Rattle.explainer.specs.Words.{fan_lines}

-- the lines of both fans' reasons and ages; or answer= and the number of a refusal
unfoldable pub told_text : (one two : Result Explanation Refusal) → List ℕ
unfolding fan_lines answer_text
told_text (Ok a) (Ok b) = fan_lines a.reason b.reason a.age b.age
told_text (Ok a) (Err r) = answer_text (refusal_number r)
told_text (Err r) two = answer_text (refusal_number r)

-- as they are told together, where neither is refused
abbrev pub told_lines : Result (Explanation × Explanation) Refusal → List ℕ
told_lines (Ok p) = fan_lines p.0.reason p.1.reason p.0.age p.1.age
told_lines (Err r) = answer_text (refusal_number r)

-- after the last of some events
abbrev pub reason_lines : History → List ℕ
reason_lines h = told_text (explanation_for (pos 1) (taken h)) (explanation_for (pos 2) (taken h))

-- of a text: 11, 10, or the lines of its events
abbrev pub explained : (text : List ℕ) → List ℕ
explained text = lines_after reason_lines text
