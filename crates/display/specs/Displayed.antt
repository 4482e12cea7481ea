-- T-06 of document 02: what the program `panel` prints of a trace text, by the rules over its events.
use Rattle.std.specs.Prelude.{ℕ, ◌+◌, ◌-◌, ◌*◌, ◌/◌, true, false, List, ℤ, pos, neg_ℤ, Float, Result, Ok, Err}
use Rattle.std.specs.Float.{nan, inf, fin}
use Rattle.std.specs.Float.Ieee.{up, down}
use Rattle.event.specs.Answers.{refusal_number}
use Rattle.event.specs.declared.Panel.{Panel}
use Rattle.event.specs.declared.Refusal.{Refusal}
use Rattle.rules.specs.Replies.{History, taken}
use Rattle.rules.specs.Panels.{panel_for}
use Rattle.report.specs.Report.{answer_text}
use Rattle.runner.specs.Lines.{lines_after}
use Rattle.display.specs.Lines.{figure_lines}

-- the whole number at or below so many times x, of x = m 2^e, where 2^e is up e / down e; no figure of a panel is infinite or not a number
unfoldable pub floor_of : (times : ℕ) → Float → ℤ
floor_of times (fin false m e) = pos (times * m * up e / down e)
floor_of times (fin true m e) = neg_ℤ (pos ((times * m * up e + (down e - 1)) / down e))
floor_of times (inf s) = pos 0
floor_of times nan = pos 0

-- tenths of a degree and revolutions, both rounded down; or answer= and the number of a refusal
unfoldable pub paneled_text : Result Panel Refusal → List ℕ
unfolding figure_lines floor_of answer_text
paneled_text (Ok p) = figure_lines (floor_of 10) (floor_of 1) p
paneled_text (Err r) = answer_text (refusal_number r)

-- after the last of some events
abbrev pub panel_lines : History → List ℕ
panel_lines h = paneled_text (panel_for (taken h))

-- of a text: 11, 10, or the lines of its events
abbrev pub displayed : (text : List ℕ) → List ℕ
displayed text = lines_after panel_lines text
