-- The same lines as the program works them out, by floating-point operations.
use Rattle.std.specs.Prelude.{ℕ, Bool, true, false, cond, ◌&&◌, List, ℤ, pos, ◌-ℤ◌, nat_lt, Float, Result, Ok, Err}
use Rattle.std.specs.Float.{fin, binary64}
use Rattle.std.specs.Float.Ieee.{add, mul, lt, to_unsigned}
use Rattle.event.specs.Answers.{refusal_number}
use Rattle.event.specs.declared.FanSpeed.{FanSpeed}
use Rattle.event.specs.declared.Panel as panel
use Rattle.event.specs.declared.Refusal.{Refusal}
use Rattle.report.specs.Report.{answer_text}
use Rattle.display.specs.Lines.{speed_line, figure_lines}

abbrev pub narrow_of : ℕ → ℕ
narrow_of n = cond (nat_lt n 2147483648) n 0

-- above -1 and below 2^64
unfoldable pub short_of : Float → Bool
short_of x = lt (fin true 1 (pos 0)) x && lt x (fin false 1 (pos 64))

-- a number without its fraction, from 0 to below 2^31; else 0
unfoldable pub whole_of : Float → ℕ
unfolding short_of
whole_of x = cond (short_of x) (narrow_of (to_unsigned 64 x)) 0

abbrev pub revolutions_of : Float → ℤ
revolutions_of x = pos (whole_of x)

-- (x + 128) 10 without its fraction, less 1280
unfoldable pub tenths_of : Float → ℤ
unfolding whole_of
tenths_of x = pos (whole_of (mul binary64 (add binary64 x (fin false 1 (pos 7))) (fin false 5 (pos 1)))) -ℤ pos 1280

abbrev pub worked_speed : (name : List ℕ) → FanSpeed → List ℕ
worked_speed name s = speed_line revolutions_of name s

abbrev pub worked_text : panel.Panel → List ℕ
worked_text p = figure_lines tenths_of revolutions_of p

unfoldable pub worked_told : Result panel.Panel Refusal → List ℕ
unfolding figure_lines answer_text
worked_told (Ok p) = worked_text p
worked_told (Err r) = answer_text (refusal_number r)
