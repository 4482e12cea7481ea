-- The lines have at most 100 bytes, whatever the text. Assumes nothing.
use Rattle.std.proofs.Common.{◌≡◌, ◌∙◌, ℕ, ◌+◌, ◌<◌, ◌≤◌, ltb, List, [], ◌∷◌, ◌++◌, length, ℤ, pos, arith, length-append, w32, SFits, ltb-true}
use lib.Ieee.{Float, to_unsigned}
use Rattle.integer.proofs.BoolLaws.{by_cases, either}
use Rattle.decimal.specs.Decimal.{decimal_of, text_of}
use Rattle.decimal.proofs.Laws.{text_width}
use Rattle.event.specs.declared.FanSpeed.{FanSpeed}
use Rattle.event.specs.declared.FanSpeed.TheVariants.{NotMeasured, Stalled, Speed}
use Rattle.event.specs.declared.Panel as panel
use Rattle.rules.specs.Stored.{powered}
use Rattle.rules.specs.Replies.{History, taken}
use Rattle.rules.specs.Panels.{figures, panel_for}
use Rattle.trace.specs.Trace.{ended, number_text}
use Rattle.report.specs.Report.{field_text, answer_text}
use Rattle.runner.proofs.LinesLaws.{lines_within}
use Rattle.display.specs.Lines.{local_name, remote1_name, remote2_name, fan1_name, fan2_name, none_word, stalled_word, speed_line, figure_lines}
use Rattle.display.specs.Displayed.{panel_lines, displayed}
use Rattle.display.specs.Worked.{narrow_of, short_of, whole_of, tenths_of, worked_speed, worked_text, worked_told}
use Rattle.buffer.specs.Append.{appended}
use Rattle.buffer.proofs.AppendLaws.{append_then, append_alone}
use Rattle.display.proofs.LineLaws.{minus}
use Rattle.display.proofs.DisplaysLaws.{worked_is}

-- ---- numbers of 32 bits

narrow_small : (n : ℕ) → narrow_of n < 2147483648
narrow_small n = by_cases (ltb n 2147483648) (λ l. rw l (ltb-true n 2147483648 l)) (λ l. rw l (omega arith))

whole_small : (x : Float) → whole_of x < 2147483648
unfolding whole_of
whole_small x = either (λ n. n < 2147483648) (short_of x) (narrow_small (to_unsigned 64 x)) (omega arith)

tenths_small : (x : Float) → SFits w32 (tenths_of x)
unfolding tenths_of
tenths_small x = minus (whole_of _) (whole_small _)

-- ---- lines

number_short : (name : List ℕ) (v : ℤ) → SFits w32 v → length (number_text name v) ≤ length name + 12
unfolding number_text
number_short name v f = omega (arith, length-append (name ++ text_of v) (10 ∷ []), length-append name (text_of v), text_width v f)

word_length : (name word : List ℕ) → length (ended (name ++ word)) ≡ length name + length word + 1
word_length name word = omega (arith, length-append (name ++ word) (10 ∷ []), length-append name word)

speed_short : (name : List ℕ) (s : FanSpeed) → length (worked_speed name s) ≤ length name + 12
unfolding speed_line
speed_short name NotMeasured = omega (arith, word_length name none_word)
speed_short name Stalled = omega (arith, word_length name stalled_word)
speed_short name (Speed x) = number_short name (pos (whole_of x)) (record { sfits = whole_small x })

panel_short : (p : panel.Panel) → length (worked_text p) ≤ 100
unfolding figure_lines
panel_short p =
    let a = number_text local_name (tenths_of p.local) in
    let b = number_text remote1_name (tenths_of p.remote1) in
    let c = number_text remote2_name (tenths_of p.remote2) in
    let d = worked_speed fan1_name p.fan1 in
    let e = worked_speed fan2_name p.fan2 in
    omega (
      arith,
      length-append a (b ++ (c ++ (d ++ e))),
      length-append b (c ++ (d ++ e)),
      length-append c (d ++ e),
      length-append d e,
      number_short local_name (tenths_of p.local) (tenths_small p.local),
      number_short remote1_name (tenths_of p.remote1) (tenths_small p.remote1),
      number_short remote2_name (tenths_of p.remote2) (tenths_small p.remote2),
      speed_short fan1_name p.fan1,
      speed_short fan2_name p.fan2,
    )

told_short : (h : History) → length (worked_told (panel_for (taken h))) ≤ 100
unfolding worked_told panel_for answer_text field_text decimal_of
told_short h = by_cases (powered (taken h)) (λ on. rw on (panel_short (figures (taken h)))) (λ off. rw off (omega arith))

pub lines_short : (text : List ℕ) → length (displayed text) ≤ 100
lines_short text = lines_within panel_lines 100 (omega arith) (λ h. rw (← worked_is h) (told_short h)) text

-- ---- the five lines, put together aside

pub lines_appended : (p : panel.Panel) (x x1 x2 x3 x4 x5 : List ℕ) {text : List ℕ} → x ≡ [] → x1 ≡ appended x (number_text local_name (tenths_of p.local))
    → x2 ≡ appended x1 (number_text remote1_name (tenths_of p.remote1)) → x3 ≡ appended x2 (number_text remote2_name (tenths_of p.remote2))
    → x4 ≡ appended x3 (worked_speed fan1_name p.fan1) → x5 ≡ appended x4 (worked_speed fan2_name p.fan2) → text ≡ x5 → text ≡ worked_text p
unfolding figure_lines
lines_appended p x x1 x2 x3 x4 x5 h0 h1 h2 h3 h4 h5 q =
    let first : List ℕ = number_text local_name (tenths_of p.local) in
    let second : List ℕ = number_text remote1_name (tenths_of p.remote1) in
    let third : List ℕ = number_text remote2_name (tenths_of p.remote2) in
    let fourth : List ℕ = worked_speed fan1_name p.fan1 in
    let fifth : List ℕ = worked_speed fan2_name p.fan2 in
    q ∙ append_alone (worked_text p)
    (append_then [] x1 first (second ++ (third ++ (fourth ++ fifth))) (rw h0 at h1)
    (append_then x1 x2 second (third ++ (fourth ++ fifth)) h2 (append_then x2 x3 third (fourth ++ fifth) h3 (append_then x3 x4 fourth fifth h4 h5))))
    (omega (arith, panel_short p))
