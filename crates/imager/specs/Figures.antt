-- The panel (T-06 of document 02) after a list of events, four numbers each, as numbers, by the rules over the history.
use Rattle.std.specs.Prelude.{ℕ, List, [], ◌∷◌, Bool, false, cond, ◌||◌, ltb, ℤ, pos, Float, length, Result, Ok, Err}
use Rattle.std.specs.Float.{fin}
use Rattle.std.proofs.lemmas.List.Edits.{sets}
use Rattle.event.specs.declared.Refusal.{Refusal}
use Rattle.event.specs.declared.FanSpeed.{FanSpeed}
use Rattle.event.specs.declared.FanSpeed.TheVariants.{NotMeasured, Stalled, Speed}
use Rattle.event.specs.declared.Panel as panel
use Rattle.event.specs.declared.Refusal.TheVariants.{WrongSize}
use Rattle.rules.specs.Replies.{taken}
use Rattle.rules.specs.Panels.{panel_for}
use Rattle.imager.specs.Image.{by_events}

-- ---- a panel as numbers

-- revolutions a minute, 0 where there are none; the case: 0 not measured, 1 stalled, 2 a speed
abbrev pub speed_figure : FanSpeed → Float
speed_figure NotMeasured = fin false 0 (pos 0)
speed_figure Stalled = fin false 0 (pos 0)
speed_figure (Speed x) = x

abbrev pub speed_case : FanSpeed → ℕ
speed_case NotMeasured = 0
speed_case Stalled = 1
speed_case (Speed x) = 2

abbrev pub panel_figures : panel.Panel → List Float
panel_figures p = p.local ∷ p.remote1 ∷ p.remote2 ∷ speed_figure p.fan1 ∷ speed_figure p.fan2 ∷ []

abbrev pub panel_cases : panel.Panel → List ℕ
panel_cases p = speed_case p.fan1 ∷ speed_case p.fan2 ∷ []

-- ---- what is answered for what is told, and what the buffers of figures and cases then hold

unfoldable pub told_answer : Result panel.Panel Refusal → Result ℕ Refusal
told_answer (Ok p) = Ok 0
told_answer (Err r) = Err r

unfoldable pub figures_put : Result panel.Panel Refusal → List Float → List Float
figures_put (Ok p) d = sets d 0 (panel_figures p)
figures_put (Err r) d = d

unfoldable pub cases_put : Result panel.Panel Refusal → List ℕ → List ℕ
cases_put (Ok p) c = sets c 0 (panel_cases p)
cases_put (Err r) c = c

-- ---- after a list of events

-- no room for five figures or two cases
unfoldable pub too_short : (figures cases : ℕ) → Bool
too_short figures cases = ltb figures 5 || ltb cases 2

-- 11 for a buffer that is too short, before the list is looked at
abbrev pub with_room : {A : Type 0} → (short : A) → (d : List Float) (c : List ℕ) → A → A
with_room short d c rest = cond (too_short (length d) (length c)) short rest

unfoldable pub panel_after : (s : List ℤ) (d : List Float) (c : List ℕ) → Result ℕ Refusal
panel_after s d c = with_room (Err WrongSize) d c (by_events Err (λ h. told_answer (panel_for (taken h))) s)

unfoldable pub figures_left : (s : List ℤ) (d : List Float) (c : List ℕ) → List Float
figures_left s d c = with_room d d c (by_events (λ r. d) (λ h. figures_put (panel_for (taken h)) d) s)

unfoldable pub cases_left : (s : List ℤ) (d : List Float) (c : List ℕ) → List ℕ
cases_left s d c = with_room c d c (by_events (λ r. c) (λ h. cases_put (panel_for (taken h)) c) s)
