-- The panel after a list of events, as numbers. Assumes nothing.
use Prim.Native.Nat.{ℕ, ◌≤◌, ◌<◌}
use mathlib.Core.Path.{◌≡◌, sym, ◌∙◌}
use mathlib.Core.List.{List, ◌++◌}
use mathlib.Core.Bool.{true, false}
use lib.IntN.{ℤ}
use lib.Ieee.{Float, binary64, of_bits}
use lib.ListN.{length, take, drop, take-append-drop}
use lib.Seq.{sets, sets-eq}
use borrow.Author.Tests.{lt-ltb, le-ltb}
use Rattle.std.specs.Prelude.{Result, Ok, Err}
use Rattle.event.specs.declared.FanSpeed.{FanSpeed}
use Rattle.event.specs.declared.FanSpeed.TheVariants.{NotMeasured, Stalled}
use Rattle.event.specs.declared.Panel as panel
use Rattle.event.specs.declared.Refusal.{Refusal}
use Rattle.event.specs.declared.Refusal.TheVariants.{WrongSize}
use Rattle.keeper.specs.declared.Keeper as keeper
use Rattle.gauge.specs.Gauges.{paneled_of}
use Rattle.history.proofs.Agree.{agreement}
use Rattle.rules.specs.Replies.{taken}
use Rattle.rules.specs.Panels.{panel_for}
use Rattle.imager.specs.Image.{after_by}
use Rattle.imager.specs.Figures.{speed_figure, panel_figures, panel_cases, told_answer, figures_put, cases_put}
use Rattle.imager.specs.Figures.{too_short, panel_after, figures_left, cases_left}
use Rattle.imager.proofs.Laws.{refused_then, kept_then}

-- ---- figures

-- the pattern of 0.0
module _ {s : FanSpeed} where
  pub not_measured_lem : s ≡ NotMeasured → of_bits binary64 0 ≡ speed_figure s
  unfolding of_bits
  not_measured_lem q = rw q

  pub stalled : s ≡ Stalled → of_bits binary64 0 ≡ speed_figure s
  unfolding of_bits
  stalled q = rw q

-- ---- what is told

module _ {t : Result panel.Panel Refusal} where
  module _ {p : panel.Panel} (is : t ≡ Ok p) where
    pub given_answer : Ok 0 ≡ told_answer t
    unfolding told_answer
    given_answer = rw is

    pub given_figures : (d : List Float) {d' : List Float} → d' ≡ sets d 0 (panel_figures p) → d' ≡ figures_put t d
    unfolding figures_put
    given_figures d h = rw is h

    pub given_cases : (c : List ℕ) {c' : List ℕ} → c' ≡ sets c 0 (panel_cases p) → c' ≡ cases_put t c
    unfolding cases_put
    given_cases c h = rw is h

  module _ {r : Refusal} (is : t ≡ Err r) where
    pub none_answer : Err r ≡ told_answer t
    unfolding told_answer
    none_answer = rw is

    pub none_figures : (d : List Float) → d ≡ figures_put t d
    unfolding figures_put
    none_figures d = rw is

    pub none_cases : (c : List ℕ) → c ≡ cases_put t c
    unfolding cases_put
    none_cases c = rw is

-- ---- after a list: of the answer, and of both buffers

-- a buffer whose front is lent, and comes back as it was
pub same_front : {A : Type 0} (n : ℕ) (l : List A) {front : List A} → front ≡ take n l → l ≡ front ++ drop n l
same_front n l h = sym (rw h (take-append-drop n l))

module _ (s : List ℤ) (d : List Float) (c : List ℕ) where
  few_figures : length d < 5 → too_short (length d) (length c) ≡ true
  unfolding too_short
  few_figures h = rw (lt-ltb (length d) 5 h)

  few_cases : 5 ≤ length d → length c < 2 → too_short (length d) (length c) ≡ true
  unfolding too_short
  few_cases h h' = rw (le-ltb (length d) 5 h, lt-ltb (length c) 2 h')

  room_for_all : 5 ≤ length d → 2 ≤ length c → too_short (length d) (length c) ≡ false
  unfolding too_short
  room_for_all h h' = rw (le-ltb (length d) 5 h, le-ltb (length c) 2 h')

  module _ (short : too_short (length d) (length c) ≡ true) where
    short_answer : Err WrongSize ≡ panel_after s d c
    unfolding panel_after
    short_answer = rw short

    short_figures : d ≡ figures_left s d c
    unfolding figures_left
    short_figures = rw short

    short_cases : c ≡ cases_left s d c
    unfolding cases_left
    short_cases = rw short

  pub few_answer : length d < 5 → Err WrongSize ≡ panel_after s d c
  few_answer h = short_answer (few_figures h)

  pub few_left : length d < 5 → d ≡ figures_left s d c
  few_left h = short_figures (few_figures h)

  pub few_kept : length d < 5 → c ≡ cases_left s d c
  few_kept h = short_cases (few_figures h)

  module _ (five : 5 ≤ length d) where
    pub lone_answer : length c < 2 → Err WrongSize ≡ panel_after s d c
    lone_answer h = short_answer (few_cases five h)

    pub lone_left : length c < 2 → d ≡ figures_left s d c
    lone_left h = short_figures (few_cases five h)

    pub lone_kept : length c < 2 → c ≡ cases_left s d c
    lone_kept h = short_cases (few_cases five h)

    module _ (two : 2 ≤ length c) {a : Result keeper.Keeper Refusal} (is : a ≡ after_by s) where
      module _ {r : Refusal} (e : a ≡ Err r) where
        pub refused_answer : Err r ≡ panel_after s d c
        unfolding panel_after
        refused_answer = rw (room_for_all five two) (refused_then Err (λ h. told_answer (panel_for (taken h))) s is e)

        pub refused_figures : d ≡ figures_left s d c
        unfolding figures_left
        refused_figures = rw (room_for_all five two) (refused_then (λ r. d) (λ h. figures_put (panel_for (taken h)) d) s is e)

        pub refused_cases : c ≡ cases_left s d c
        unfolding cases_left
        refused_cases = rw (room_for_all five two) (refused_then (λ r. c) (λ h. cases_put (panel_for (taken h)) c) s is e)

      module _ {k : keeper.Keeper} {t : Result panel.Panel Refusal} (e : a ≡ Ok k) (told : t ≡ paneled_of k) where
        all_answer : told_answer t ≡ panel_after s d c
        unfolding panel_after
        all_answer =
            rw (room_for_all five two) (kept_then Err (λ h. told_answer (panel_for (taken h))) s is e (λ g same. rw (told, same, (agreement g).panel)))

        all_figures : figures_put t d ≡ figures_left s d c
        unfolding figures_left
        all_figures =
            rw (room_for_all five two) (kept_then (λ r. d) (λ h. figures_put (panel_for (taken h)) d) s is e (λ g same. rw (told, same, (agreement g).panel)))

        all_cases : cases_put t c ≡ cases_left s d c
        unfolding cases_left
        all_cases =
            rw (room_for_all five two) (kept_then (λ r. c) (λ h. cases_put (panel_for (taken h)) c) s is e (λ g same. rw (told, same, (agreement g).panel)))

        module _ {r : Refusal} (q : t ≡ Err r) where
          pub untold_answer : Err r ≡ panel_after s d c
          untold_answer = none_answer q ∙ all_answer

          pub untold_figures : d ≡ figures_left s d c
          untold_figures = none_figures q d ∙ all_figures

          pub untold_cases : c ≡ cases_left s d c
          untold_cases = none_cases q c ∙ all_cases

        module _ {p : panel.Panel} (q : t ≡ Ok p) where
          pub told_all : Ok 0 ≡ panel_after s d c
          told_all = given_answer q ∙ all_answer

          pub told_figures : {f : List Float} → f ≡ panel_figures p → f ++ drop 5 d ≡ figures_left s d c
          told_figures h = rw h (given_figures q d (sym (sets-eq (panel_figures p) d 0 five))) ∙ all_figures

          pub told_cases : {b : List ℕ} → b ≡ panel_cases p → b ++ drop 2 c ≡ cases_left s d c
          told_cases h = rw h (given_cases q c (sym (sets-eq (panel_cases p) c 0 two))) ∙ all_cases
