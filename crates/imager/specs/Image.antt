-- The register image (document 01, below the reply table) after a list of events, four numbers each, by the rules over the history.
use Rattle.std.specs.Prelude.{ℕ, ◌/◌, ◌%◌, List, Bool, cond, eqb, ℤ, length, Option, Some, None, Result, Err, ok_or}
use Rattle.keeper.specs.declared.Keeper.{Keeper}
use Rattle.event.specs.declared.Refusal.{Refusal}
use Rattle.event.specs.declared.Refusal.TheVariants.{Malformed, WrongSize}
use Rattle.rules.specs.Replies.{History, taken}
use Rattle.rules.specs.Shows.{image_reply, image_held}
use Rattle.history.specs.Agreement.{run}
use Rattle.stepper.specs.Steps.{event_count_from, first_events}

-- the first n of a list of numbers are events
abbrev pub all_events : (n : ℕ) → List ℤ → Bool
all_events n s = eqb (event_count_from n 0 s) n

-- what stepping through them leaves
unfoldable pub kept_by : (n : ℕ) → List ℤ → Option Keeper
kept_by n s = cond (all_events n s) (Some (run (first_events n s))) None

-- 11 for numbers that are no whole events, 10 for a kind that is none
unfoldable pub after_by : List ℤ → Result Keeper Refusal
unfolding kept_by
after_by s = cond (eqb (length s % 4) 0) (ok_or (kept_by (length s / 4) s) Malformed) (Err WrongSize)

-- what follows from a list: for either refusal, else by its events
abbrev pub by_events : {A : Type 0} → (refused : Refusal → A) (of : History → A) → List ℤ → A
by_events refused of s =
    cond (eqb (length s % 4) 0)
    (cond (all_events (length s / 4) s) (of (first_events (length s / 4) s)) (refused Malformed))
    (refused WrongSize)

-- what the rules answer after the events, and what the buffer then holds
unfoldable pub image_after : (s : List ℤ) (d : List ℕ) → Result ℕ Refusal
image_after s d = by_events Err (λ h. image_reply d (taken h)) s

unfoldable pub image_left : (s : List ℤ) (d : List ℕ) → List ℕ
image_left s d = by_events (λ r. d) (λ h. image_held d (taken h)) s
