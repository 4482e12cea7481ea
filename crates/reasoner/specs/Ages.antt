-- The stamp and the ages of both fans (T-07 of document 02) after each event of a list, three numbers each, by the rules over the history.
use Rattle.std.specs.Prelude.{ℕ, List, [], ◌∷◌, ℤ, pos, Result}
use Rattle.std.specs.Result.{result_unwrap_or}
use Rattle.event.specs.declared.Event.{Event}
use Rattle.event.specs.declared.Refusal.{Refusal}
use Rattle.rules.specs.Replies.{History, taken}
use Rattle.rules.specs.Stamps.{stamp, age_for, age_clocks}
use Rattle.keeper.specs.Keeping.{stamp_by}
use Rattle.keeper.specs.declared.Keeper.{Keeper}
use Rattle.reason.specs.Aging.{aged_of}
use Rattle.stepper.specs.Steps.{bytes_answer, bytes_buffer}

-- of a keeper: the stamp, then the age of fan 1, of fan 2, 0 where none is told
abbrev pub ages_in : Keeper → List ℕ
ages_in k = stamp_by k ∷ result_unwrap_or (aged_of k (pos 1)) 0 ∷ result_unwrap_or (aged_of k (pos 2)) 0 ∷ []

-- what the rules say after the next event; all 0 before power
abbrev pub ages_after : Event → History → List ℕ
ages_after e h = stamp (taken (e ∷ h)) ∷ age_clocks (age_for (pos 1) (taken (e ∷ h))) ∷ age_clocks (age_for (pos 2) (taken (e ∷ h))) ∷ []

unfoldable pub ages_answer : (s : List ℤ) (d : List ℕ) → Result ℕ Refusal
ages_answer s d = bytes_answer 3 s d

unfoldable pub ages_buffer : (s : List ℤ) (d : List ℕ) → List ℕ
ages_buffer s d = bytes_buffer 3 ages_after s d
