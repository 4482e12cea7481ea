-- Demand 1, for every keeper, reachable or not, and every event with every number.
use Rattle.std.specs.Prelude.{ℕ, ◌<◌, ◌≤◌, ◌≡◌, Bool, true, false, List, [], ◌∷◌, length, get_or}
use Rattle.event.specs.Answers.{number_of, data_of}
use Rattle.event.specs.declared.Event.{Event}
use Rattle.rules.specs.Replies.{no_power, other_address, no_part, no_register, read_only, out_of_range, bad_code, odd_local, not_monitoring}
use Rattle.rules.specs.Replies.{broken_diode}
use Rattle.keeper.specs.Keeping.{is_on, standing_of, outcome_of, shown_by, image_answer, image_buffer}
use Rattle.keeper.specs.declared.Keeper.{Keeper}

-- the condition of each reply number, over the event's own numbers; 0 has none, and no event gets 10, 11 or 12
abbrev pub conditions : Keeper → Event → List Bool
conditions k e =
    false
    ∷ no_power (is_on k) e
    ∷ other_address (standing_of k).address e
    ∷ no_part e
    ∷ no_register e
    ∷ read_only e
    ∷ out_of_range e
    ∷ bad_code e
    ∷ odd_local e
    ∷ not_monitoring (standing_of k).monitoring e
    ∷ false
    ∷ false
    ∷ false
    ∷ broken_diode (standing_of k).error1 (standing_of k).error2 e
    ∷ []

abbrev pub Applies : Keeper → Event → ℕ → Type 0
Applies k e n = get_or (conditions k e) n false ≡ true

abbrev pub number : Keeper → Event → ℕ
number k e = number_of (outcome_of k e).answer

abbrev pub image_number : Keeper → List ℕ → ℕ
image_number k buffer = number_of (image_answer k buffer)

pub record Demand1 (k : Keeper) (e : Event) : Type 0 where
  -- the number that is given applies, and it is the lowest that does; 0 where none does
  pub given : 0 < number k e → Applies k e (number k e)
  pub lowest : (n : ℕ) → Applies k e n → 0 < number k e × number k e ≤ n
  -- a refused event changes nothing and has data 0
  pub refused : 0 < number k e → ((outcome_of k e).keeper ≡ k) × (data_of (outcome_of k e).answer ≡ 0) × ((outcome_of k e).shown ≡ shown_by k)
  -- the register image: 1 without power, 11 for a buffer of less than 64 bytes, else done; a refused buffer is untouched
  pub image_off : (buffer : List ℕ) → is_on k ≡ false → image_number k buffer ≡ 1
  pub image_short : (buffer : List ℕ) → is_on k ≡ true → length buffer < 64 → image_number k buffer ≡ 11
  pub image_done : (buffer : List ℕ) → is_on k ≡ true → 64 ≤ length buffer → image_number k buffer ≡ 0
  pub image_kept : (buffer : List ℕ) → 0 < image_number k buffer → image_buffer k buffer ≡ buffer
