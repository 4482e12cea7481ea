-- A keeper stepped through a text, event by event. Assumes nothing.
use Rattle.std.proofs.Common.{◌≡◌, ◌∙◌, ℕ, List, [], ◌∷◌, Ok, Err, Result, ap}
use Rattle.event.specs.declared.Event.{Event}
use Rattle.trace.specs.Whole.{events_of}
use Rattle.trace.specs.declared.Misread.{Misread}
use Rattle.trace_reader.specs.Readings.{readings_from, whole_as_read}
use Rattle.trace_reader.proofs.Whole.{whole_read}
use Rattle.keeper.specs.Keeping.{outcome_of}
use Rattle.keeper.specs.declared.Keeper as keeper
use Rattle.keeper.specs.declared.Keeper.TheVariants.{Off}
use Rattle.keeper.specs.declared.Outcome.{Outcome}
use Rattle.history.specs.Agreement.{run}
use Rattle.std.specs.Prelude.{Some, None}
use Rattle.runner.specs.Reached.{reached_by}

-- k is the keeper after some events, and what is left to read of the text adds its events to them
pub record Stepped (s : List ℕ) (left : List (Result Event Misread)) (k : keeper.Keeper) : Type 0 where
  pub events : List Event
  pub kept : k ≡ run events
  pub rest : whole_as_read left events ≡ events_of s

pub step_start : (s : List ℕ) {left : List (Result Event Misread)} {k : keeper.Keeper} → left ≡ readings_from s 0 → k ≡ Off → Stepped s left k
unfolding run
step_start s q e = record { events = []; kept = e; rest = rw q (whole_read s) }

module _ {s : List ℕ} {left : List (Result Event Misread)} {k : keeper.Keeper} (p : Stepped s left k) where
  pub step_end : left ≡ [] → Some k ≡ reached_by (events_of s)
  unfolding reached_by
  step_end q = let rest = rw q at p.rest in ap Some p.kept ∙ ap reached_by rest

  pub step_wrong : {w : Misread} {next : List (Result Event Misread)} → left ≡ Err w ∷ next → None ≡ reached_by (events_of s)
  unfolding reached_by
  step_wrong q = let rest = rw q at p.rest in ap reached_by rest

  pub step_event : {e : Event} {next : List (Result Event Misread)} → left ≡ Ok e ∷ next → {o : Outcome} → o ≡ outcome_of k e → Stepped s next o.keeper
  unfolding run
  step_event {e} q ho = record { events = e ∷ p.events; kept = rw (ho, p.kept); rest = rw q at p.rest }
