use Rattle.std.proofs.Common.{◌≡◌, ℕ, ◌*◌, ◌-◌, List, length}
use Rattle.std.proofs.lemmas.List.Edits.{sets}
use Rattle.event.specs.declared.Event.{Event}
use Rattle.rules.specs.Replies.{History}
use Rattle.history.specs.Agreement.{run}
use Rattle.stepper.specs.Steps.{event_count_from, first_events, bytes_of, Puts}
use Rattle.stepper.proofs.put_all.Given as goal

abbrev pub invariant-loop-i : goal.invariant-loop-i
invariant-loop-i g l =
    record {
      kept : l.keeper ≡ run (first_events l.i l.numbers);
      held : (each : Event → History → List _) → Puts (goal.F-post g l.put) l.width each
          → (l.buffer ≡ sets l.initial.buffer 0 (bytes_of each l.i l.numbers)) × (length (bytes_of each l.i l.numbers) ≡ l.width * l.i);
      count : event_count_from (l.end - l.i) l.i l.numbers ≡ event_count_from l.end 0 l.numbers;
    }
