use Rattle.std.proofs.Common.{◌≡◌, ◌-◌}
use Rattle.history.specs.Agreement.{run}
use Rattle.stepper.specs.Steps.{event_count_from, first_events}
use Rattle.imager.proofs.run_all.Given as goal

abbrev pub invariant-loop-i : goal.invariant-loop-i
invariant-loop-i l = (l.k ≡ run (first_events l.i l.numbers)) × (event_count_from (l.end - l.i) l.i l.numbers ≡ event_count_from l.end 0 l.numbers)
