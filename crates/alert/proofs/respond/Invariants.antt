use Rattle.std.proofs.Common.{◌≡◌, take, drop, map, ◌++◌}
use Rattle.alert.specs.Tally.{released_of}
use Rattle.alert.proofs.respond.Given as goal

abbrev pub invariant-loop-entry : goal.invariant-loop-entry
invariant-loop-entry l = l.row ≡ map (released_of l.tally) (take l.entry-index l.initial.row) ++ drop l.entry-index l.initial.row
