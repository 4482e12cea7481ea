use Rattle.std.proofs.Common.{length, ◌≤◌}
use Rattle.std.specs.Io.KnownBytes.{Consumes}
use Rattle.program.proofs.heap.text_of.Given as goal

-- what is in the vector so far was read from the front of the input
abbrev pub invariant-loop : goal.invariant-loop
invariant-loop g l =
    (length l.text.items ≤ 65537) × Consumes (g.R.Read.remaining l.initial.reader) (g.R.Read.remaining l.reader) l.text.items
