use Rattle.trace_reader.specs.Left.{readings_left}
use Rattle.rewriter.proofs.Laws.{Copied}
use Rattle.rewriter.proofs.rewrite.Given as goal

abbrev pub invariant-loop-reading : goal.invariant-loop-reading
invariant-loop-reading l = Copied l.text l.initial.copy l.out l.copy (readings_left l.reading-iterator)
