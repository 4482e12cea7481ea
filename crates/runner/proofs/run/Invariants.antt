use Rattle.trace_reader.specs.Left.{readings_left}
use Rattle.runner.proofs.Laws.{Stepped}
use Rattle.runner.proofs.run.Given as goal

abbrev pub invariant-loop-reading : goal.invariant-loop-reading
invariant-loop-reading l = Stepped l.text (readings_left l.reading-iterator) l.k
