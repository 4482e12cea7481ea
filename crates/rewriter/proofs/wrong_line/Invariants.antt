use Rattle.std.proofs.Common.{◌≡◌}
use Rattle.trace_reader.specs.Left.{readings_left}
use Rattle.rewriter.specs.Wrong.{wrong_line}
use Rattle.rewriter.proofs.Search.{wrong_among}
use Rattle.rewriter.proofs.wrong_line.Given as goal

abbrev pub invariant-loop-reading : goal.invariant-loop-reading
invariant-loop-reading l = (l.line ≡ l.initial.line) × (wrong_line l.text ≡ wrong_among l.text (readings_left l.reading-iterator))
