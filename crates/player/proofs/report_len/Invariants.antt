use Rattle.player.specs.Left.{entries_left, report_left}
use Rattle.player.proofs.PlayedLaws.{Measured}
use Rattle.player.proofs.report_len.Given as goal

abbrev pub invariant-loop-entry : goal.invariant-loop-entry
invariant-loop-entry l = Measured (report_left l.fn.entries) l.n (entries_left l.entry-iterator)
