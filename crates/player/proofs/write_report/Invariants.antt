use Rattle.player.specs.Left.{entries_left, report_left}
use Rattle.player.proofs.GrowLaws.{Grown}
use Rattle.player.proofs.write_report.Given as goal

abbrev pub invariant-loop-entry : goal.invariant-loop-entry
invariant-loop-entry l = Grown (report_left l.fn.entries) l.initial.report l.out l.report (entries_left l.entry-iterator)
