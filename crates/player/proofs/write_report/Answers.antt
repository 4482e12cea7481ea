use Rattle.player.proofs.GrowLaws.{grown}
use Rattle.player.proofs.write_report.Goals as goal

pub loop-entry-preserved : goal.loop-entry-preserved
loop-entry-preserved c =
    grown c.loop-entry.invariant c.in-Some.ensures.steps c.put.ensures.value c.unwrap_or-out.ensures c.put.ensures.buf_after
