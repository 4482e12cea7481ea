-- Everything, for every list. Assumes nothing.
use Rattle.rules.specs.Replies.{History}
use Rattle.rules.proofs.PageLaws.{page}
use Rattle.history.specs.Proved.{Proved}
use Rattle.history.proofs.Demand1Laws.{demand1}
use Rattle.history.proofs.Agree.{agreement}
use Rattle.history.proofs.ReadbackLaws.{readback}
use Rattle.history.proofs.MovingTargetLaws.{moving_target_lem}
use Rattle.history.proofs.Demand3Laws.{demand3}
use Rattle.history.proofs.AlertsLaws.{alerts}
use Rattle.history.proofs.DiodesLaws.{diodes}
use Rattle.history.proofs.CountsLaws.{counts}
use Rattle.history.proofs.BoundsLaws.{bounds}
use Rattle.history.proofs.WitnessLaws.{witness}

pub proved : (h : History) → Proved h
proved h =
    record {
      demand1 = λ k e own. demand1 k e own;
      agreement = agreement h;
      readback = readback h;
      demand3 = demand3 h;
      moving_target = moving_target_lem h;
      alerts = alerts h;
      diodes = diodes h;
      page = page h;
      counts = counts h;
      bounds = bounds h;
      witness = witness;
    }
