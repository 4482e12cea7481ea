use Rattle.std.proofs.Common.{arith}
use Rattle.std.proofs.lemmas.Result.{on_ok_weaker}
use Rattle.replay.proofs.Laws.{printed_room}
use Rattle.player.specs.Report.{printed_of}
use Rattle.replay.proofs.told.Goals as goal

pub returns-clause-written : goal.returns-clause-written
returns-clause-written g c =
    on_ok_weaker c.answered_into.result
    (λ written. written printed_of (record {
      room = λ text. omega (arith, printed_room text);
      end = λ text old new end long put. put.0;
      held = λ text old new end long put. put.1;
    }))
    c.answered_into.ensures.written
