use Rattle.std.proofs.Common.{arith}
use Rattle.std.proofs.lemmas.Result.{on_ok_weaker}
use Rattle.explainer.proofs.LengthLaws.{lines_short}
use Rattle.explainer.specs.Explained.{explained}
use Rattle.why.proofs.told.Goals as goal

pub returns-clause-written : goal.returns-clause-written
returns-clause-written g c =
    on_ok_weaker c.answered_into.result
    (λ written. written explained (record {
      room = λ text. omega (arith, lines_short text);
      end = λ text old new end long put. put.0;
      held = λ text old new end long put. put.1;
    }))
    c.answered_into.ensures.written
