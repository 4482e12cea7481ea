use mathlib.Core.Path.{refl}
use Rattle.keeper.specs.Keeping.{image_from}
use Rattle.keeper.proofs.Laws.{fill_more, filled}
use Rattle.keeper.proofs.fill.Goals as goal

pub loop-a-init : goal.loop-a-init
unfolding image_from
loop-a-init c = refl

pub loop-a-preserved : goal.loop-a-preserved
loop-a-preserved c = rw c.from.ensures (search fill_more)

pub returns : goal.returns
returns c = search filled
