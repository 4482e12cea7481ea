use Rattle.snezhulka.proofs.Laws.{numbered}
use Rattle.snezhulka.proofs.snezhulka_image.Goals as goal

pub returns-clause-value : goal.returns-clause-value
returns-clause-value c = search numbered
