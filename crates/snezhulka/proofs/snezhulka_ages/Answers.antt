use Rattle.snezhulka.proofs.Laws.{ended}
use Rattle.snezhulka.proofs.snezhulka_ages.Goals as goal

pub returns-clause-value : goal.returns-clause-value
returns-clause-value c = search ended
