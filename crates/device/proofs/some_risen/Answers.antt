use Rattle.std.proofs.Common.{◌∙◌, refl, rules}
use Rattle.std.proofs.lemmas.Iterator.{YieldsList-from_range}
use Rattle.std.proofs.lemmas.Iterator.Search.{any_from_yields_List}
use mathlib.Core.Bool.{or-false}
use borrow.Author.Tests.{tests}
use Rattle.rules.specs.Shows.{risen, some_risen}
use Rattle.device.proofs.some_risen.Goals as goal

pub returns : goal.returns
unfolding some_risen
returns c =
    any_from_yields_List (λ k. risen c.args.was c.args.now k) _ _ _ c.any.ensures.ran (YieldsList-from_range 0 8 8 refl refl) (λ x b q k. search (rules, tests))
    ∙ rw or-false
