use Rattle.std.proofs.Common.{rules, ap, refl, ◌∙◌, List, ℕ}
use Rattle.std.proofs.lemmas.List.Edits.{sets}
use Rattle.reasoner.specs.Ages.{ages_answer, ages_buffer, ages_after}
use Rattle.reasoner.proofs.AgeLaws.{ages_is, ages_long}
use Rattle.reasoner.proofs.aging.ages.Goals as goal

pub returns-clause-value : goal.returns-clause-value
unfolding ages_answer
returns-clause-value c = search rules

pub returns-clause-ages_after : goal.returns-clause-ages_after
unfolding ages_buffer
returns-clause-ages_after c =
    c.put_each.ensures.told ages_after (record {
      size = ages_long;
      put = λ e h old new at k. k.1 ∙ ap (λ (b : List ℕ). sets old.now at b) (ages_is e h refl refl);
    })
