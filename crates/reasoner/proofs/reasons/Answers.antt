use Rattle.std.proofs.Common.{rules, ap, refl, ◌∙◌, List, ℕ}
use Rattle.std.proofs.lemmas.List.Edits.{sets}
use Rattle.reasoner.specs.Reasons.{reasons_answer, reasons_buffer, reasons_after}
use Rattle.reasoner.proofs.Laws.{reasons_is, reasons_long}
use Rattle.reasoner.proofs.reasons.Goals as goal

pub returns-clause-value : goal.returns-clause-value
unfolding reasons_answer
returns-clause-value c = search rules

pub returns-clause-reasons_after : goal.returns-clause-reasons_after
unfolding reasons_buffer
returns-clause-reasons_after c =
    c.put_each.ensures.told reasons_after (record {
      size = reasons_long;
      put = λ e h old new at k. k.1 ∙ ap (λ (b : List ℕ). sets old.now at b) (reasons_is e h refl refl refl refl);
    })
