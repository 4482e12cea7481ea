use Rattle.std.proofs.Common.{rules, ap, refl, ◌∙◌, List, ℕ}
use Rattle.std.proofs.lemmas.List.Edits.{sets}
use Rattle.stepper.specs.Steps.{steps_answer, steps_buffer, outcome_after, Puts}
use Rattle.stepper.proofs.Laws.{outcome_is, outcome_long}
use Rattle.stepper.proofs.steps.Goals as goal

pub returns-clause-value : goal.returns-clause-value
unfolding steps_answer
returns-clause-value c = search rules

pub returns-clause-outcomes_after : goal.returns-clause-outcomes_after
unfolding steps_buffer
returns-clause-outcomes_after c = c.put_each.ensures.told outcome_after
    (record { size = outcome_long; put = λ e h old new at k. k.1 ∙ ap (λ (b : List ℕ). sets old.now at b) (outcome_is e h refl refl) })
