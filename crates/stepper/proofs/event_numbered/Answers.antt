use Rattle.std.proofs.Common.{[], ◌∙◌, ap, get_or, rules}
use Rattle.stepper.proofs.Laws.{no_numbers, is_at}
use Rattle.stepper.proofs.event_numbered.Goals as goal

pub returns-in_err-kind : goal.returns-in_err-kind
returns-in_err-kind c = c.from_residual.ensures ∙ no_numbers _ _ (rw c.as_chunks.ensures.front_len at c.in_err-kind.ensures.lookup.3)

pub returns : goal.returns
returns c =
    let at = c.in_ok-kind.ensures.lookup.3 in
    let chunk = at.1 [] ∙ ap (λ l. get_or l c.args.i []) c.as_chunks.ensures.front in
    is_at _ _ (rw c.as_chunks.ensures.front_len at at.0) chunk (search rules) (search rules) (search rules) (search rules) c.event_from.ensures
