use Rattle.std.proofs.Common.{rules}
use Rattle.stepper.proofs.Laws.{uneven_refused, uneven_held, short_refused, short_held, answered, answered_held, all_fits}
use Rattle.stepper.proofs.put_each.Goals as goal

pub returns-then-numbers-gt0-clause-value : goal.returns-then-numbers-gt0-clause-value
returns-then-numbers-gt0-clause-value g c = search uneven_refused

pub returns-then-numbers-gt0-clause-told : goal.returns-then-numbers-gt0-clause-told
returns-then-numbers-gt0-clause-told g c = λ each p. search uneven_held

pub returns-then-buffer-width-clause-value : goal.returns-then-buffer-width-clause-value
returns-then-buffer-width-clause-value g c = search (short_refused, rules)

pub returns-then-buffer-width-clause-told : goal.returns-then-buffer-width-clause-told
returns-then-buffer-width-clause-told g c = λ each p. search (short_held, rules)

pub overflow_mul-result : goal.overflow_mul-result
overflow_mul-result g c = search (all_fits, rules)

pub returns-clause-value : goal.returns-clause-value
returns-clause-value g c = search answered

pub returns-clause-told : goal.returns-clause-told
returns-clause-told g c = λ each p. let h = c.put_all.ensures.told each p in search answered_held
