use Rattle.std.proofs.Common.{sym, ◌∙◌}
use Rattle.std.proofs.lemmas.Result.{err_from_is_err_and}
use Rattle.imager.proofs.FigureLaws.{few_answer, few_left, few_kept, lone_answer, lone_left, lone_kept, same_front}
use Rattle.imager.proofs.FigureLaws.{refused_answer, refused_figures, refused_cases, untold_answer, untold_figures, untold_cases}
use Rattle.imager.proofs.FigureLaws.{told_all, told_figures, told_cases}
use Rattle.imager.proofs.panel.Goals as goal

pub returns-in_default-clause-value : goal.returns-in_default-clause-value
returns-in_default-clause-value c = few_answer _ _ _ c.in_default.ensures.cases

pub returns-in_default-clause-figures_after : goal.returns-in_default-clause-figures_after
returns-in_default-clause-figures_after c = few_left _ _ _ c.in_default.ensures.cases

pub returns-in_default-clause-cases_after : goal.returns-in_default-clause-cases_after
returns-in_default-clause-cases_after c = few_kept _ _ _ c.in_default.ensures.cases

pub returns-in_default-first_chunk_mut-clause-value : goal.returns-in_default-first_chunk_mut-clause-value
returns-in_default-first_chunk_mut-clause-value c = lone_answer _ _ _ c.in-Some.ensures.cases.enough c.in_default-first_chunk_mut.ensures.cases

pub returns-in_default-first_chunk_mut-clause-figures_after : goal.returns-in_default-first_chunk_mut-clause-figures_after
returns-in_default-first_chunk_mut-clause-figures_after c =
    let five = c.in-Some.ensures.cases in
    sym (same_front 5 _ five.same) ∙ lone_left _ _ _ five.enough c.in_default-first_chunk_mut.ensures.cases

pub returns-in_default-first_chunk_mut-clause-cases_after : goal.returns-in_default-first_chunk_mut-clause-cases_after
returns-in_default-first_chunk_mut-clause-cases_after c = lone_kept _ _ _ c.in-Some.ensures.cases.enough c.in_default-first_chunk_mut.ensures.cases

pub returns-in_err-after_all-clause-value : goal.returns-in_err-after_all-clause-value
returns-in_err-after_all-clause-value c =
    let p = err_from_is_err_and c.from_residual.result c.from_residual.ensures.1 in
    let five = c.in-Some.ensures.cases in
    let two = c.in-Some-first_chunk_mut.ensures.cases in
    rw (p.1, p.2) (refused_answer _ _ _ five.enough two.enough c.after_all.ensures c.in_err-after_all.was)

pub returns-in_err-after_all-clause-figures_after : goal.returns-in_err-after_all-clause-figures_after
returns-in_err-after_all-clause-figures_after c =
    let five = c.in-Some.ensures.cases in
    let two = c.in-Some-first_chunk_mut.ensures.cases in
    sym (same_front 5 _ five.same) ∙ refused_figures _ _ _ five.enough two.enough c.after_all.ensures c.in_err-after_all.was

pub returns-in_err-after_all-clause-cases_after : goal.returns-in_err-after_all-clause-cases_after
returns-in_err-after_all-clause-cases_after c =
    let five = c.in-Some.ensures.cases in
    let two = c.in-Some-first_chunk_mut.ensures.cases in
    sym (same_front 2 _ two.same) ∙ refused_cases _ _ _ five.enough two.enough c.after_all.ensures c.in_err-after_all.was

pub returns-in_err-panel-clause-value : goal.returns-in_err-panel-clause-value
returns-in_err-panel-clause-value c =
    let p = err_from_is_err_and c.from_residual-in_err-panel.result c.from_residual-in_err-panel.ensures.1 in
    let five = c.in-Some.ensures.cases in
    let two = c.in-Some-first_chunk_mut.ensures.cases in
    rw (p.1, p.2) (untold_answer _ _ _ five.enough two.enough c.after_all.ensures c.in_ok-after_all.was c.panel.ensures c.in_err-panel.was)

pub returns-in_err-panel-clause-figures_after : goal.returns-in_err-panel-clause-figures_after
returns-in_err-panel-clause-figures_after c =
    let five = c.in-Some.ensures.cases in
    let two = c.in-Some-first_chunk_mut.ensures.cases in
    sym (same_front 5 _ five.same) ∙ untold_figures _ _ _ five.enough two.enough c.after_all.ensures c.in_ok-after_all.was c.panel.ensures c.in_err-panel.was

pub returns-in_err-panel-clause-cases_after : goal.returns-in_err-panel-clause-cases_after
returns-in_err-panel-clause-cases_after c =
    let five = c.in-Some.ensures.cases in
    let two = c.in-Some-first_chunk_mut.ensures.cases in
    sym (same_front 2 _ two.same) ∙ untold_cases _ _ _ five.enough two.enough c.after_all.ensures c.in_ok-after_all.was c.panel.ensures c.in_err-panel.was

pub returns-clause-value : goal.returns-clause-value
returns-clause-value c =
    let five = c.in-Some.ensures.cases in
    let two = c.in-Some-first_chunk_mut.ensures.cases in
    told_all _ _ _ five.enough two.enough c.after_all.ensures c.in_ok-after_all.was c.panel.ensures c.in_ok-panel.was

pub returns-clause-figures_after : goal.returns-clause-figures_after
returns-clause-figures_after c =
    let five = c.in-Some.ensures.cases in
    let two = c.in-Some-first_chunk_mut.ensures.cases in
    told_figures _ _ _ five.enough two.enough c.after_all.ensures c.in_ok-after_all.was c.panel.ensures c.in_ok-panel.was c.panel_figures.ensures

pub returns-clause-cases_after : goal.returns-clause-cases_after
returns-clause-cases_after c =
    let five = c.in-Some.ensures.cases in
    let two = c.in-Some-first_chunk_mut.ensures.cases in
    told_cases _ _ _ five.enough two.enough c.after_all.ensures c.in_ok-after_all.was c.panel.ensures c.in_ok-panel.was c.panel_cases.ensures
