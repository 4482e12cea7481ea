use Rattle.imager.proofs.FigureLaws.{not_measured_lem, stalled}
use Rattle.imager.proofs.figures.speed_figure.Goals as goal

pub returns-in-NotMeasured : goal.returns-in-NotMeasured
returns-in-NotMeasured c = search not_measured_lem

pub returns-in-Stalled : goal.returns-in-Stalled
returns-in-Stalled c = search stalled
