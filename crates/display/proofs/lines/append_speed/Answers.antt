use Rattle.display.proofs.LineLaws.{none_appended, stalled_appended, speed_appended}
use Rattle.display.proofs.lines.append_speed.Goals as goal

pub returns-in-NotMeasured : goal.returns-in-NotMeasured
returns-in-NotMeasured c = search none_appended

pub returns-in-Stalled : goal.returns-in-Stalled
returns-in-Stalled c = search stalled_appended

pub returns-in-Speed : goal.returns-in-Speed
returns-in-Speed c = search speed_appended
