use Rattle.display.proofs.LineLaws.{sent_appended}
use Rattle.display.proofs.lines.append_tenths.Goals as goal

pub returns : goal.returns
returns c = search sent_appended
