use Rattle.display.proofs.LineLaws.{word_appended}
use Rattle.display.proofs.lines.append_word.Goals as goal

pub returns : goal.returns
returns c = search word_appended
