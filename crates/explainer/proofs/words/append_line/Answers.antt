use Rattle.explainer.proofs.WordLaws.{line_appended, line_short}
use Rattle.explainer.proofs.words.append_line.Goals as goal

pub returns : goal.returns
returns c = record { text_after = search line_appended; short = search line_short }
