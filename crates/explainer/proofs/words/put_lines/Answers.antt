use Rattle.buffer.proofs.WholeLaws.{put_as, held_as}
use Rattle.explainer.proofs.WordLaws.{lines_appended}
use Rattle.explainer.proofs.words.put_lines.Goals as goal

pub returns : goal.returns
returns c = record { value = search (put_as, lines_appended); buf_after = search (held_as, lines_appended) }
