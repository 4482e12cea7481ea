use Rattle.explainer.proofs.WordLaws.{numbered_short}
use Rattle.buffer.proofs.AppendLaws.{append_then}
use Rattle.explainer.proofs.words.append_numbered.Goals as goal

pub returns : goal.returns
returns c = record { text_after = search append_then; short = search numbered_short }
