use Rattle.trace.proofs.Words.{word_left}
use Rattle.trace.proofs.word_of.Goals as goal

pub returns : goal.returns
returns c = rw c.kind_text.ensures (word_left c.args.kind)
