use Rattle.channel.proofs.Laws.{kept_is}
use Rattle.channel.proofs.channel_after.Goals as goal

pub returns-then-passes_by : goal.returns-then-passes_by
returns-then-passes_by c = search kept_is
