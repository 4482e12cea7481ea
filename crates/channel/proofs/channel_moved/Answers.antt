use Rattle.channel.proofs.Laws.{moved_is}
use Rattle.channel.proofs.channel_moved.Goals as goal

pub returns : goal.returns
returns c = search moved_is
