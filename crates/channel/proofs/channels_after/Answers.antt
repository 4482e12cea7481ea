use Rattle.std.proofs.Common.{rules}
use Rattle.part.proofs.Laws.{channels_mapped}
use Rattle.channel.proofs.Laws.{left_alone, all_three}
use Rattle.channel.proofs.channels_after.Goals as goal

pub returns-then-untouched : goal.returns-then-untouched
returns-then-untouched c = search left_alone

pub returns : goal.returns
returns c = search (rules, all_three, channels_mapped)
