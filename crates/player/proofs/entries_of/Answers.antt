use Rattle.std.proofs.Common.{refl}
use Rattle.trace_reader.proofs.Left.{all_left}
use Rattle.player.proofs.PlayedLaws.{short_new, played_new}
use Rattle.player.proofs.entries_of.Goals as goal

pub invariant_of-result : goal.invariant_of-result
invariant_of-result c = record { in_range = short_new c.args.text.now (all_left refl c.new.ensures) c.requires }

pub returns : goal.returns
returns c = played_new c.args.text.now (all_left refl c.new.ensures) c.off.ensures
