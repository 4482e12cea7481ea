use Rattle.reasoner.proofs.Laws.{channel_fits}
use Rattle.reasoner.proofs.channel_byte.Goals as goal

pub overflow_cast-result : goal.overflow_cast-result
overflow_cast-result c = search channel_fits
