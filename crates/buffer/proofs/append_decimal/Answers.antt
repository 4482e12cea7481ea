use Rattle.decimal.proofs.Laws.{word_width}
use Rattle.buffer.proofs.AppendLaws.{aside_room, aside_counted, aside_append}
use Rattle.buffer.proofs.append_decimal.Goals as goal

pub slice_bounds-digits-end : goal.slice_bounds-digits-end
slice_bounds-digits-end c = search (aside_room, word_width)

pub slice_bounds-append-end : goal.slice_bounds-append-end
slice_bounds-append-end c = search (aside_counted, word_width)

pub returns : goal.returns
returns c = search (aside_append, word_width)
