use Rattle.std.proofs.Common.{rules}
use Rattle.buffer.proofs.TextLaws.{below_zero, not_below_zero}
use Rattle.buffer.proofs.put_signed.Goals as goal

pub returns-then-v-lt0 : goal.returns-then-v-lt0
returns-then-v-lt0 c = rw (below_zero c.args.v c.ranges.v c.unsigned_abs-distance.ensures.value c.if-v-lt0.true) (search rules)

pub returns-else-v-lt0 : goal.returns-else-v-lt0
returns-else-v-lt0 c = rw (not_below_zero c.args.v c.ranges.v c.unsigned_abs-distance.ensures.value c.if-v-lt0.false) (search rules)
