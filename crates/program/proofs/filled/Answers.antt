use Rattle.std.proofs.Common.{◌∙◌, ◌-◌, length, arith}
use borrow.Rule.Slice.PartMut.{same_len_mid}
use Rattle.program.proofs.Filling.{read_on}
use Rattle.program.proofs.filled.Goals as goal

pub loop-len-preserved : goal.loop-len-preserved
loop-len-preserved g c =
    let got = c.in_ok-got.ensures in
    let i = c.loop-len.invariant in
    let n = length c.loop-len.buffer - c.loop-len.len in
    let part = c.read.auto.buf in
    let same = same_len_mid c.loop-len.len n c.loop-len.buffer c.read.new.buf part in (
      omega (arith, same, got.bound.0, part, i),
      same ∙ i.1,
      read_on c.loop-len.len c.loop-len.buffer c.read.new.buf i.0 _ _ _ i.2 n _ got.bound.0 got.bytes.0,
    )
