use Rattle.std.proofs.Common.{rules}
use Rattle.register.proofs.Laws.{mask_is}
use Rattle.register.proofs.mask_at.Goals as goal

pub returns : goal.returns
returns c = let h = mask_is c.args.a in search (rules, h)
