use Rattle.std.proofs.Common.{rules}
use Rattle.register.proofs.Laws.{reset_is}
use Rattle.register.proofs.reset_at.Goals as goal

pub returns : goal.returns
returns c = let h = reset_is c.args.a in search (rules, h)
