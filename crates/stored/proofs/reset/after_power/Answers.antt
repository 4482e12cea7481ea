use Rattle.std.proofs.Common.{rules}
use Rattle.rules.specs.Registers.{reset_at, says, table}
use Rattle.stored.specs.Stored.{bytes, channel_bytes, fan_bytes}
use Rattle.stored.proofs.reset.after_power.Goals as goal

pub returns : goal.returns
unfolding bytes channel_bytes fan_bytes reset_at says table
returns c = search rules
