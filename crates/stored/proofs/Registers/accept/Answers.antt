use Rattle.stored.proofs.PutLaws.{restarted, put_registers}
use Rattle.stored.proofs.Registers.accept.Goals as goal

pub returns-then-is_restart : goal.returns-then-is_restart
returns-then-is_restart c = search (restarted, c.after_power.ensures)

pub returns-in-Some : goal.returns-in-Some
returns-in-Some c = search (put_registers, c.in-Some.ensures)
