use Rattle.std.proofs.Common.{rules}
use Rattle.decimal.proofs.ReadLaws.{unsigned_none, unsigned_zero, unsigned_lead, unsigned_run}
use Rattle.decimal.proofs.magnitude_of.Goals.{in_default-via-then-s-lt2+in_default-1, in_default-via-else-s-lt2+in_default-1}
use Rattle.decimal.proofs.magnitude_of.Goals as goal

pub returns-in-empty : goal.returns-in-empty
returns-in-empty c = search unsigned_none

pub returns-in-48 : goal.returns-in-48
returns-in-48 c = search unsigned_zero

pub returns-in-48-2 : goal.returns-in-48-2
returns-in-48-2 c = search unsigned_lead

pub returns-in_default : goal.returns-in_default
returns-in_default c = elim c.in_default.branch [
  | in_default-via-then-s-lt2+in_default-1 w ↦ search (unsigned_run, rules)
  | in_default-via-else-s-lt2+in_default-1 w ↦ search (unsigned_run, rules)
]
