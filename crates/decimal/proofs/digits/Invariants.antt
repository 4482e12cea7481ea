-- The invariant: the digits that are left, after the value v of those before, are the digits of s.
use Rattle.std.proofs.Common.{◌≡◌, ◌≤◌, drop}
use Rattle.decimal.specs.Decimal.{digits_from}
use Rattle.decimal.proofs.digits.Given as goal

abbrev pub invariant-loop-b : goal.invariant-loop-b
invariant-loop-b l = (l.v ≤ 2147483648) × (digits_from 0 l.s ≡ digits_from l.v (drop l.b-index l.s))
