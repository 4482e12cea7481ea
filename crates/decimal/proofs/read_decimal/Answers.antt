use Rattle.std.proofs.Common.{rules, ◌≡◌, Some}
use Rattle.decimal.specs.Decimal.{positive}
use Rattle.decimal.proofs.ReadLaws.{parse_minus, parse_minus_bad, parse_plus, parse_plus_bad, no_sign}
use Rattle.decimal.proofs.read_decimal.Goals.{then-s-lt1, else-s-lt1+in_default-1}
use Rattle.decimal.proofs.read_decimal.Goals as goal

pub returns-in_err-magnitude_of : goal.returns-in_err-magnitude_of
returns-in_err-magnitude_of c = rw c.from_residual.ensures (search (parse_minus_bad, c.in_err-magnitude_of.ensures))

pub returns-in-45 : goal.returns-in-45
returns-in-45 c = search (parse_minus, c.in_ok-magnitude_of.ensures)

pub returns-in_err-magnitude_of-2 : goal.returns-in_err-magnitude_of-2
returns-in_err-magnitude_of-2 c =
    let e = c.in_err-magnitude_of-2.ensures in
    rw c.from_residual-in_err-magnitude_of-2.ensures
    elim c.if-s-lt1.branch [
      | then-s-lt1 w ↦ (let n = no_sign c.args.s.now (search rules) in search (parse_plus_bad, e))
      | else-s-lt1+in_default-1 w ↦ search (parse_plus_bad, e)
    ]

pub returns : goal.returns
returns c =
    let e = c.in_ok-magnitude_of-2.ensures in
    let p : c.ok.result ≡ positive (Some c.in_ok-magnitude_of-2.field-0) = search rules in
    elim c.if-s-lt1.branch [
      | then-s-lt1 w ↦ (let n = no_sign c.args.s.now (search rules) in search (parse_plus, e))
      | else-s-lt1+in_default-1 w ↦ search (parse_plus, e)
    ]
