use Rattle.display.proofs.LineLaws.{short_then, whole_short, whole_else}
use Rattle.display.proofs.lines.whole.Goals as goal

pub truncating_f64_to_u64-requires : goal.truncating_f64_to_u64-requires
truncating_f64_to_u64-requires c =
    let s = short_then _ c.is_short.ensures c.if-is_short.true in
    record { lower_bound = s.0; upper_bound = s.1 }

pub returns-then-is_short : goal.returns-then-is_short
returns-then-is_short c =
    whole_short _ c.is_short.ensures c.try_from.result c.if-is_short.true c.truncating_f64_to_u64.ensures c.try_from.ensures
    c.unwrap_or.ensures c.unwrap_or.type_inv

pub returns : goal.returns
returns c = whole_else _ c.is_short.ensures c.if-is_short.false
