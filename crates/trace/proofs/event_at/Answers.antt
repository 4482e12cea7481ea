use mathlib.Core.Path.{refl}
use Rattle.line.specs.Line.{first_line}
use Rattle.trace.proofs.Events.{wrong_kind, wrong_who, wrong_arg, wrong_val, four_lines}
use Rattle.trace.proofs.event_at.Goals as goal

pub returns-in_default : goal.returns-in_default
returns-in_default c = search wrong_kind

pub number_line-requires : goal.number_line-requires
unfolding first_line
number_line-requires c = refl

pub returns-in_default-number_line : goal.returns-in_default-number_line
returns-in_default-number_line c = search wrong_who

pub number_line-requires-2 : goal.number_line-requires-2
unfolding first_line
number_line-requires-2 c = refl

pub returns-in_default-number_line-2 : goal.returns-in_default-number_line-2
returns-in_default-number_line-2 c = search wrong_arg

pub number_line-requires-3 : goal.number_line-requires-3
unfolding first_line
number_line-requires-3 c = refl

pub returns-in_default-number_line-3 : goal.returns-in_default-number_line-3
returns-in_default-number_line-3 c = search wrong_val

pub returns : goal.returns
returns c = search four_lines
