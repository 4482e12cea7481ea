use native.Mathlib.Omega.{arith}
use Rattle.explainer.proofs.WordLaws.{ramp_appended, ramp_short}
use Rattle.explainer.proofs.words.append_ramp.Goals as goal

pub returns-then-r : goal.returns-then-r
returns-then-r c = record { text_after = search ramp_appended; short = search (arith, ramp_short) }

pub returns-else-r : goal.returns-else-r
returns-else-r c = record { text_after = search ramp_appended; short = search (arith, ramp_short) }
