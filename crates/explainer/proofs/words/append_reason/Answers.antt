use native.Mathlib.Omega.{arith}
use mathlib.Core.List.{[], ◌∷◌}
use Rattle.explainer.specs.Words.{reason_words}
use Rattle.explainer.proofs.WordLaws.{reason_appended, numbered_as, reason_short, channel_short}
use Rattle.explainer.proofs.words.append_reason.Goals as goal

pub returns-in-Disabled : goal.returns-in-Disabled
unfolding reason_words
returns-in-Disabled c = record { text_after = search reason_appended; short = reason_short c.in-Disabled.is (omega arith) }

pub returns-in-PinLow : goal.returns-in-PinLow
unfolding reason_words
returns-in-PinLow c = record { text_after = search reason_appended; short = reason_short c.in-PinLow.is (omega arith) }

pub returns-in-Therm : goal.returns-in-Therm
unfolding reason_words
returns-in-Therm c = record {
  text_after = search (reason_appended, numbered_as);
  short = reason_short c.in-Therm.is (omega (arith, channel_short (116 ∷ 104 ∷ 101 ∷ 114 ∷ 109 ∷ 32 ∷ []) c.in-Therm.c));
}

pub returns-in-NoTarget : goal.returns-in-NoTarget
unfolding reason_words
returns-in-NoTarget c = record { text_after = search reason_appended; short = reason_short c.in-NoTarget.is (omega arith) }

pub returns-in-SpinUp : goal.returns-in-SpinUp
unfolding reason_words
returns-in-SpinUp c = record { text_after = search reason_appended; short = reason_short c.in-SpinUp.is (omega arith) }

pub returns-in-Ramp : goal.returns-in-Ramp
unfolding reason_words
returns-in-Ramp c = record { text_after = search reason_appended; short = reason_short c.in-Ramp.is c.append_ramp.ensures.short }

pub returns-in-Manual : goal.returns-in-Manual
unfolding reason_words
returns-in-Manual c = record { text_after = search reason_appended; short = reason_short c.in-Manual.is (omega arith) }

pub returns-in-Demand : goal.returns-in-Demand
unfolding reason_words
returns-in-Demand c = record {
  text_after = search (reason_appended, numbered_as);
  short = reason_short c.in-Demand.is (omega (arith, channel_short (100 ∷ 101 ∷ 109 ∷ 97 ∷ 110 ∷ 100 ∷ 32 ∷ []) c.in-Demand.c));
}
