use Rattle.explainer.proofs.WordLaws.{age_appended, age_short}
use Rattle.explainer.proofs.words.append_age.Goals as goal

pub returns : goal.returns
returns c = record { text_after = search age_appended; short = search age_short }
