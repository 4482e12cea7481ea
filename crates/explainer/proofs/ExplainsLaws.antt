-- What is printed of a text, by what it was written of. Assumes nothing.
use Prim.Native.Nat.{ℕ}
use mathlib.Core.Path.{◌∙◌}
use mathlib.Core.List.{List}
use Rattle.decimal.specs.Decimal.{decimal_of}
use Rattle.rules.specs.Reasons.{why_for}
use Rattle.rules.specs.Stamps.{age_for}
use Rattle.report.specs.Report.{field_text, answer_text}
use Rattle.runner.proofs.LinesLaws.{lines_of}
use Rattle.explainer.specs.Words.{age_line, fan_lines}
use Rattle.explainer.specs.Explained.{told_text, reason_lines}
use Rattle.explainer.specs.Explains.{Explains}

pub explains : (text : List ℕ) → Explains text
unfolding told_text fan_lines age_line why_for age_for answer_text field_text decimal_of
explains text =
    let page = lines_of reason_lines text in
    record {
      long = page.long;
      wrong = page.wrong;
      off = λ h t no. page.events h t ∙ rw no;
      lines = λ h one two m n t a b x y. page.events h t ∙ rw (a, b, x, y);
    }
