-- What is put of a text: the lines of both fans, or the number of a refusal. Assumes nothing.
use Prim.Native.Nat.{ℕ}
use mathlib.Core.Path.{◌≡◌, refl}
use mathlib.Core.List.{List}
use lib.IntN.{pos}
use Rattle.event.specs.Answers.{refusal_number}
use Rattle.event.specs.declared.Explanation.{Explanation}
use Rattle.event.specs.declared.Refusal.{Refusal}
use Rattle.std.specs.Prelude.{Result, Ok, Err}
use Rattle.report.specs.Report.{answer_text}
use Rattle.keeper.specs.declared.Keeper as keeper
use Rattle.reason.specs.Aging.{explanation_of}
use Rattle.history.proofs.Agree.{agreement}
use Rattle.runner.specs.Reached.{last_by}
use Rattle.runner.proofs.LinesLaws.{refused_lines, kept_lines}
use Rattle.explainer.specs.Words.{fan_lines}
use Rattle.explainer.specs.Explained.{told_text, reason_lines, explained}

-- ---- what is told of both fans after the last event

module _ (text : List ℕ) where
  pub refused : {r : Refusal} → Err r ≡ last_by text → answer_text (refusal_number r) ≡ explained text
  refused is = refused_lines reason_lines text is refl

  module _ {k : keeper.Keeper} (kept : Ok k ≡ last_by text) where
    asked : {one two : Result Explanation Refusal} → one ≡ explanation_of k (pos 1) → two ≡ explanation_of k (pos 2) → told_text one two ≡ explained text
    asked a b = kept_lines reason_lines text kept refl (λ h same. rw (a, b, same, (agreement h).explanation (pos 1), (agreement h).explanation (pos 2)))

    pub told_first : {r : Refusal} → Err r ≡ explanation_of k (pos 1) → answer_text (refusal_number r) ≡ explained text
    unfolding told_text
    told_first a = asked a refl

    pub told_second : {x : Explanation} {r : Refusal} → Ok x ≡ explanation_of k (pos 1) → Err r ≡ explanation_of k (pos 2) →
        answer_text (refusal_number r) ≡ explained text
    unfolding told_text
    told_second a b = asked a b

    pub told_both : {x y : Explanation} → Ok x ≡ explanation_of k (pos 1) → Ok y ≡ explanation_of k (pos 2) →
        fan_lines x.reason y.reason x.age y.age ≡ explained text
    unfolding told_text
    told_both a b = asked a b
