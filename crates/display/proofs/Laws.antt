-- What is put of a text: the lines of the panel, or the number of a refusal. Assumes nothing.
use Rattle.std.proofs.Common.{◌≡◌, ℕ, List, refl}
use Rattle.event.specs.declared.Panel as panel
use Rattle.std.specs.Prelude.{Result, Ok, Err}
use Rattle.event.specs.declared.Refusal.{Refusal}
use Rattle.keeper.specs.declared.Keeper as keeper
use Rattle.gauge.specs.Gauges.{paneled_of}
use Rattle.history.proofs.Agree.{agreement}
use Rattle.runner.specs.Reached.{last_by}
use Rattle.runner.proofs.LinesLaws.{refused_lines, kept_lines}
use Rattle.display.specs.Displayed.{panel_lines, displayed}
use Rattle.display.specs.Worked.{worked_told}
use Rattle.display.proofs.DisplaysLaws.{worked_is}

-- ---- what is told after the last event

module _ (text : List ℕ) where
  pub refused : {r : Refusal} → Err r ≡ last_by text → worked_told (Err r) ≡ displayed text
  unfolding worked_told
  refused is = refused_lines panel_lines text is refl

  pub shown : {k : keeper.Keeper} {t : Result panel.Panel Refusal} → Ok k ≡ last_by text → t ≡ paneled_of k → worked_told t ≡ displayed text
  shown kept e = kept_lines panel_lines text kept refl (λ h same. rw (e, same, (agreement h).panel) (worked_is h))
