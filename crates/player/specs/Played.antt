-- The same report by stepping a keeper, as the program works it out.
use Rattle.std.specs.Prelude.{ℕ, zero, suc, ◌+◌, List, [], ◌++◌, cond, leb, length, Result, Ok, Err}
use Rattle.trace.specs.Trace.{event_at}
use Rattle.trace.specs.declared.Misread.{Misread}
use Rattle.event.specs.declared.Event.{Event}
use Rattle.report.specs.Report.{entry_text, malformed_text}
use Rattle.keeper.specs.Keeping.{outcome_of}
use Rattle.keeper.specs.declared.Keeper.{Keeper}
use Rattle.keeper.specs.declared.Keeper.TheVariants.{Off}

abbrev pub lines_by : Result (Event × ℕ) Misread → (line : ℕ) → Keeper → (rest : ℕ → Keeper → List ℕ) → List ℕ
lines_by (Ok (e, next)) line k rest = entry_text (outcome_of k e).answer (outcome_of k e).shown ++ rest next (outcome_of k e).keeper
lines_by (Err w) line k rest = malformed_text (line + w.line)

unfoldable pub played_from : (fuel : ℕ) → List ℕ → (at line : ℕ) → Keeper → List ℕ
played_from zero text at line k = []
played_from (suc fuel) text at line k =
    cond (leb (length text) at) [] (lines_by (event_at text at) line k (λ next k'. played_from fuel text next (line + 4) k'))

unfoldable pub played_of : List ℕ → List ℕ
played_of text = played_from (length text) text 0 1 Off
