use Rattle.std.proofs.Common.{arith, List, ◌≡◌, ◌∙◌, ap, ◌++◌, ◌≤◌, ℕ, get_or, length, take, drop, map, append-nil, false}
use Rattle.std.proofs.Math.Seq.{take-length, drop-length}
use Rattle.std.proofs.lemmas.List.{get_or_default}
use Rattle.std.proofs.lemmas.List.Edits.{map_over_more}
use Rattle.event.specs.declared.AlertEntry.{AlertEntry}
use Rattle.alert.specs.declared.Tally.{Tally}
use Rattle.alert.specs.Tally.{released_of, answered_of}
use Rattle.alert.proofs.TallyLaws.{answered_row, released_row}
use Rattle.alert.proofs.respond.Goals as goal

abbrev nobody : AlertEntry
nobody = record { address = 0; asserting = false }

pub loop-entry-preserved : goal.loop-entry-preserved
loop-entry-preserved c =
    rw c.released.ensures
    (map_over_more (released_of c.tallied-tally.result) c.args.row.now c.loop-entry.row c.loop-entry.entry-index
    (get_or c.loop-entry.row c.loop-entry.entry-index nobody)
    (omega arith) c.loop-entry.invariant (get_or_default c.loop-entry.row c.loop-entry.entry-index nobody _ (omega arith)))

-- all are let go
all_released : (t : Tally) (ys row : List AlertEntry) (j : ℕ) → length row ≡ length ys → j ≤ length row → length row ≤ j
    → row ≡ map (released_of t) (take j ys) ++ drop j ys → row ≡ map (released_of t) ys
all_released t ys row j e l m p = let whole : j ≡ length ys = omega arith in simp (whole, take-length, drop-length, append-nil) at p

pub returns : goal.returns
returns c =
    let all = c.tallied-tally.ensures in (
      c.answered.ensures ∙ ap answered_of all ∙ answered_row c.args.row.now,
      all_released c.tallied-tally.result c.args.row.now c.loop-entry.row c.loop-entry.entry-index (omega arith) (omega arith) (omega arith)
          c.loop-entry.invariant
          ∙ ap (λ (t : Tally). map (released_of t) c.args.row.now) all ∙ released_row c.args.row.now,
    )
