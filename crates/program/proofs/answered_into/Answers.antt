use Rattle.std.proofs.Common.{refl}
use Rattle.program.proofs.Kept.{put_front}
use Rattle.program.proofs.Reading.{still_ok, told, put_for}
use Rattle.program.proofs.answered_into.Goals as goal

pub returns-clause-lines_after : goal.returns-clause-lines_after
returns-clause-lines_after g c = λ rule by.
    let text = still_ok _ _ _ c.map_err.ensures.cases c.map_err.ensures.variant c.in_ok-len.was c.filled.ensures.text in
    put_for rule (g.R.Read.remaining c.args.reader.now) c.args.lines.now _ text (by.held _ _ _ _ refl c.put.ensures)

pub returns-clause-written : goal.returns-clause-written
returns-clause-written g c = λ rule by.
    let text = still_ok _ _ _ c.map_err.ensures.cases c.map_err.ensures.variant c.in_ok-len.was c.filled.ensures.text in
    let written = still_ok _ _ _ c.map_err-2.ensures.cases c.map_err-2.ensures.variant c.in_ok-map_err.was c.write_all.ensures.bytes in
    let held = by.held _ _ _ _ refl c.put.ensures in
    let end = by.end _ _ _ _ refl c.put.ensures in
    told rule (g.R.Read.remaining c.args.reader.now) _ _ text (put_front _ _ (by.room _) held end c.min-end.ensures) written
