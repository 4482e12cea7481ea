use Rattle.program.proofs.Reading.{still_ok, told}
use Rattle.program.proofs.heap.answered.Goals as goal

pub returns-clause-written : goal.returns-clause-written
returns-clause-written g c = λ rule by.
    let text = still_ok _ _ _ c.map_err.ensures.cases c.map_err.ensures.variant c.in_ok-text.was c.text_of.ensures.text in
    let lines = still_ok _ _ _ c.map_err-2.ensures.cases c.map_err-2.ensures.variant c.in_ok-lines.was (c.lines.ensures rule by) in
    let written = still_ok _ _ _ c.map_err-3.ensures.cases c.map_err-3.ensures.variant c.in_ok-map_err.was c.write_all.ensures.bytes in
    told rule (g.R.Read.remaining c.args.reader.now) _ _ text (rw c.deref.ensures.value at lines) (rw c.deref-2.ensures.value at written)
