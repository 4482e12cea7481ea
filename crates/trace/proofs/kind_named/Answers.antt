use Rattle.std.proofs.Common.{rules}
use Rattle.std.proofs.lemmas.Iterator.{YieldsList-from_slice}
use Rattle.std.proofs.lemmas.Iterator.Consumers.{YieldsList-from_copied}
use Rattle.std.proofs.lemmas.Iterator.Search.{find_from_yields_List}
use Rattle.event.specs.Kinds.{kinds}
use Rattle.line.specs.Line.{same_bytes}
use Rattle.trace.specs.Words.{word_of}
use Rattle.trace.proofs.Finding.{named_behind, none_named}
use Rattle.trace.proofs.kind_named.Goals as goal

pub returns : goal.returns
unfolding same_bytes
returns c =
    let word = c.in_ok-word.word.now in
    let h = find_from_yields_List (λ k. same_bytes word (word_of k)) _ _ c.find.result c.find.ensures.ran
    (YieldsList-from_copied (YieldsList-from_slice kinds (search rules))) (λ x b q k. search rules) in
    named_behind c.args.line.now word c.find.result c.in_ok-word.ensures.cases.0 c.in_ok-word.ensures.cases.1 h

pub returns-in_err-word : goal.returns-in_err-word
unfolding same_bytes
returns-in_err-word c = rw c.from_residual.ensures (none_named c.args.line.now c.in_err-word.ensures.cases)
