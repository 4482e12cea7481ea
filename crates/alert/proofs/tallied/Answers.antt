use Rattle.std.proofs.Common.{rules, List, [], ◌∷◌, ◌≡◌, ◌∙◌, ap, refl, reverse}
use Rattle.std.specs.List.{fold}
use Rattle.std.proofs.lemmas.List.{reverse-append}
use Rattle.std.proofs.lemmas.List.Sums.{fold-append}
use Rattle.std.proofs.lemmas.Iterator.Consumers.{fold_from_yields_List}
use Rattle.std.proofs.lemmas.Iterator.Adapters.{YieldsList-from_rev_slice}
use Rattle.event.specs.declared.AlertEntry.{AlertEntry}
use Rattle.alert.specs.declared.Tally.{Tally}
use Rattle.alert.specs.Tally.{no_entries, counted_of, tally_of}
use Rattle.alert.proofs.tallied.Goals as goal

tally_folds : (row : List AlertEntry) → fold counted_of no_entries (reverse row) ≡ tally_of row
unfolding tally_of
tally_folds [] = refl
tally_folds (e ∷ row) =
    ap (λ (es : List AlertEntry). fold counted_of no_entries es) (reverse-append (e ∷ []) row)
    ∙ fold-append counted_of no_entries (reverse row) (e ∷ [])
    ∙ ap (λ (t : Tally). counted_of t e) (tally_folds row)

pub returns : goal.returns
returns c =
    fold_from_yields_List _ counted_of c.no_entries.result c.fold.result c.fold.ensures.ran (YieldsList-from_rev_slice c.args.row.now (search rules))
    (λ a x b q k. search rules)
    ∙ rw c.no_entries.ensures (tally_folds c.args.row.now)
