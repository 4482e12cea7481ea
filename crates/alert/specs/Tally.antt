-- A row of alert entries, counted one by one from its last: what the code knows of the entries so far, and what it makes of that.
use Rattle.std.specs.Prelude.{ℕ, min, Bool, false, cond, not, ◌&&◌, ◌||◌, List, [], ◌∷◌, leb, eqb, Option, Some, None, Result, Err}
use Rattle.std.specs.Option.{is_none, unwrap_or, ok_or}
use Rattle.event.specs.declared.AlertEntry.{AlertEntry}
use Rattle.event.specs.declared.Refusal.{Refusal}
use Rattle.event.specs.declared.Refusal.TheVariants.{OutOfRange, NoAlert}
use Rattle.alert.specs.declared.Tally.{Tally}

abbrev pub no_entries : Tally
no_entries = record { outside = false; twice = false; has44 = false; has45 = false; has46 = false; lowest = None }

abbrev pub lower_of : AlertEntry → Option ℕ → Option ℕ
lower_of e lowest = cond e.asserting (Some (min e.address (unwrap_or lowest 255))) lowest

abbrev pub counted_of : Tally → AlertEntry → Tally
counted_of t e =
    record {
      outside = not (leb 44 e.address && leb e.address 46) || t.outside;
      twice = ((eqb e.address 44 && t.has44) || ((eqb e.address 45 && t.has45) || (eqb e.address 46 && t.has46))) || t.twice;
      has44 = eqb e.address 44 || t.has44;
      has45 = eqb e.address 45 || t.has45;
      has46 = eqb e.address 46 || t.has46;
      lowest = lower_of e t.lowest;
    }

unfoldable pub tally_of : List AlertEntry → Tally
tally_of [] = no_entries
tally_of (e ∷ row) = counted_of (tally_of row) e

-- such a row is refused where one is outside, or has no alert
abbrev pub has_no_alert : Tally → Bool
has_no_alert t = is_none t.lowest || t.twice

abbrev pub is_refused : Tally → Bool
is_refused t = t.outside || has_no_alert t

-- what becomes of an entry: the one that answers is let go, and none of a row that is refused
abbrev pub released_of : Tally → AlertEntry → AlertEntry
released_of t e = record { address = e.address; asserting = e.asserting && not (not (is_refused t) && eqb e.address (unwrap_or t.lowest 255)) }

abbrev pub answered_of : Tally → Result ℕ Refusal
answered_of t = cond t.outside (Err OutOfRange) (cond t.twice (Err NoAlert) (ok_or t.lowest NoAlert))
