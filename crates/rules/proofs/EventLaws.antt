-- An event by its kind: it is of no other, and a number in its range lies in that of its kind. Assumes nothing.
use Prim.Native.Nat.{ℕ, ◌≤◌}
use mathlib.Core.Path.{◌≡◌, sym, ap, ◌∙◌}
use mathlib.Core.Bool.{true, false, true≢false}
use lib.Dec.{eqb, leb}
use lib.IntN.{ℤ, pos, negsuc}
use lib.ListN.{get_or}
use borrow.Author.Tests.{eqb-true, leb-true, not-false}
use Rattle.integer.proofs.BoolLaws.{both}
use Rattle.event.specs.Kinds.{is_kind, place_of, kind_of}
use Rattle.event.specs.declared.Event.{Event}
use Rattle.event.specs.declared.Kind.{Kind}
use Rattle.rules.specs.Events.{who, arg, val, natural, from_to, Ranges, ranges, unused, lies, carried, ranges_of}
use Rattle.rules.specs.Replies.{fits_in, out_of_range}

-- an event of the kind at a place of the table is of no other
pub of_kind : (e : Event) (n : ℕ) → eqb (place_of (kind_of e)) n ≡ true → (k : Kind) → is_kind k e ≡ eqb n (place_of k)
of_kind e n y k = rw (eqb-true (place_of (kind_of e)) n y)

-- the ranges of the kind at a place of the table
abbrev pub ranges_at : ℕ → Ranges
ranges_at k = get_or carried k (ranges unused unused unused)

module _ (e : Event) (fine : out_of_range e ≡ false) (k : ℕ) (y : eqb (place_of (kind_of e)) k ≡ true) where
  fitted : fits_in (ranges_at k) e ≡ true
  unfolding ranges_of
  fitted = ap (λ (n : ℕ). fits_in (ranges_at n) e) (sym (eqb-true (place_of (kind_of e)) k y)) ∙ not-false _ fine

  pub who_lies : lies (ranges_at k).who (who e) ≡ true
  who_lies = (both (lies (ranges_at k).who (who e)) _ fitted).0

  pub arg_lies : lies (ranges_at k).arg (arg e) ≡ true
  arg_lies = (both (lies (ranges_at k).arg (arg e)) _ (both (lies (ranges_at k).who (who e)) _ fitted).1).0

  pub val_lies : lies (ranges_at k).val (val e) ≡ true
  val_lies = (both (lies (ranges_at k).arg (arg e)) _ (both (lies (ranges_at k).who (who e)) _ fitted).1).1

-- a number that lies in a range from 0 up is at most its high end
pub up_to : (high : ℕ) (low : ℕ) (v : ℤ) → lies (from_to (pos low) (pos high)) v ≡ true → natural v ≤ high
up_to high low (pos m) y = leb-true m high (both (leb low m) (leb m high) y).1
up_to high low (negsuc m) y = absurd (true≢false (sym y))
