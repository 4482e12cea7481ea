-- A text's first wrong line is the one at which its copy stops, where the buffer has room for all. Assumes nothing.
use Prim.Native.Nat.{ℕ, zero, suc, ◌-◌, ◌≤◌, ◌<◌}
use mathlib.Core.Path.{◌≡◌, refl, sym, ◌∙◌}
use mathlib.Core.List.{List, []}
use mathlib.Core.Bool.{cond}
use native.Mathlib.Omega.{arith}
use lib.Dec.{leb}
use lib.ListN.{length}
use borrow.Author.Tests.{le-leb, lt-leb}
use Rattle.trace.specs.Trace.{event_at}
use Rattle.trace.specs.declared.Misread.{Misread}
use Rattle.event.specs.declared.Event.{Event}
use Rattle.std.specs.Prelude.{Result, Ok, Err}
use Rattle.trace.proofs.Onward.{onward}
use Rattle.rewriter.specs.Rewritten.{copy_end_by, copy_end_from, copy_end}
use Rattle.rewriter.specs.Wrong.{wrong_line_by, wrong_line_from, wrong_line}

-- the wrong line of the event at an index; none at the end of the text
abbrev wrong_at : List ℕ → ℕ → List ℕ
wrong_at s at = cond (leb (length s) at) [] (wrong_line_by (event_at s at) s (λ next. []))

stops_from : (k : ℕ) (s : List ℕ) (at : ℕ) → length s - at ≤ k → wrong_line_from k s at ≡ wrong_at s (copy_end_from k s at (length s))
unfolding wrong_line_from copy_end_from
stops_from zero s at h = sym (rw (le-leb (length s) at (omega arith)))
stops_from (suc k) s at h = go (event_at s at) refl (λ next p. stops_from k s next (omega arith))
  where
    go : (r : Result (Event × ℕ) Misread) → r ≡ event_at s at
        → ((next : ℕ) → at < next → wrong_line_from k s next ≡ wrong_at s (copy_end_from k s next (length s)))
        → cond (leb (length s) at) [] (wrong_line_by r s (λ next. wrong_line_from k s next))
        ≡ wrong_at s (copy_end_by r at (length s) (λ next. copy_end_from k s next (length s)))
    go (Ok (e, next)) q ih =
        let o = onward s at q refl in
        rw (lt-leb (length s) at (omega (arith, o)), le-leb next (length s) (omega (arith, o))) (ih next (omega (arith, o)))
    go (Err w) q ih = rw (← q)

pub stops : (s : List ℕ) → wrong_line s ≡ wrong_at s (copy_end s (length s))
unfolding wrong_line copy_end
stops s = stops_from (length s) s 0 (omega arith)

-- a text that is copied whole has no wrong line
pub none_wrong : (s : List ℕ) → copy_end s (length s) ≡ length s → wrong_line s ≡ []
none_wrong s h = stops s ∙ rw (h, le-leb (length s) (length s) (omega arith))
