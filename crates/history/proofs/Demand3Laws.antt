-- Demand 3 holds of every list. Assumes nothing.
use mathlib.Core.Path.{◌≡◌, refl, ◌∙◌}
use mathlib.Core.Bool.{Bool, true, false, not, ◌&&◌, ◌||◌}
use native.Mathlib.Omega.{arith}
use lib.Dec.{eqb, ltb}
use borrow.Author.Tests.{ne_eqb}
use Rattle.integer.proofs.BoolLaws.{by_cases}
use Rattle.part.specs.declared.FanId.{FanId}
use Rattle.rules.specs.Replies.{History, taken}
use Rattle.rules.specs.Targets.{target, overridden}
use Rattle.rules.specs.Duties.{enabled, spin, duty}
use Rattle.rules.proofs.SoundLaws.{wanted, sound}
use Rattle.history.specs.Demand3.{Demand3}
use Rattle.history.proofs.MovingTargetLaws.{shown_is, moving_target_lem}
use Rattle.history.proofs.StillTargetLaws.{steady_follows, spin_follows}

at_full : (f : FanId) (h : History) → enabled f (taken h) ≡ true → overridden (taken h) ≡ true → duty f (taken h) ≡ 240
unfolding duty
at_full f h on over = (sound f (taken h)).at_full on over

or_swap : (a b : Bool) → (a || b) ≡ (b || a)
or_swap true true = refl
or_swap true false = refl
or_swap false true = refl
or_swap false false = refl

zero_is : (f : FanId) (h : History) → eqb (duty f (taken h)) 0 ≡ not (enabled f (taken h) && (overridden (taken h) || ltb 0 (target f (taken h))))
unfolding duty
zero_is f h =
    rw (or_swap (overridden (taken h)))
    (by_cases (wanted f (taken h))
    (λ y. rw y (ne_eqb (spin f (taken h)).duty 0 (λ z. omega (arith, (sound f (taken h)).turning y))))
    (λ n. rw (n, (sound f (taken h)).at_rest_lem n)))

pub demand3 : (es : History) → Demand3 es
demand3 es =
    record {
      full = λ f later now q on over. shown_is f now ∙ at_full f now on over;
      steady = steady_follows es (moving_target_lem es);
      spin = spin_follows es (moving_target_lem es);
      zero = λ f later now q. rw (shown_is f now) (zero_is f now);
    }
