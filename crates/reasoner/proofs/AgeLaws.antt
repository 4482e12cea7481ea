-- The stamp and the ages of both fans: as they are put, and after an event. Assumes nothing.
use Prim.Native.Nat.{ℕ, suc, ◌+◌, ◌*◌, ◌≤◌, ◌<◌}
use mathlib.Core.Path.{◌≡◌, refl}
use mathlib.Core.List.{List, ◌∷◌}
use native.Mathlib.Omega.{arith}
use native.Mathlib.Numerals.{add-one}
use lib.IntN.{ℤ, pos}
use lib.ListN.{length, set, length-set}
use lib.Seq.{sets}
use Rattle.event.specs.declared.Event.{Event}
use Rattle.event.specs.declared.Refusal.{Refusal}
use Rattle.std.specs.Result.{result_unwrap_or}
use Rattle.rules.specs.Replies.{History}
use Rattle.keeper.specs.Keeping.{outcome_of, stamp_by}
use Rattle.keeper.specs.declared.Keeper.{Keeper}
use Rattle.keeper.specs.declared.Outcome.{Outcome}
use Rattle.reason.specs.Aging.{aged_of}
use Rattle.history.specs.Agreement.{run}
use Rattle.history.proofs.Agree.{agreement}
use Rattle.stepper.specs.Steps.{event_numbered, first_events, bytes_of}
use Rattle.std.specs.Prelude.{Option, Some, Result}
use Rattle.stepper.proofs.Laws.{next_held}
use Rattle.reasoner.specs.Ages.{ages_in, ages_after}
use Rattle.reasoner.proofs.Laws.{after_is}

-- ---- three numbers

module _ (d : List ℕ) (at : ℕ) (room : at + 3 ≤ length d) where
  pub second_room : (x : ℕ) → at + 1 < length (set d at x)
  second_room x = rw length-set (omega arith)

  pub third_room : (x y : ℕ) → at + 2 < length (set (set d at x) (at + 1) y)
  third_room x y = rw (length-set, length-set) (omega arith)

pub ages_put : (k : Keeper) (d : List ℕ) (at : ℕ) {n x y : ℕ} {one two : Result ℕ Refusal} → n ≡ stamp_by k → one ≡ aged_of k (pos 1)
    → x ≡ result_unwrap_or one 0 → two ≡ aged_of k (pos 2) → y ≡ result_unwrap_or two 0 → set (set (set d at n) (at + 1) x) (at + 2) y ≡ sets d at (ages_in k)
ages_put k d at e e1 ex e2 ey =
    let third : at + 2 ≡ suc (suc at) = omega arith in
    rw (e, ex, e1, ey, e2, third, add-one at)

-- ---- after an event

module _ (x : Event) (h : History) where
  pub ages_is : {k : Keeper} {o : Outcome} → k ≡ run h → o ≡ outcome_of k x → ages_in o.keeper ≡ ages_after x h
  ages_is before ho =
      rw (after_is x h before ho, (agreement (x ∷ h)).stamp, (agreement (x ∷ h)).age (pos 1), (agreement (x ∷ h)).age (pos 2))

  pub ages_long : length (ages_after x h) ≡ 3
  ages_long = refl
