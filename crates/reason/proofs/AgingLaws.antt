-- What the device of a keeper and the fan of a number tell is what is told of the keeper and the number. Assumes nothing.
use mathlib.Core.Path.{◌≡◌}
use lib.IntN.{ℤ}
use Rattle.integer.proofs.BoolLaws.{by_cases}
use Rattle.part.specs.declared.FanId.{FanId}
use Rattle.part.specs.declared.FanId.TheVariants.{One, Two}
use Rattle.event.specs.declared.Refusal.{Refusal}
use Rattle.event.specs.declared.Refusal.TheVariants.{NoPower, NoSuchPart}
use Rattle.rules.specs.Events.{is_number}
use Rattle.device.specs.declared.Device.{Device}
use Rattle.std.specs.Prelude.{Ok, Err}
use Rattle.keeper.specs.Keeping.{powered_device}
use Rattle.keeper.specs.declared.Keeper.{Keeper}
use Rattle.keeper.specs.declared.Keeper.TheVariants.{Off, On}
use Rattle.reason.specs.Reasoning.{why_in, why_of}
use Rattle.reason.specs.Aging.{explained_by, fan_numbered, age_in, age_with, explanation_of}

pub told_off : (k : Keeper) (fan : ℤ) {r : Refusal} → Err r ≡ powered_device k → Err r ≡ explanation_of k fan
unfolding explanation_of why_of
told_off Off fan {r} e = let t : r ≡ NoPower = cc in rw t
told_off (On d) fan e = cc

pub told_none : (k : Keeper) (fan : ℤ) {d : Device} {r : Refusal} → Ok d ≡ powered_device k → Err r ≡ fan_numbered fan → Err r ≡ explanation_of k fan
unfolding explanation_of why_of why_in
told_none Off fan e q = cc
told_none (On d) fan {r = r} e q =
    by_cases (is_number fan 1)
    (λ one. let x = rw one at q in cc)
    (λ other. by_cases (is_number fan 2)
    (λ two. let x = rw (other, two) at q in cc)
    (λ none. let x = rw (other, none) at q in let t : r ≡ NoSuchPart = cc in rw (other, none, t)))

pub told_fan : (k : Keeper) (fan : ℤ) {d : Device} {f : FanId} → Ok d ≡ powered_device k → Ok f ≡ fan_numbered fan
    → Ok (explained_by f d) ≡ explanation_of k fan
unfolding explanation_of why_of why_in age_with age_in
told_fan Off fan e q = cc
told_fan (On x) fan {d} {f} e q =
    let same : d ≡ x = cc in
    by_cases (is_number fan 1)
    (λ one. let p = rw one at q in let t : f ≡ One = cc in rw (one, t, same))
    (λ other. by_cases (is_number fan 2)
    (λ two. let p = rw (other, two) at q in let t : f ≡ Two = cc in rw (other, two, t, same))
    (λ none. let p = rw (other, none) at q in cc))
