-- T-07 of document 02, of a keeper as it stands: the age of a fan, beside the reason for its duty.
use Rattle.std.specs.Prelude.{ℕ, cond, ℤ, Result, Ok, Err}
use Rattle.part.specs.declared.FanId.{FanId}
use Rattle.part.specs.declared.FanId.TheVariants.{One, Two}
use Rattle.event.specs.declared.Explanation.{Explanation}
use Rattle.event.specs.declared.Reason.{Reason}
use Rattle.event.specs.declared.Refusal.{Refusal}
use Rattle.event.specs.declared.Refusal.TheVariants.{NoSuchPart}
use Rattle.rules.specs.Events.{is_number, fan_number}
use Rattle.device.specs.Stamping.{age_of}
use Rattle.device.specs.declared.Device.{Device}
use Rattle.device.specs.declared.Stamps.{Stamps}
use Rattle.keeper.specs.declared.Keeper.{Keeper}
use Rattle.keeper.specs.declared.Keeper.TheVariants.{Off, On}
use Rattle.reason.specs.Reasoning.{reason_of, why_of}

-- of a fan
abbrev pub explained_by : FanId → Device → Explanation
explained_by f d = record { reason = reason_of f d.chip; age = age_of f d.stamps }

-- the fan of a number: 3 for a number that is no fan's
abbrev pub fan_numbered : (fan : ℤ) → Result FanId Refusal
fan_numbered n = cond (is_number n (fan_number One)) (Ok One) (cond (is_number n (fan_number Two)) (Ok Two) (Err NoSuchPart))

-- the age of the fan of a number, 0 where it is no fan's; of a keeper, 0 before power
unfoldable pub age_in : (fan : ℤ) → Stamps → ℕ
age_in n s = cond (is_number n (fan_number One)) (age_of One s) (cond (is_number n (fan_number Two)) (age_of Two s) 0)

unfoldable pub age_with : Keeper → (fan : ℤ) → ℕ
unfolding age_in
age_with Off n = 0
age_with (On d) n = age_in n d.stamps

-- what T-03 tells, and the age beside it where it tells a reason
abbrev pub with_age : Result Reason Refusal → (clocks : ℕ) → Result Explanation Refusal
with_age (Ok r) n = Ok (record { reason = r; age = n })
with_age (Err e) n = Err e

unfoldable pub explanation_of : Keeper → (fan : ℤ) → Result Explanation Refusal
unfolding why_of age_with
explanation_of k n = with_age (why_of k n) (age_with k n)

-- the age alone, refused as the reason is
abbrev pub age_alone : Result Explanation Refusal → Result ℕ Refusal
age_alone (Ok x) = Ok x.age
age_alone (Err r) = Err r

unfoldable pub aged_of : Keeper → (fan : ℤ) → Result ℕ Refusal
unfolding explanation_of
aged_of k n = age_alone (explanation_of k n)
