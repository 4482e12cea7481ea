-- T-07 of document 02: since when a fan turns, by stamps of 16 bits, over the accepted events.
use Rattle.std.specs.Prelude.{ℕ, suc, ◌+◌, ◌-◌, ◌%◌, Bool, cond, ◌&&◌, ◌||◌, [], ◌∷◌, eqb, ltb, ℤ, Result, Ok, Err}
use Rattle.part.specs.declared.FanId.{FanId}
use Rattle.part.specs.declared.FanId.TheVariants.{One, Two}
use Rattle.event.specs.Answers.{refusal_number}
use Rattle.event.specs.Kinds.{is_kind}
use Rattle.event.specs.declared.Refusal.{Refusal}
use Rattle.event.specs.declared.Event.{Event}
use Rattle.event.specs.declared.Explanation.{Explanation}
use Rattle.event.specs.declared.Reason.{Reason}
use Rattle.std.specs.Result.{result_unwrap_or}
use Rattle.event.specs.declared.Kind.TheVariants as kind
use Rattle.event.specs.declared.Refusal.TheVariants.{NoPower, NoSuchPart}
use Rattle.rules.specs.Events.{is_number, fan_number, restarts}
use Rattle.rules.specs.Stored.{Taken, powered}
use Rattle.rules.specs.Duties.{duty}
use Rattle.rules.specs.Reasons.{why_for}

-- the clock events since power; only accepted ones are in the list
unfoldable pub clocks : Taken → ℕ
clocks [] = 0
clocks (e ∷ d) = cond (is_kind kind.Power e) 0 (cond (is_kind kind.Clock e) (suc (clocks d)) (clocks d))

-- the stamp: their number modulo 65,536
unfoldable pub stamp : Taken → ℕ
stamp d = clocks d % 65536

-- a fan's stamp is set where its duty goes from 0 to more, by power and by a software reset
unfoldable pub sets_stamp : FanId → Event → Taken → Bool
sets_stamp f e d = restarts e || (eqb (duty f d) 0 && ltb 0 (duty f (e ∷ d)))

-- to the stamp after that event, which is 0 after power
unfoldable pub fan_stamp : FanId → Taken → ℕ
fan_stamp f [] = 0
fan_stamp f (e ∷ d) = cond (sets_stamp f e d) (stamp (e ∷ d)) (fan_stamp f d)

-- the age: their difference modulo 65,536
unfoldable pub age : FanId → Taken → ℕ
age f d = (stamp d + (65536 - fan_stamp f d)) % 65536

-- what is told of the fan of a number: 1 before power, 3 for a number that is no fan's, else the age
unfoldable pub age_for : (fan : ℤ) → Taken → Result ℕ Refusal
age_for n d =
    cond (powered d)
    (cond (is_number n (fan_number One)) (Ok (age One d))
    (cond (is_number n (fan_number Two)) (Ok (age Two d)) (Err NoSuchPart)))
    (Err NoPower)

-- the number of the reply, 0 where there is an age; the clocks told, 0 where there is none
abbrev pub age_number : Result ℕ Refusal → ℕ
age_number (Ok n) = 0
age_number (Err r) = refusal_number r

abbrev pub age_clocks : Result ℕ Refusal → ℕ
age_clocks a = result_unwrap_or a 0

-- in one answer: the reason (T-03) and beside it the age, where both are told
abbrev pub told_both : Result Reason Refusal → Result ℕ Refusal → Result Explanation Refusal
told_both (Ok r) (Ok n) = Ok (record { reason = r; age = n })
told_both (Ok r) (Err e) = Err e
told_both (Err e) a = Err e

abbrev pub explanation_for : (fan : ℤ) → Taken → Result Explanation Refusal
explanation_for n d = told_both (why_for n d) (age_for n d)

-- the reason in such an answer; and the age, 0 where none is told
abbrev pub reason_told : Result Explanation Refusal → Result Reason Refusal
reason_told (Ok x) = Ok x.reason
reason_told (Err e) = Err e

abbrev pub age_told : Result Explanation Refusal → ℕ
age_told (Ok x) = x.age
age_told (Err e) = 0
