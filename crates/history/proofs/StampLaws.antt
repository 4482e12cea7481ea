-- The stamps of the keeper that the rules describe follow the list, and what is told of a fan's age is what they tell. Assumes nothing.
use Prim.Native.Nat.{ℕ, suc, ◌+◌, ◌%◌}
use mathlib.Core.Path.{◌≡◌, refl, sym, ap, ◌∙◌}
use mathlib.Core.Bool.{false}
use mathlib.Core.List.{◌∷◌}
use native.Mathlib.Omega.{arith}
use lib.IntN.{ℤ}
use Rattle.integer.proofs.BoolLaws.{by_cases}
use Rattle.event.specs.Kinds.{is_kind}
use Rattle.event.specs.declared.Event.{Event}
use Rattle.event.specs.declared.Kind.TheVariants as kind
use Rattle.rules.specs.Events.{is_number}
use Rattle.rules.specs.Stored.{Taken, powered}
use Rattle.rules.specs.Replies as replies
use Rattle.rules.specs.Duties.{duty}
use Rattle.rules.specs.Stamps.{clocks, stamp, sets_stamp, fan_stamp, age, age_for, told_both, explanation_for}
use Rattle.rules.proofs.TakenLaws.{Took, off_none}
use Rattle.input.specs.Inputs.{input_of}
use Rattle.device.specs.Stamping.{stamp_after, stamps_after}
use Rattle.keeper.specs.Keeping.{stamp_by}
use Rattle.reason.specs.Reasoning.{why_in, why_of}
use Rattle.reason.specs.Aging.{age_in, age_with, explanation_of, aged_of}
use Rattle.history.proofs.State.{fan_by, chip_by, stamps_by, device_by, state_by}
use Rattle.history.proofs.AcceptedLaws.{restart_is}
use Rattle.history.proofs.ReasonLaws.{why_is}

-- ---- one event

-- one more, modulo 65,536
one_more : (n : ℕ) → (n % 65536 + 1) % 65536 ≡ suc n % 65536
one_more n = omega arith

now_is : (e : Event) (d : Taken) → stamp_after (input_of e) (stamp d) ≡ stamp (e ∷ d)
unfolding stamp clocks
now_is e d =
    by_cases (is_kind kind.Power e)
    (λ p. rw p)
    (λ p. by_cases (is_kind kind.Clock e) (λ c. rw (p, c) (one_more (clocks d))) (λ c. rw (p, c)))

pub stamps_is : (e : Event) (d : Taken) → replies.out_of_range e ≡ false
    → stamps_after (input_of e) (stamps_by d) (chip_by d) (chip_by (e ∷ d)) ≡ stamps_by (e ∷ d)
unfolding stamps_after stamps_by chip_by fan_by fan_stamp sets_stamp duty
stamps_is e d fine = rw (now_is e d, restart_is e fine)

-- ---- what is told

pub stamp_is : {d : Taken} → Took d → stamp_by (state_by d) ≡ stamp d
unfolding stamp_by state_by device_by stamps_by
stamp_is {d} t =
    by_cases (powered d)
    (λ on. rw on)
    (λ off. rw off (sym (ap stamp (off_none t off) ∙ (unfold stamp clocks in refl))))

-- of the fan of a number: the age, alone and beside the reason
told : (d : Taken) (fan : ℤ)
    → (aged_of (state_by d) fan ≡ age_for fan d) × (explanation_of (state_by d) fan ≡ told_both (why_of (state_by d) fan) (age_for fan d))
unfolding aged_of explanation_of age_with age_in age_for why_of why_in state_by device_by stamps_by age
told d fan =
    by_cases (powered d)
    (λ on. by_cases (is_number fan 1)
    (λ y. rw (on, y) (refl, refl))
    (λ n. by_cases (is_number fan 2) (λ y. rw (on, n, y) (refl, refl)) (λ m. rw (on, n, m) (refl, refl))))
    (λ off. rw off (refl, refl))

pub age_is : (d : Taken) (fan : ℤ) → aged_of (state_by d) fan ≡ age_for fan d
age_is d fan = (told d fan).0

pub explanation_is : (d : Taken) (fan : ℤ) → explanation_of (state_by d) fan ≡ explanation_for fan d
explanation_is d fan = (told d fan).1 ∙ rw (why_is d fan)
