-- Accepted events: what each passed, and lists of them. Assumes nothing.
use Prim.Native.Nat.{ℕ, ◌≤◌}
use mathlib.Core.Path.{◌≡◌, refl, sym, ◌∙◌}
use mathlib.Core.Bool.{Bool, true, false, cond, not, ◌&&◌, ◌||◌, true≢false}
use mathlib.Core.List.{[], ◌∷◌}
use native.Mathlib.Omega.{arith}
use Rattle.integer.proofs.BoolLaws.{by_cases}
use Rattle.event.specs.Kinds.{is_kind}
use Rattle.std.specs.Prelude.{Result, Err}
use Rattle.event.specs.declared.Refusal.{Refusal}
use Rattle.event.specs.declared.Refusal.TheVariants.{NoPower, OtherAddress, NoSuchPart, NoSuchRegister, ReadOnly, OutOfRange, BadRangeCode, OddLocal}
use Rattle.event.specs.declared.Event.{Event}
use Rattle.event.specs.declared.Kind.TheVariants as kind
use Rattle.rules.specs.Events.{who}
use Rattle.rules.specs.Stored.{Taken, powered, own_address}
use Rattle.rules.specs.Replies.{no_power, other_address, no_part, no_register, read_only, out_of_range, bad_code, odd_local, lowest, reply_to, accepts, History}
use Rattle.rules.specs.Replies.{taken, accepted}
use Rattle.rules.proofs.EventLaws.{up_to, who_lies}

-- a test that refuses did not apply
passes : (t : Bool) (r : Refusal) (b : Result ℕ Refusal) → accepts (Err r) ≡ false → accepts (cond t (Err r) b) ≡ true → (t ≡ false) × (accepts b ≡ true)
passes true r b n y = absurd (true≢false (sym y ∙ n))
passes false r b n y = (refl, y)

-- what an accepted event passed: there is power or it is one, its register exists and may be written, its numbers are in their ranges,
-- a local sample is even
pub record Passed (on : Bool) (e : Event) : Type 0 where
  pub power : no_power on e ≡ false
  pub register : no_register e ≡ false
  pub free : read_only e ≡ false
  pub range : out_of_range e ≡ false
  pub even : odd_local e ≡ false

passed : (on : Bool) (own : ℕ) (monitoring error1 error2 : Bool) (e : Event) → accepts (lowest on own monitoring error1 error2 e) ≡ true → Passed on e
unfolding lowest
passed on own monitoring error1 error2 e y =
    let p1 = passes (no_power on e) NoPower _ refl y in
    let p2 = passes (other_address own e) OtherAddress _ refl p1.1 in
    let p3 = passes (no_part e) NoSuchPart _ refl p2.1 in
    let p4 = passes (no_register e) NoSuchRegister _ refl p3.1 in
    let p5 = passes (read_only e) ReadOnly _ refl p4.1 in
    let p6 = passes (out_of_range e) OutOfRange _ refl p5.1 in
    let p7 = passes (bad_code e) BadRangeCode _ refl p6.1 in
    let p8 = passes (odd_local e) OddLocal _ refl p7.1 in
    record { power = p1.0; register = p4.0; free = p5.0; range = p6.0; even = p8.0 }

pub went : (e : Event) (d : Taken) → accepts (reply_to e d) ≡ true → Passed (powered d) e
unfolding reply_to
went e d go = passed (powered d) _ _ _ _ e go

-- ---- lists

-- a refused event is as if it had not been
pub refused_is : (e : Event) (h : History) → accepted e h ≡ false → taken (e ∷ h) ≡ taken h
unfolding taken
refused_is e h bad = rw bad

pub accepted_is : (e : Event) (h : History) → accepted e h ≡ true → taken (e ∷ h) ≡ (e ∷ taken h)
unfolding taken
accepted_is e h go = rw go

-- each event was accepted after those before it
pub data Took : Taken → Type 0 where
  none : Took []
  more : {e : Event} {d : Taken} → accepts (reply_to e d) ≡ true → Took d → Took (e ∷ d)

pub took : (h : History) → Took (taken h)
unfolding taken
took [] = none
took (e ∷ h) =
    by_cases (accepts (reply_to e (taken h)))
    (λ go. rw go (more go (took h)))
    (λ bad. rw bad (took h))

-- ---- power

-- after an accepted event there is power
pub on_after : (e : Event) (d : Taken) → accepts (reply_to e d) ≡ true → powered (e ∷ d) ≡ true
unfolding powered
on_after e d go = or_not (powered d) (is_kind kind.Power e) (went e d go).power
  where
    or_not : (on up : Bool) → (not on && not up) ≡ false → (up || on) ≡ true
    or_not true true q = refl
    or_not true false q = refl
    or_not false true q = refl
    or_not false false q = absurd (true≢false q)

-- without power no event was accepted
pub off_none : {d : Taken} → Took d → powered d ≡ false → d ≡ []
off_none none off = refl
off_none (more {e = e} {d = d} go t) off = absurd (true≢false (sym (on_after e d go) ∙ off))

-- the own address is one of 44 to 46, 0 before power
own_after : (e : Event) (d : Taken) → out_of_range e ≡ false → own_address d ≤ 46 → own_address (e ∷ d) ≤ 46
unfolding own_address
own_after e d fine was = by_cases (is_kind kind.Power e) (λ p. rw p (up_to 46 44 (who e) (who_lies e fine 0 p))) (λ p. rw p was)

pub own_small : {d : Taken} → Took d → own_address d ≤ 46
own_small none = (unfold own_address in omega arith)
own_small (more {e = e} {d = d} go t) = own_after e d (went e d go).range (own_small t)
