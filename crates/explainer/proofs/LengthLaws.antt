-- The lines have at most 74 bytes, whatever the text: those of reasons at most 26 each, those of ages at most 11. Assumes nothing.
use Prim.Native.Nat.{ℕ, ◌+◌, ◌-◌, ◌≤◌}
use mathlib.Core.Path.{◌≡◌, refl}
use mathlib.Core.Bool.{Bool, true, false, not, ◌&&◌}
use mathlib.Core.List.{List, [], ◌∷◌, ◌++◌}
use native.Mathlib.Omega.{arith}
use lib.Dec.{eqb, ltb}
use lib.ListN.{length, get_or, length-append}
use borrow.Author.Rules.{rules}
use Rattle.integer.proofs.BoolLaws.{by_cases, either}
use Rattle.decimal.specs.Decimal.{decimal_of}
use Rattle.decimal.proofs.Laws.{decimal_width}
use Rattle.part.specs.declared.ChannelId.{ChannelId}
use Rattle.part.specs.declared.ChannelId.TheVariants.{Local, Remote1, Remote2}
use Rattle.part.specs.declared.FanId.{FanId}
use Rattle.part.specs.declared.FanId.TheVariants.{One, Two}
use Rattle.event.specs.declared.Event.{Event}
use Rattle.event.specs.declared.Ramp.{Ramp}
use Rattle.event.specs.declared.Reason.{Reason}
use Rattle.event.specs.declared.Reason.TheVariants as reason
use Rattle.rules.specs.Registers.{config1, behaviour, characteristics_at}
use Rattle.rules.specs.Fields.{spin_up_code, automatic, therm_drives_fans}
use Rattle.rules.specs.Stored.{Taken, stored_at, powered, pin_low}
use Rattle.rules.specs.Temperatures.{therm_asserted}
use Rattle.rules.specs.Targets.{target}
use Rattle.rules.specs.Replies.{History, taken}
use Rattle.rules.specs.Events.{channel_number, fan_number, restarts}
use Rattle.rules.specs.Reasons.{ramp_to, reason_for, why_for}
use Rattle.rules.specs.Stamps.{age, age_for}
use Rattle.rules.specs.Duties.{enabled, filtered, spin_up_of, Spin, left, prior, spin_up_starts, given_after, since_after, duty_after, spin_at, spin_after}
use Rattle.rules.specs.Duties.{spin, duty}
use Rattle.rules.proofs.FanWordsLaws.{at_each}
use Rattle.history.proofs.BoundsLaws.{target_small, bounds}
use Rattle.runner.proofs.LinesLaws.{lines_within}
use Rattle.explainer.specs.Words.{direction_word, ramp_words, reason_words, reason_line, age_line, fan_lines}
use Rattle.explainer.specs.Explained.{told_text, reason_lines, explained}

-- ---- a spin-up has at most 80 clocks

spin_up_small : (b : ℕ) → spin_up_of b ≤ 80
unfolding spin_up_of
spin_up_small b = at_each 8 (λ n. get_or (2 ∷ 4 ∷ 6 ∷ 8 ∷ 10 ∷ 20 ∷ 40 ∷ []) n 80 ≤ 80) (search rules) (spin_up_code b) (omega arith)

at_given : (duty given since : ℕ) → given ≤ 80 → (spin_at duty given since).given ≤ 80
at_given duty given since h = by_cases (eqb duty 0) (λ z. rw z (omega arith)) (λ z. rw z h)

prior_given : (e : Event) (w : Spin) → w.given ≤ 80 → (prior e w).given ≤ 80
prior_given e w h = by_cases (restarts e) (λ p. rw p (omega arith)) (λ p. rw p h)

given_small : (f : FanId) (d : Taken) → (spin f d).given ≤ 80
unfolding spin spin_after
given_small f [] = omega arith
given_small f (e ∷ d) =
    let w = prior e (spin f d) in
    at_given (duty_after f e d (ltb 0 (given_after f e d w - since_after f e d w)) w.duty) (given_after f e d w) (since_after f e d w)
    (either (λ x. x ≤ 80) (spin_up_starts f e d w) (spin_up_small (stored_at (characteristics_at f) (e ∷ d))) (prior_given e (spin f d) (given_small f d)))

clocks_small : (f : FanId) (d : Taken) → left (spin f d) ≤ 80
clocks_small f d = omega (arith, given_small f d)

-- ---- the numbers of a reason: no more than a period has slots

abbrev Small : Reason → Type 0
Small reason.Disabled = Unit
Small reason.PinLow = Unit
Small (reason.Therm c) = Unit
Small reason.NoTarget = Unit
Small (reason.SpinUp n) = n ≤ 240
Small (reason.Ramp r) = (r.left ≤ 240) × (r.target ≤ 240)
Small reason.Manual = Unit
Small (reason.Demand c) = Unit

ramp_small : (target duty : ℕ) → target ≤ 240 → duty ≤ 240 → Small (reason.Ramp (ramp_to target duty))
ramp_small target duty t u = (either (λ x. x ≤ 240) (ltb duty target) (omega arith) (omega arith), t)

small : (f : FanId) (d : Taken) → duty f d ≤ 240 → Small (reason_for f d)
unfolding reason_for
small f d slots =
    either Small (not (enabled f d)) tt
    (either Small (pin_low d) tt
    (either Small (therm_drives_fans (stored_at behaviour d) && therm_asserted d) tt
    (either Small (eqb (target f d) 0) tt
    (either Small (ltb 0 (left (spin f d))) (omega (arith, clocks_small f d))
    (either Small (filtered f d && not (eqb (duty f d) (target f d))) (ramp_small (target f d) (duty f d) (target_small f d) slots)
    (either Small (not (automatic (stored_at config1 d))) tt tt))))))

-- ---- its words

three : (n : ℕ) → n ≤ 240 → length (decimal_of n) ≤ 3
three n h = decimal_width 2 n (omega arith)

one_channel : (c : ChannelId) → length (decimal_of (channel_number c)) ≡ 1
unfolding decimal_of
one_channel Local = refl
one_channel Remote1 = refl
one_channel Remote2 = refl

one_fan : (f : FanId) → length (decimal_of (fan_number f)) ≡ 1
unfolding decimal_of
one_fan One = refl
one_fan Two = refl

direction_short : (up : Bool) → length (direction_word up) ≤ 6
direction_short true = omega arith
direction_short false = omega arith

ramp_length : (r : Ramp) → length (ramp_words r) ≡ 5 + length (decimal_of r.left) + length (direction_word r.up) + length (decimal_of r.target)
unfolding ramp_words
ramp_length r = simp length-append (omega arith)

short : (r : Reason) → Small r → length (reason_words r) ≤ 17
unfolding reason_words
short reason.Disabled h = omega arith
short reason.PinLow h = omega arith
short (reason.Therm c) h = omega (arith, one_channel c)
short reason.NoTarget h = omega arith
short (reason.SpinUp n) h = omega (arith, three n h)
short (reason.Ramp r) h = omega (arith, ramp_length r, direction_short r.up, three r.left h.0, three r.target h.1)
short reason.Manual h = omega arith
short (reason.Demand c) h = omega (arith, one_channel c)

-- ---- the lines

line_length : (f : FanId) (r : Reason) → length (reason_line f r) ≡ 8 + length (decimal_of (fan_number f)) + length (reason_words r)
unfolding reason_line
line_length f r = simp length-append (omega arith)

line_short : (f : FanId) (h : History) → length (reason_line f (reason_for f (taken h))) ≤ 26
line_short f h =
    let r = reason_for f (taken h) in
    omega (arith, line_length f r, one_fan f, short r (small f (taken h) ((bounds h).slots f)))

age_length : (f : FanId) (n : ℕ) → length (age_line f n) ≡ 5 + length (decimal_of (fan_number f)) + length (decimal_of n)
unfolding age_line
age_length f n = simp length-append (omega arith)

age_short : (f : FanId) (h : History) → length (age_line f (age f (taken h))) ≤ 11
unfolding age
age_short f h =
    let n = age f (taken h) in
    omega (arith, age_length f n, one_fan f, decimal_width 4 n (omega arith))

told_short : (h : History) → length (reason_lines h) ≤ 74
unfolding told_text why_for age_for fan_lines
told_short h =
    let one = reason_line One (reason_for One (taken h)) in
    let two = reason_line Two (reason_for Two (taken h)) in
    let age1 = age_line One (age One (taken h)) in
    let age2 = age_line Two (age Two (taken h)) in
    let reasons : length (one ++ two) ≤ 52 = omega (arith, length-append one two, line_short One h, line_short Two h) in
    let ages : length (age1 ++ age2) ≤ 22 = omega (arith, length-append age1 age2, age_short One h, age_short Two h) in
    by_cases (powered (taken h))
    (λ p. rw p (omega (arith, length-append (one ++ two) (age1 ++ age2), reasons, ages)))
    (λ p. rw p (omega arith))

pub lines_short : (text : List ℕ) → length (explained text) ≤ 74
lines_short text = lines_within reason_lines 74 (omega arith) told_short text
