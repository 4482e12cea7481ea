-- The page of reasons holds after every list. Assumes nothing.
use Prim.Native.Nat.{◌<◌}
use mathlib.Core.Path.{◌≡◌, refl, sym, ap, ◌∙◌}
use mathlib.Core.Bool.{true, false, or-true}
use mathlib.Core.List.{[], ◌∷◌}
use native.Mathlib.Omega.{arith}
use lib.IntN.{ℤ}
use borrow.Author.Tests.{not-true, ltb-true, eqb-true}
use Rattle.integer.proofs.BoolLaws.{by_cases}
use Rattle.part.specs.declared.ChannelId.{ChannelId}
use Rattle.part.specs.declared.ChannelId.TheVariants.{Local, Remote1}
use Rattle.part.specs.declared.FanId.{FanId}
use Rattle.part.specs.declared.FanId.TheVariants.{One, Two}
use Rattle.event.specs.declared.Reason.{Reason}
use Rattle.event.specs.declared.Reason.TheVariants as reason
use Rattle.event.specs.declared.Refusal.TheVariants.{NoPower}
use Rattle.event.specs.declared.Refusal.{Refusal}
use Rattle.std.specs.Prelude.{Result, Ok, Err}
use Rattle.rules.specs.Stored.{powered}
use Rattle.rules.specs.Replies.{History, taken}
use Rattle.rules.specs.Targets.{target, overridden}
use Rattle.rules.specs.Duties.{left, spin, duty}
use Rattle.rules.specs.Reasons.{reason_number, why_number, lowest_with, reason_for, why_for}
use Rattle.rules.specs.PageWords.{register, duty_out, error_status}
use Rattle.rules.specs.PageReplies.{one_of}
use Rattle.rules.specs.PageDuties.{running, demanded}
use Rattle.rules.specs.PageReasons.{in_order, told_of, duty_by, PageReasons}
use Rattle.rules.proofs.TakenLaws.{took, refused_is}
use Rattle.rules.proofs.ReplyWords.{neither_fan}
use Rattle.rules.proofs.ReadingLaws.{reads_back}
use Rattle.rules.proofs.FanWordsLaws.{output_is}
use Rattle.rules.proofs.PageDutiesLaws.{page_duties}
use Rattle.rules.proofs.ReasonLaws.{first_of, lowest_holds}
use Rattle.rules.proofs.ReasonPlaceLaws.{ramp_back, tests, asks, last, by_place, mode_bit, shown_duty_lem, on, enabled_then, free_then, up_then, there_then}
use Rattle.rules.proofs.ReasonPlaceLaws.{automatic_then, some_asks, is_demanded}
use Rattle.rules.proofs.ReasonFactLaws.{holds, earlier, only}

-- ---- the reason, its numbers and the registers give the duty

module _ (h : History) (f : FanId) where
  -- a demand above 0 is 240 for a diode in error, and else that of the formula, whose reading comes back from the registers
  demand_back : (c : ChannelId) → 0 < demanded f c h → duty_by f (reason.Demand c) (λ a. register a h) ≡ demanded f c h
  unfolding duty_by
  demand_back c up =
      by_cases (error_status c h)
      (λ x. rw x)
      (λ x. by_cases (running c h)
      (λ y. rw (x, y, ← reads_back (took h) c))
      (λ n. absurd (omega (arith, rw (x, n) at up))))

  from_demand : first_of (tests h f) ≡ 8 → duty_by f (last h f) (λ a. register a h) ≡ duty_out f h
  from_demand e =
      let up = up_then h f e (omega arith) in
      let c = lowest_with (asks h f Local) (asks h f Remote1) in
      let at = is_demanded h f up c (lowest_holds (asks h f) (some_asks h f (sym (mode_bit h f) ∙ automatic_then h f e (omega arith)))) in
      demand_back c (rw at up) ∙ at ∙ sym (there_then h f e (omega arith))

  gives : duty_by f (reason_for f (taken h)) (λ a. register a h) ≡ duty_out f h
  unfolding duty_by overridden
  gives =
      let page = page_duties h in
      by_place h f (λ r. duty_by f r (λ a. register a h) ≡ duty_out f h) (
        (λ e. sym (page.disabled f (output_is h (taken h) refl f ∙ not-true _ (on h f e)))),
        (
          (λ e. sym (page.full f (enabled_then h f e (omega arith)) (rw (on h f e)))),
          (
            (λ e. sym (page.full f (enabled_then h f e (omega arith)) (rw (on h f e, or-true)))),
            (
              (λ e. sym (page.none f (enabled_then h f e (omega arith)) (free_then h f e (omega arith)) (eqb-true (target f (taken h)) 0 (on h f e)))),
              (
                (λ e. sym (page.spinning f (enabled_then h f e (omega arith)) (free_then h f e (omega arith)) (up_then h f e (omega arith))
                    (ltb-true 0 (left (spin f (taken h))) (on h f e)))),
                (
                  (λ e. ramp_back (target f (taken h)) (duty f (taken h)) ∙ sym (shown_duty_lem h f)),
                  (
                    (λ e. sym (there_then h f e (omega arith) ∙ page.manual f (mode_bit h f ∙ not-true _ (on h f e)))),
                    (from_demand, tt),
                  ),
                ),
              ),
            ),
          ),
        ),
      )

-- ---- what is told

told_of_lem : (h : History) (f : FanId) → powered (taken h) ≡ true → told_of f h ≡ Ok (reason_for f (taken h))
unfolding why_for
told_of_lem h One on = rw on
told_of_lem h Two on = rw on

reason_in : Result Reason Refusal → Reason
reason_in (Ok r) = r
reason_in (Err a) = reason.Disabled

module _ (h : History) (f : FanId) {r : Reason} (told : told_of f h ≡ Ok r) where
  told_is : r ≡ reason_for f (taken h)
  unfolding reason_in
  told_is =
      by_cases (powered (taken h))
      (λ on. ap reason_in (sym told ∙ told_of_lem h f on))
      (λ off. let z : 1 ≡ 0 = ap why_number (sym (none off) ∙ told) in absurd (omega (arith, z)))
    where
      none : powered (taken h) ≡ false → told_of f h ≡ Err NoPower
      none off = (unfold why_for in rw off)

no_fan_lem : (h : History) (n : ℤ) → powered (taken h) ≡ true → one_of (1 ∷ 2 ∷ []) n ≡ false → why_number (why_for n (taken h)) ≡ 3
unfolding why_for
no_fan_lem h n on y = rw (on, (neither_fan n y).0, (neither_fan n y).1)

order_same : (r : Reason) → reason_number r ≡ in_order r
order_same reason.Disabled = refl
order_same reason.PinLow = refl
order_same (reason.Therm c) = refl
order_same reason.NoTarget = refl
order_same (reason.SpinUp n) = refl
order_same (reason.Ramp r) = refl
order_same reason.Manual = refl
order_same (reason.Demand c) = refl

pub page_reasons : (h : History) → PageReasons h
page_reasons h =
    record {
      no_power = λ n off. (unfold why_for in rw off);
      no_fan = no_fan_lem h;
      given = λ f on. ap why_number (told_of_lem h f on);
      numbered = order_same;
      holds = λ f r t. rw (told_is h f t) (holds h f);
      first = λ f r other t a. rw (told_is h f t) (earlier h f other a);
      only = λ f r other t a e. only h f other a (rw (told_is h f t) at e) ∙ sym (told_is h f t);
      duty = λ f r t. rw (told_is h f t) (gives h f);
      refused = λ e n bad. rw (refused_is e h bad);
    }
