-- After every list the reason's fact holds, no earlier one does, and no other of its place. Assumes nothing.
use Prim.Native.Nat.{◌<◌, ◌≤◌}
use mathlib.Core.Path.{◌≡◌, refl, sym, ap, ◌∙◌}
use mathlib.Core.Bool.{Bool, true≢false}
use native.Mathlib.Omega.{arith}
use borrow.Author.Tests.{not-true, ltb-true, eqb-true, eqb-false, lt-ltb, eq-eqb, ne_eqb}
use Rattle.integer.proofs.BoolLaws.{both}
use Rattle.part.specs.declared.ChannelId.{ChannelId}
use Rattle.part.specs.declared.ChannelId.TheVariants.{Local, Remote1}
use Rattle.part.specs.declared.FanId.{FanId}
use Rattle.event.specs.declared.Ramp.{Ramp}
use Rattle.event.specs.declared.Reason.{Reason}
use Rattle.event.specs.declared.Reason.TheVariants as reason
use Rattle.rules.specs.Registers.{behaviour}
use Rattle.rules.specs.Fields.{therm_drives_fans}
use Rattle.rules.specs.Stored.{Taken, stored_at}
use Rattle.rules.specs.Replies.{History, taken}
use Rattle.rules.specs.Temperatures.{latch, therm_asserted}
use Rattle.rules.specs.Targets.{target}
use Rattle.rules.specs.Duties.{enabled, filtered, left, spin, duty}
use Rattle.rules.specs.Reasons.{lowest_with, ramp_to, reason_for}
use Rattle.rules.specs.PageWords.{duty_out}
use Rattle.rules.specs.PageDuties.{aim, demanded}
use Rattle.rules.specs.PageReasons.{in_order, Away, Fact}
use Rattle.rules.proofs.FanWordsLaws.{output_is, filter_is}
use Rattle.rules.proofs.PageDutiesLaws.{page_duties}
use Rattle.rules.proofs.ReasonLaws.{first_of, first_le, lowest_holds, lowest_first, some_holds, same_channel}
use Rattle.rules.proofs.ReasonPlaceLaws.{ramp_away, one_ramp, differs, tests, asks, hot, last, at_place, by_place, order_is}
use Rattle.rules.proofs.ReasonPlaceLaws.{fan_bit, mode_bit, shown_duty_lem, on, up_then, automatic_then, asks_by, some_asks, is_assigned_lem, is_demanded}

module _ (h : History) (f : FanId) where
  abbrev d : Taken
  d = taken h

  -- ---- the fact holds

  holds_therm : first_of (tests h f) ≡ 3 → Fact f h (reason.Therm (hot h f))
  unfolding Fact therm_asserted
  holds_therm e =
      let y = both (therm_drives_fans (stored_at behaviour d)) (therm_asserted d) (on h f e) in
      (fan_bit h f ∙ y.0, lowest_holds (λ c. latch c d) y.1, lowest_first (λ c. latch c d))

  holds_ramp : first_of (tests h f) ≡ 6 → Fact f h (reason.Ramp (ramp_to (target f d) (duty f d)))
  unfolding Fact
  holds_ramp e =
      let y = both (filtered f d) _ (on h f e) in
      let away = ramp_away (target f d) (duty f d) (eqb-false (duty f d) (target f d) (not-true _ y.1)) in
      (filter_is h d refl f ∙ y.0, refl, away.0, rw (shown_duty_lem h f) away.1)

  holds_demand : first_of (tests h f) ≡ 8 → Fact f h (last h f)
  unfolding Fact
  holds_demand e =
      let auto = automatic_then h f e (omega arith) in
      let up = up_then h f e (omega arith) in
      let c = lowest_with (asks h f Local) (asks h f Remote1) in
      let y = lowest_holds (asks h f) (some_asks h f (sym (mode_bit h f) ∙ auto)) in
      let at = is_demanded h f up c y in (
        auto,
        is_assigned_lem h f up c y,
        (λ other a. rw at ((page_duties h).largest f other auto a)),
        (λ other l a. let differs : demanded f other h ≡ aim f h → ⊥ = λ q. true≢false (sym (asks_by h f other a q) ∙ lowest_first (asks h f) other l) in
            omega (arith, at, differs, (page_duties h).largest f other auto a)),
      )

  pub holds : Fact f h (reason_for f d)
  unfolding Fact
  holds =
      by_place h f (Fact f h) (
        (λ e. output_is h d refl f ∙ not-true (enabled f d) (on h f e)),
        (
          on h f,
          (
            holds_therm,
            (
              (λ e. eqb-true (target f d) 0 (on h f e)),
              (
                (λ e. (ltb-true 0 (left (spin f d)) (on h f e), refl)),
                (holds_ramp, ((λ e. mode_bit h f ∙ not-true _ (on h f e)), (holds_demand, tt))),
              ),
            ),
          ),
        ),
      )

  -- ---- no earlier one does

  pub earlier : (other : Reason) → Fact f h other → in_order (reason_for f d) ≤ in_order other
  unfolding Fact Away therm_asserted
  earlier other a = rw (order_is h f) (go other a)
    where
      go : (other : Reason) → Fact f h other → first_of (tests h f) ≤ in_order other
      go reason.Disabled a = first_le (tests h f) 0 (rw (sym (output_is h d refl f) ∙ a))
      go reason.PinLow a = first_le (tests h f) 1 a
      go (reason.Therm c) a = first_le (tests h f) 2 (rw (sym (fan_bit h f) ∙ a.0) (some_holds (λ c. latch c d) c a.1))
      go reason.NoTarget a = first_le (tests h f) 3 (eq-eqb (target f d) 0 a)
      go (reason.SpinUp n) a = first_le (tests h f) 4 (lt-ltb 0 (left (spin f d)) (omega (arith, a.0, a.1)))
      go (reason.Ramp r) a = first_le (tests h f) 5
          (rw (
            sym (filter_is h d refl f) ∙ a.0,
            ne_eqb (duty f d) (target f d) (λ q. differs r.up r.left r.target (duty_out f h) a.2 a.3
                (shown_duty_lem h f ∙ q ∙ a.1)),
          ))
      go reason.Manual a = first_le (tests h f) 6 (rw (sym (mode_bit h f) ∙ a))
      go (reason.Demand c) a = first_le (tests h f) 7 refl

  -- ---- nor another of its place

  module _ (c : ChannelId) where
    pub only_therm : Fact f h (reason.Therm c) → c ≡ hot h f
    unfolding Fact
    only_therm a =
        let p : ChannelId → Bool = λ c. latch c d in
        let l = hot h f in
        same_channel c l
        (λ m. true≢false (sym a.1 ∙ lowest_first p c m))
        (λ m. true≢false (sym (lowest_holds p (some_holds p c a.1)) ∙ a.2 l m))

    only_demand : 0 < aim f h → Fact f h (reason.Demand c) → c ≡ lowest_with (asks h f Local) (asks h f Remote1)
    unfolding Fact
    only_demand up a =
        let l = lowest_with (asks h f Local) (asks h f Remote1) in
        let most : demanded f c h ≡ aim f h =
        omega (arith, (page_duties h).largest f c a.0 a.1, (page_duties h).nothing f (demanded f c h) a.0 a.2) in
        let asking = asks_by h f c a.1 most in
        let least = lowest_holds (asks h f) (some_holds (asks h f) c asking) in
        same_channel c l
        (λ m. true≢false (sym asking ∙ lowest_first (asks h f) c m))
        (λ m. omega (arith, most, is_demanded h f up l least, a.3 l m (is_assigned_lem h f up l least)))

  only_ramp : (r : Ramp) → Fact f h (reason.Ramp r) → r ≡ ramp_to (target f d) (duty f d)
  unfolding Fact
  only_ramp r a = rw (a.1, ← shown_duty_lem h f) (one_ramp r.target (duty_out f h) r.left r.up a.2 a.3)

  pub only : (other : Reason) → Fact f h other → in_order other ≡ in_order (reason_for f d) → other ≡ reason_for f d
  unfolding Fact
  only other a e = go other a (sym (order_is h f) ∙ sym e)
    where
      go : (other : Reason) → Fact f h other → first_of (tests h f) ≡ in_order other → other ≡ reason_for f d
      go reason.Disabled a e = sym (at_place h f 0 e)
      go reason.PinLow a e = sym (at_place h f 1 e)
      go (reason.Therm c) a e = ap reason.Therm (only_therm c a) ∙ sym (at_place h f 2 e)
      go reason.NoTarget a e = sym (at_place h f 3 e)
      go (reason.SpinUp n) a e = ap reason.SpinUp (sym a.1) ∙ sym (at_place h f 4 e)
      go (reason.Ramp r) a e = ap reason.Ramp (only_ramp r a) ∙ sym (at_place h f 5 e)
      go reason.Manual a e = sym (at_place h f 6 e)
      go (reason.Demand c) a e = ap reason.Demand (only_demand c (up_then h f e (omega arith)) a) ∙ sym (at_place h f 7 e)
