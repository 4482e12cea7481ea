-- The place of the reason after every list, and what is known there. Assumes nothing.
use Prim.Native.Nat.{ℕ, suc, ◌+◌, ◌-◌, ◌<◌, max}
use mathlib.Core.Path.{◌≡◌, refl, sym, ap, ◌∙◌, subst}
use mathlib.Core.Bool.{Bool, true, false, cond, not, ◌&&◌, ◌||◌}
use mathlib.Core.List.{List, [], ◌∷◌}
use native.Mathlib.Omega.{arith}
use lib.Dec.{eqb, ltb}
use lib.ListN.{get_or}
use borrow.Author.Tests.{not-false, ltb-true, ltb-false, eqb-true, eqb-false, lt-ltb, le-ltb, eq-eqb}
use Rattle.integer.proofs.BoolLaws.{by_cases}
use Rattle.part.specs.declared.ChannelId.{ChannelId}
use Rattle.part.specs.declared.ChannelId.TheVariants.{Local, Remote1, Remote2}
use Rattle.part.specs.declared.FanId.{FanId}
use Rattle.event.specs.declared.Reason.{Reason}
use Rattle.event.specs.declared.Reason.TheVariants as reason
use Rattle.rules.specs.Registers.{config1, behaviour, exists_at}
use Rattle.rules.specs.Fields.{assignment, automatic, therm_drives_fans}
use Rattle.rules.specs.Stored.{Taken, stored_at, pin_low}
use Rattle.rules.specs.Replies.{History, taken}
use Rattle.rules.specs.Temperatures.{latch, therm_asserted}
use Rattle.rules.specs.Targets.{assigned_by, target_of, target, overridden}
use Rattle.rules.specs.Duties.{enabled, filtered, left, spin, duty}
use Rattle.rules.specs.Shows.{byte_at, value}
use Rattle.rules.specs.Reasons.{lowest_with, asked, ramp_to, reason_for}
use Rattle.rules.specs.PageWords.{bit, duty_out, output_bit, is_assigned}
use Rattle.rules.specs.PageDuties.{aim, clocks_left, forced, demanded}
use Rattle.rules.specs.PageReasons.{in_order, Away}
use Rattle.rules.proofs.FanWordsLaws.{Each, at_each, output_is, filter_is, duty_is, demanded_is, assigned_is}
use Rattle.rules.proofs.PageDutiesLaws.{page_duties}
use Rattle.rules.proofs.ReasonLaws.{first_of, from_one, first_le, first_on, first_off, pick_of, picked}

-- ---- the ramp: how far, and on which side

module _ (t u : ℕ) where
  pub ramp_away : (u ≡ t → ⊥) → (0 < (ramp_to t u).left) × Away (ramp_to t u).up (ramp_to t u).left t u
  unfolding Away
  ramp_away n =
      by_cases (ltb u t)
      (λ y. let l = ltb-true u t y in rw y (omega arith, omega arith))
      (λ y. let l = ltb-false u t y in rw y (omega (arith, n), omega arith))

  pub ramp_back : cond (ramp_to t u).up (t - (ramp_to t u).left) (t + (ramp_to t u).left) ≡ u
  ramp_back =
      by_cases (ltb u t)
      (λ y. let l = ltb-true u t y in rw y (omega arith))
      (λ y. let l = ltb-false u t y in rw y (omega arith))

  pub one_ramp : (l : ℕ) (b : Bool) → 0 < l → Away b l t u → record { left = l; up = b; target = t } ≡ ramp_to t u
  unfolding Away
  one_ramp l true s a = rw (lt-ltb u t (omega arith)) (ap (λ (n : ℕ). record { left = n; up = true; target = t }) (omega arith))
  one_ramp l false s a = rw (le-ltb u t (omega arith)) (ap (λ (n : ℕ). record { left = n; up = false; target = t }) (omega arith))

pub differs : (b : Bool) (l t u : ℕ) → 0 < l → Away b l t u → u ≡ t → ⊥
unfolding Away
differs true l t u s a q = omega arith
differs false l t u s a q = omega arith

module _ (h : History) (f : FanId) where
  abbrev pub d : Taken
  d = taken h

  abbrev pub tests : List Bool
  tests =
      not (enabled f d) ∷ pin_low d ∷ (therm_drives_fans (stored_at behaviour d) && therm_asserted d) ∷ eqb (target f d) 0 ∷ ltb 0 (left (spin f d))
      ∷ (filtered f d && not (eqb (duty f d) (target f d))) ∷ not (automatic (stored_at config1 d)) ∷ []

  abbrev pub asks : ChannelId → Bool
  asks c = eqb (asked f c d) (target f d)

  abbrev pub hot : ChannelId
  hot = lowest_with (latch Local d) (latch Remote1 d)

  abbrev pub rows : List Reason
  rows =
      reason.Disabled ∷ reason.PinLow ∷ reason.Therm hot ∷ reason.NoTarget ∷ reason.SpinUp (left (spin f d))
      ∷ reason.Ramp (ramp_to (target f d) (duty f d)) ∷ reason.Manual ∷ []

  abbrev pub last : Reason
  last = reason.Demand (lowest_with (asks Local) (asks Remote1))

  reason_is : reason_for f d ≡ pick_of tests rows last
  unfolding reason_for pick_of
  reason_is = refl

  pub at_place : (i : ℕ) → first_of tests ≡ suc i → reason_for f d ≡ get_or rows i last
  at_place i e = reason_is ∙ picked tests rows last i refl e

  -- what holds at each place holds of the reason
  pub by_place : (P : Reason → Type 0) → Each 8 (λ i. first_of tests ≡ suc i → P (get_or rows i last)) → P (reason_for f d)
  by_place P all =
      let e : first_of tests ≡ suc (first_of tests - 1) = omega (arith, from_one tests) in
      subst P (sym (at_place (first_of tests - 1) e))
      (at_each 8 (λ i. first_of tests ≡ suc i → P (get_or rows i last)) all (first_of tests - 1) (omega (arith, first_le tests 7 refl)) e)

  pub order_is : in_order (reason_for f d) ≡ first_of tests
  order_is = by_place (λ r. in_order r ≡ first_of tests) (sym, (sym, (sym, (sym, (sym, (sym, (sym, (sym, tt))))))))

  -- ---- the page's words

  pub fan_bit : bit 0x3F 7 h ≡ therm_drives_fans (stored_at behaviour d)
  unfolding value byte_at exists_at
  fan_bit = refl

  pub mode_bit : bit 0x00 7 h ≡ automatic (stored_at config1 d)
  unfolding value byte_at exists_at
  mode_bit = refl

  pub shown_duty_lem : duty_out f h ≡ duty f d
  unfolding duty
  shown_duty_lem = duty_is h d refl f

  -- ---- what is known at a place: its test, and those before it

  module _ {i : ℕ} (e : first_of tests ≡ suc i) where
    pub on : get_or tests i true ≡ true
    on = first_on tests i e

    pub off : (j : ℕ) → j < i → get_or tests j true ≡ false
    off j l = first_off tests i j l e

    pub enabled_then : 0 < i → output_bit f h ≡ true
    enabled_then l = output_is h d refl f ∙ not-false (enabled f d) (off 0 l)

    pub free_then : 2 < i → forced h ≡ false
    unfolding overridden
    free_then l = rw (off 1 (omega arith), off 2 l)

    pub up_then : 3 < i → 0 < aim f h
    up_then l = omega (arith, eqb-false (target f d) 0 (off 3 l))

    pub still_then : 4 < i → clocks_left f h ≡ 0
    still_then l = omega (arith, ltb-false 0 (left (spin f d)) (off 4 l))

    pub there_then : 5 < i → duty_out f h ≡ aim f h
    there_then l =
        by_cases (filtered f d)
        (λ y. shown_duty_lem ∙ eqb-true (duty f d) (target f d) (not-false (eqb (duty f d) (target f d)) (rw y at (off 5 l))))
        (λ n. (page_duties h).unfiltered f (enabled_then (omega arith)) (free_then (omega arith)) (up_then (omega arith)) (still_then (omega arith))
        (filter_is h d refl f ∙ n))

    pub automatic_then : 6 < i → bit 0x00 7 h ≡ true
    automatic_then l = mode_bit ∙ not-false (automatic (stored_at config1 d)) (off 6 l)

  -- ---- a channel asks for a target above 0 where it is assigned and demands it

  pub asks_by : (c : ChannelId) → is_assigned f c h ≡ true → demanded f c h ≡ aim f h → asks c ≡ true
  asks_by c y q = eq-eqb (asked f c d) (target f d) (rw (sym (assigned_is h d refl f c) ∙ y) (sym (demanded_is h d refl f c) ∙ q))

  -- in automatic mode one does
  pub some_asks : automatic (stored_at config1 d) ≡ true → (asks Local || (asks Remote1 || asks Remote2)) ≡ true
  some_asks auto =
      by_cases (asks Local)
      (λ y. rw y)
      (λ n. by_cases (asks Remote1)
      (λ y. rw (n, y))
      (λ m. rw (n, m) (eq-eqb (asked f Remote2 d) (target f d) (omega (
        arith,
        largest,
        eqb-false (asked f Local d) (target f d) n,
        eqb-false (asked f Remote1 d) (target f d) m,
      )))))
    where
      largest : target f d ≡ max (asked f Local d) (max (asked f Remote1 d) (asked f Remote2 d))
      largest = (unfold target target_of in rw auto)

  module _ (up : 0 < aim f h) (c : ChannelId) (y : asks c ≡ true) where
    asked_is : asked f c d ≡ target f d
    asked_is = eqb-true (asked f c d) (target f d) y

    pub is_assigned_lem : is_assigned f c h ≡ true
    is_assigned_lem =
        assigned_is h d refl f c
        ∙ by_cases (assigned_by (assignment (stored_at config1 d)) f c) (λ t. t) (λ n. absurd (omega (arith, rw n at asked_is)))

    pub is_demanded : demanded f c h ≡ aim f h
    is_demanded = demanded_is h d refl f c ∙ (rw (sym (assigned_is h d refl f c) ∙ is_assigned_lem) at asked_is)
