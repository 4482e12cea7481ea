-- A write of an offset register touches nothing but that register. Assumes nothing.
use Prim.Native.Nat.{ℕ}
use mathlib.Core.Path.{◌≡◌, refl, sym, ◌∙◌}
use mathlib.Core.Bool.{Bool, true, false, ◌&&◌, ◌||◌, and-true}
use mathlib.Core.List.{◌∷◌}
use lib.Dec.{eqb}
use lib.IntN.{ℤ}
use borrow.Author.Tests.{not-true}
use Rattle.integer.specs.Bits.{bit_of}
use Rattle.integer.proofs.BoolLaws.{by_cases, neither}
use Rattle.part.specs.declared.ChannelId.{ChannelId}
use Rattle.part.specs.declared.ChannelId.TheVariants.{Local, Remote1, Remote2}
use Rattle.part.specs.declared.FanId.{FanId}
use Rattle.event.specs.declared.Event.{Event}
use Rattle.rules.specs.Registers.{config2}
use Rattle.rules.specs.Stored.{Taken, stored_at, pin_low}
use Rattle.rules.specs.Temperatures.{channel_on}
use Rattle.rules.specs.Duties.{tach_on, left, spin, duty, failures}
use Rattle.rules.specs.Shows.{value, shown}
use Rattle.rules.specs.PageWords.{by_channel}
use Rattle.rules.specs.PageOffsets.{offset_written}
use Rattle.rules.proofs.WriteLaws.{stored_elsewhere}
use Rattle.rules.proofs.StatusLaws.{high_off, low_off, therm_off}
use Rattle.rules.proofs.CalmLaws.{ErrorsKept, error_same, is_setting, Untouched}
use Rattle.rules.proofs.OrdinaryLaws.{reading_left, flag_left, latch_left, high_masked, low_masked, therm_masked, fault_left, pulled_left, run_left}
use Rattle.rules.proofs.TachLaws.{untracked}
use Rattle.rules.proofs.KeptLaws.{alarm_kept, BitsKept, value_kept, shown_kept}
use Rattle.rules.proofs.TurnLaws as turn

abbrev at : ChannelId → ℕ
at c = by_channel 0x0D 0x0E 0x0F c

-- it is no software reset, and no setting of a fan
no_reset_lem : (c : ChannelId) (b : ℕ) → (eqb (at c) 0x01 && bit_of b 7) ≡ false
no_reset_lem Local b = refl
no_reset_lem Remote1 b = refl
no_reset_lem Remote2 b = refl

no_setting : (c : ChannelId) (a : ℕ) → is_setting a ≡ true → eqb a (at c) ≡ false
no_setting c a y =
    let all = neither (eqb a 0x0D) _ (neither (eqb a 0x08 || eqb a 0x09) _ (not-true _ y)).1 in
    let rest = neither (eqb a 0x0E) (eqb a 0x0F) all.1 in
    here c all.0 rest.0 rest.1
  where
    here : (c : ChannelId) → eqb a 0x0D ≡ false → eqb a 0x0E ≡ false → eqb a 0x0F ≡ false → eqb a (at c) ≡ false
    here Local l r s = l
    here Remote1 l r s = r
    here Remote2 l r s = s

-- a bit that a disabled channel has not
kept : (on was : Bool) → (on ≡ false → was ≡ false) → (was && on) ≡ was
kept true was q = and-true was
kept false was q = rw (q refl)

module _ (d : Taken) (c : ChannelId) (w : ℤ) (b : ℕ) where
  abbrev e : Event
  e = offset_written c w b

  stored_same : (a : ℕ) → eqb a (at c) ≡ false → stored_at a (e ∷ d) ≡ stored_at a d
  stored_same a q = stored_elsewhere d w (at c) b (no_reset_lem c b) a q

  pub settled : Untouched e d
  settled =
      record {
        calm = rw (no_reset_lem c b);
        byte = λ a y. stored_same a (no_setting c a y);
        reading = reading_left d w (at c) b (no_reset_lem c b);
        latch = latch_left d w (at c) b (no_reset_lem c b);
        flag = flag_left d w (at c) b (no_reset_lem c b);
        pin = (unfold pin_low in refl);
      }

  on_same : (x : ChannelId) → channel_on x (e ∷ d) ≡ channel_on x d
  on_same x = rw (settled.byte config2 refl)

  bits : BitsKept e d
  bits =
      record {
        on = on_same;
        high = λ x. high_masked d w (at c) b (no_reset_lem c b) x ∙ rw (on_same x) (kept (channel_on x d) _ (high_off x d));
        low = λ x. low_masked d w (at c) b (no_reset_lem c b) x ∙ rw (on_same x) (kept (channel_on x d) _ (low_off x d));
        therm = λ x. therm_masked d w (at c) b (no_reset_lem c b) x ∙ rw (on_same x) (kept (channel_on x d) _ (therm_off x d));
        pulled = pulled_left d w (at c) b (no_reset_lem c b);
        alarm = alarm_kept e d settled refl;
        fault = fault_left d w (at c) b (no_reset_lem c b);
      }

  pub errors : ErrorsKept e d
  errors = error_same e d refl refl

  duty_left : (f : FanId) → duty f (e ∷ d) ≡ duty f d
  unfolding duty
  duty_left f = turn.duty_same f e d (turn.aimed_as_before f e d settled errors) refl refl refl

  pub clocks_left_lem : (f : FanId) → left (spin f (e ∷ d)) ≡ left (spin f d)
  clocks_left_lem f = turn.left_kept f e d (turn.aimed_as_before f e d settled errors) refl refl refl

  pub run_same : (f : FanId) → failures f (e ∷ d) ≡ failures f d
  run_same f =
      let on : tach_on f (e ∷ d) ≡ tach_on f d = rw (settled.byte config2 refl) in
      by_cases (tach_on f d)
      (λ y. run_left d w (at c) b (no_reset_lem c b) f (on ∙ y))
      (λ n. untracked f (e ∷ d) (on ∙ n) ∙ sym (untracked f d n))

  pub value_same : (a : ℕ) → eqb a (at c) ≡ false → value a (e ∷ d) ≡ value a d
  value_same a q = value_kept e d bits errors settled a (stored_same a q)

  pub shown_same : shown (e ∷ d) ≡ shown d
  shown_same = shown_kept e d bits errors settled refl run_same duty_left
