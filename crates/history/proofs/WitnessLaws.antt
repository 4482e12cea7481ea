-- The witnesses, computed. Assumes nothing.
use Prim.Native.Nat.{ℕ}
use mathlib.Core.Path.{◌≡◌, refl}
use mathlib.Core.Bool.{Bool, true, not, ◌&&◌}
use mathlib.Core.List.{List, [], ◌∷◌, ◌++◌}
use lib.Dec.{leb}
use borrow.Author.Tests.{leb-true, not-true}
use Rattle.integer.proofs.BoolLaws.{both}
use Rattle.part.specs.declared.FanId.{FanId}
use Rattle.part.specs.declared.FanId.TheVariants.{One, Two}
use Rattle.event.specs.declared.Event.{Event}
use Rattle.integer.specs.Bits.{merged_of}
use Rattle.rules.specs.Registers.{says, table, exists_at, mask_at, reset_at, read_only_at}
use Rattle.rules.specs.Events.{ranges_of}
use Rattle.rules.specs.Stored.{powered, own_address, stored_at, pointer, pin_low, diode_error}
use Rattle.rules.specs.Replies.{lowest, reply_to, History, taken}
use Rattle.rules.specs.Offsets.{measured_z}
use Rattle.rules.specs.Temperatures.{temperature, latch, therm_asserted}
use Rattle.rules.specs.Targets.{range_of, flag, demand, assigned_by, target_of, target, overridden}
use Rattle.rules.specs.Duties.{enabled, rate_of, spin_up_of, nearer, duty_after, spin_after, spin, duty, judged, failed, failures}
use Rattle.rules.specs.PageWords.{turned, pulled_low}
use Rattle.drive.specs.Ramp.{outside}
use Rattle.history.specs.Demand3.{periods_in, disturbs, Stretch}
use Rattle.history.specs.MovingTarget.{Within, MovingStretch}
use Rattle.history.specs.Witness.{started, started_filtered, spun_up, ramped_down, heated, heated_filtered, reached, followed, raised, ramped_up, Witness}
use Rattle.history.proofs.MovingTargetLaws.{shown_is}
use Rattle.history.proofs.StillTargetLaws as still
use Rattle.history.proofs.AlertWitnessLaws.{alert_witness}
use Rattle.history.proofs.ReasonWitnessLaws.{reason_witness}
use Rattle.history.proofs.DiodeWitnessLaws.{diode_witness}
use Rattle.history.proofs.PanelWitnessLaws.{panel_witness}
use Rattle.history.proofs.StampWitnessLaws.{stamp_witness}

-- a stretch by one test that computes
aims : FanId → (a b : ℕ) → History → Bool
aims f a b h = enabled f (taken h) && (not (overridden (taken h)) && (leb a (target f (taken h)) && leb (target f (taken h)) b))

within : (f : FanId) (a b : ℕ) (h : History) → aims f a b h ≡ true → Within f a b h
unfolding aims
within f a b h y =
    let p = both (enabled f (taken h)) _ y in
    let q = both (not (overridden (taken h))) _ p.1 in
    let r = both (leb a (target f (taken h))) _ q.1 in
    record { on = p.0; free = not-true _ q.0; aim = (leb-true _ _ r.0, leb-true _ _ r.1) }

stretches : FanId → (a b : ℕ) → List Event → History → Bool
stretches f a b [] h = aims f a b h
stretches f a b (e ∷ s) h = stretches f a b s h && (not (disturbs f e (s ++ h)) && aims f a b (e ∷ (s ++ h)))

moving : (f : FanId) (a b : ℕ) (s : List Event) (h : History) → stretches f a b s h ≡ true → MovingStretch f a b s h
unfolding stretches MovingStretch
moving f a b [] h y = within f a b h y
moving f a b (e ∷ s) h y =
    let p = both (stretches f a b s h) _ y in
    let q = both (not (disturbs f e (s ++ h))) _ p.1 in
    (moving f a b s h p.0, not-true _ q.0, within f a b (e ∷ (s ++ h)) q.1)

standing : (f : FanId) (d : ℕ) (s : List Event) (h : History) → stretches f d d s h ≡ true → Stretch f d s h
standing f d s h y = still.stretch f d s h (moving f d d s h y)

pub witness : Witness
unfolding stretches aims disturbs periods_in outside taken reply_to lowest ranges_of exists_at read_only_at mask_at reset_at says table powered own_address
    stored_at pointer pin_low diode_error temperature latch therm_asserted flag demand assigned_by target_of target overridden rate_of spin_up_of nearer
    duty_after spin_after spin duty judged failed failures merged_of range_of measured_z
witness =
    record {
      stretch = standing One 80 (ramped_down ++ spun_up) started_filtered refl;
      ready = refl;
      filter = refl;
      gap = refl;
      periods = refl;
      ramp = refl;
      shown = shown_is One (ramped_down ++ (spun_up ++ started_filtered));
      spin = refl;
      stretch_flat = standing One 80 (ramped_down ++ spun_up) started refl;
      ready_flat = refl;
      unfiltered = refl;
      shown_flat = shown_is One (ramped_down ++ (spun_up ++ started));
      on = refl;
      over = refl;
      full = shown_is Two (pulled_low ∷ started);
      moving =
          record {
            stretch = moving One 216 232 (followed ++ spun_up) heated_filtered refl;
            spin = refl;
            ready = refl;
            filter = refl;
            first = refl;
            last = refl;
            gap = refl;
            periods = refl;
            ramp = refl;
            outer = shown_is One (turned One ∷ (spun_up ++ heated_filtered));
            edge = shown_is One (reached ++ (spun_up ++ heated_filtered));
            shown = shown_is One (followed ++ (spun_up ++ heated_filtered));
            failure = refl;
            stretch_up = moving One 236 238 ramped_up raised refl;
            ready_up = refl;
            gap_up = refl;
            periods_up = refl;
            shown_up = shown_is One (ramped_up ++ raised);
            stretch_flat = moving One 216 232 (followed ++ spun_up) heated refl;
            ready_flat = refl;
            unfiltered = refl;
            shown_flat = shown_is One (followed ++ (spun_up ++ heated));
          };
      added = record { goes = refl; then = refl };
      subtracted = record { goes = refl; then = refl };
      above = record { goes = refl; then = refl };
      below = record { goes = refl; then = refl };
      alerts = alert_witness;
      reasons = reason_witness;
      diodes = diode_witness;
      panels = panel_witness;
      stamps = stamp_witness;
    }
