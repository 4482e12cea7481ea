-- An alert lets INT go and changes nothing else of the keeper; no stretch ends at one. Assumes nothing.
use Prim.Native.Nat.{ℕ}
use mathlib.Core.Path.{◌≡◌, refl, sym, ap, ◌∙◌, subst}
use mathlib.Core.Bool.{true, ◌||◌}
use mathlib.Core.List.{List, [], ◌∷◌, ◌++◌}
use Rattle.integer.proofs.BoolLaws.{by_cases}
use Rattle.part.specs.declared.FanId.{FanId}
use Rattle.event.specs.Kinds.{is_kind}
use Rattle.event.specs.declared.Event.{Event}
use Rattle.event.specs.declared.Shown.{Shown}
use Rattle.event.specs.declared.Kind.TheVariants as kind
use Rattle.rules.specs.Registers.{config2}
use Rattle.rules.specs.Stored.{Taken, powered}
use Rattle.rules.specs.Replies.{History, taken, accepted}
use Rattle.rules.specs.Targets.{target, overridden}
use Rattle.rules.specs.Duties.{enabled}
use Rattle.rules.specs.Shows.{int_due, silenced, shown}
use Rattle.rules.proofs.TakenLaws.{refused_is, accepted_is}
use Rattle.rules.proofs.CalmLaws.{Untouched, target_same, override_same}
use Rattle.rules.proofs.IdleLaws as idle
use Rattle.rules.proofs.AlertLaws as alert
use Rattle.rules.proofs.SilenceLaws.{not_due, alert_out}
use Rattle.drive.specs.Ramp.{Inside}
use Rattle.keeper.specs.Keeping.{shown_by}
use Rattle.history.specs.Agreement.{run}
use Rattle.history.specs.Demand3.{Settled, Stretch}
use Rattle.history.specs.MovingTarget.{Within, MovingStretch}
use Rattle.history.specs.Alerts.{Alerts}
use Rattle.history.proofs.State.{chip_by, device_by, state_by}
use Rattle.history.proofs.IdleChipLaws.{chip_same, stamps_same, calm}
use Rattle.history.proofs.Agree.{agree, agreement, chip_run}

-- ---- the keeper

module _ (e : Event) (h : History) (alerts : is_kind kind.Alert e ≡ true) where
  -- what an alert leaves where it is accepted, it leaves
  through : {A : Type 0} (x : Taken → A) → x (e ∷ taken h) ≡ x (taken h) → x (taken (e ∷ h)) ≡ x (taken h)
  through x q = by_cases (accepted e h) (λ go. ap x (accepted_is e h go) ∙ q) (λ bad. ap x (refused_is e h bad))

  chip_kept : chip_by (taken (e ∷ h)) ≡ chip_by (taken h)
  chip_kept = through chip_by (chip_same e (taken h) (alert.is_not e (taken h) alerts) (alert.errors e (taken h) alerts))

  -- INT not asserted: let go already, or not due, so that it is let go after the alert just if it was before
  not_begun : (shown (taken h)).int ≡ 0 → (silenced (taken h) || int_due (taken h)) ≡ silenced (taken h)
  not_begun z = by_cases (silenced (taken h)) (λ s. rw s) (λ s. rw (s, not_due e h s z))

  device_kept : (shown (taken h)).int ≡ 0 → device_by (taken (e ∷ h)) ≡ device_by (taken h)
  unfolding device_by
  device_kept z =
      through device_by
      (rw (
        chip_same e (taken h) (alert.is_not e (taken h) alerts) (alert.errors e (taken h) alerts),
        stamps_same e (taken h) (alert.is_not e (taken h) alerts) (alert.errors e (taken h) alerts),
        alert.silence_is e (taken h) alerts,
        not_begun z,
      ))

  power_kept : powered (taken (e ∷ h)) ≡ powered (taken h)
  unfolding powered
  power_kept = through powered (rw (alert.is_not e (taken h) alerts kind.Power refl))

  unchanged : (shown_by (run h)).int ≡ 0 → run (e ∷ h) ≡ run h
  unfolding state_by
  unchanged z =
      agree (e ∷ h)
      ∙ (rw (device_kept (ap (λ (s : Shown). s.int) (sym (agreement h).shows) ∙ z), power_kept) refl ∙ sym (agree h))

  -- INT after it
  let_go_lem : accepted e h ≡ true → (shown_by (run (e ∷ h))).int ≡ 0
  let_go_lem go = ap (λ (s : Shown). s.int) (agreement (e ∷ h)).shows ∙ alert_out e h alerts go

  -- ---- stretches

  abbrev u : Untouched e (taken h)
  u = idle.settled e (taken h) (alert.is_not e (taken h) alerts)

  aim_same : (f : FanId) → target f (taken (e ∷ h)) ≡ target f (taken h)
  aim_same f = through (target f) (target_same e (taken h) u (alert.errors e (taken h) alerts) f)

  free_same : overridden (taken (e ∷ h)) ≡ overridden (taken h)
  free_same = through overridden (override_same e (taken h) u)

  on_same : (f : FanId) → enabled f (taken (e ∷ h)) ≡ enabled f (taken h)
  on_same f = through (enabled f) (rw (u.byte config2 refl))

  settled_same : (f : FanId) (d : ℕ) → Settled f d h → Settled f d (e ∷ h)
  settled_same f d s = record { on = on_same f ∙ s.on; free = free_same ∙ s.free; aim = aim_same f ∙ s.aim }

  within_same : (f : FanId) (a b : ℕ) → Within f a b h → Within f a b (e ∷ h)
  within_same f a b w = record { on = on_same f ∙ w.on; free = free_same ∙ w.free; aim = subst (Inside a b) (sym (aim_same f)) w.aim }

-- a stretch is settled at its end
settled_at : (f : FanId) (d : ℕ) (s : List Event) (h : History) → Stretch f d s h → Settled f d (s ++ h)
unfolding Stretch
settled_at f d [] h s = s
settled_at f d (e ∷ t) h s = s.2

within_at : (f : FanId) (a b : ℕ) (s : List Event) (h : History) → MovingStretch f a b s h → Within f a b (s ++ h)
unfolding MovingStretch
within_at f a b [] h s = s
within_at f a b (e ∷ t) h s = s.2

pub alerts : (h : History) → Alerts h
unfolding Stretch MovingStretch
alerts h =
    record {
      let_go = λ e y go. let_go_lem e h y go;
      unchanged = λ e y z. unchanged e h y z;
      chip = λ e y. chip_run (e ∷ h) ∙ (chip_kept e h y ∙ sym (chip_run h));
      calm = λ f e y. calm e h (alert.is_not e (taken h) y) f;
      stretch = λ f d s e y st. (st, calm e (s ++ h) (alert.is_not e (taken h) y) f, settled_same e (s ++ h) y f d (settled_at f d s h st));
      moving = λ f a b s e y st. (st, calm e (s ++ h) (alert.is_not e (taken h) y) f, within_same e (s ++ h) y f a b (within_at f a b s h st));
    }
