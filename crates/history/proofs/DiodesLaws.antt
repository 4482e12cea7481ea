-- A repeated report and a sample under an error leave the keeper; no report disturbs a stretch. Assumes nothing.
use Prim.Native.Nat.{ℕ}
use mathlib.Core.Path.{◌≡◌, refl, sym, ap, subst, ◌∙◌}
use mathlib.Core.Bool.{false}
use mathlib.Core.List.{◌∷◌}
use native.Mathlib.Omega.{arith}
use lib.Dec.{eqb}
use lib.IntN.{pos}
use Rattle.integer.proofs.BoolLaws.{by_cases}
use Rattle.part.specs.declared.ChannelId.{ChannelId}
use Rattle.event.specs.declared.Event.{Event}
use Rattle.event.specs.declared.Kind.TheVariants as kind
use Rattle.rules.specs.Stored.{Taken, powered, diode_error}
use Rattle.rules.specs.Replies.{History, taken, accepted}
use Rattle.rules.specs.PageWords.{sampled, reported, error_status}
use Rattle.rules.proofs.EventLaws.{of_kind}
use Rattle.rules.proofs.TakenLaws.{refused_is, accepted_is}
use Rattle.rules.proofs.DiodeLaws.{error_is}
use Rattle.rules.proofs.CalmLaws.{ErrorsKept}
use Rattle.rules.proofs.KeptLaws.{silence_kept}
use Rattle.rules.proofs.IdleLaws as idle
use Rattle.rules.proofs.ReportLaws.{is_report_lem, is_not, error_after_lem, error_other, tell}
use Rattle.rules.proofs.PageDiodesLaws.{page_diodes}
use Rattle.history.specs.Agreement.{run}
use Rattle.history.specs.Diodes.{Diodes}
use Rattle.history.proofs.State.{device_by, state_by}
use Rattle.history.proofs.IdleChipLaws.{chip_same, stamps_same, calm}
use Rattle.history.proofs.Agree.{agree}

-- events that leave the state that the rules describe leave the keeper
run_same : (e : Event) (h : History) → state_by (taken (e ∷ h)) ≡ state_by (taken h) → run (e ∷ h) ≡ run h
run_same e h q = agree (e ∷ h) ∙ (q ∙ sym (agree h))

refused_same : (e : Event) (h : History) → accepted e h ≡ false → run (e ∷ h) ≡ run h
refused_same e h bad = run_same e h (ap state_by (refused_is e h bad))

module _ (h : History) (c : ChannelId) (n : ℕ) (known : error_status c h ≡ eqb n 1) where
  abbrev e : Event
  e = reported c (pos n)

  abbrev d : Taken
  d = taken h

  errors : ErrorsKept e d
  errors x =
      tell c x
      (λ q. subst (λ (x : ChannelId). diode_error x (e ∷ d) ≡ diode_error x d) q (error_after_lem d c n ∙ (sym known ∙ error_is h c)))
      (error_other d c x (pos n))

  device_same : device_by (e ∷ d) ≡ device_by d
  unfolding device_by
  device_same =
      let other = is_not c (pos n) in
      rw (
        chip_same e d other errors,
        stamps_same e d other errors,
        silence_kept e d (idle.bits e d other) errors (idle.settled e d other) (of_kind e 10 (is_report_lem c (pos n)) kind.Alert),
      )

  state_same : state_by (e ∷ d) ≡ state_by d
  unfolding state_by powered
  state_same = rw (device_same, is_not c (pos n) kind.Power refl)

  repeated : run (e ∷ h) ≡ run h
  repeated =
      by_cases (accepted e h)
      (λ go. run_same e h (ap state_by (accepted_is e h go) ∙ state_same))
      (λ bad. refused_same e h bad)

pub diodes : (h : History) → Diodes h
diodes h =
    record {
      repeated = repeated h;
      unsampled = λ c t x. refused_same (sampled c t) h ((page_diodes h).unsampled c t x).0;
      calm = λ f e y. calm e h (idle.later e 10 (omega arith) y) f;
    }
