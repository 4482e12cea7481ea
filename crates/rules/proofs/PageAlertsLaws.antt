-- The page of INT and of alerts holds after every list. Assumes nothing.
use mathlib.Core.Path.{◌≡◌, refl, sym, ◌∙◌, subst}
use mathlib.Core.Bool.{true, false, or-true}
use mathlib.Core.List.{[], ◌∷◌, ◌++◌, append-nil}
use native.Mathlib.Omega.{arith}
use lib.IntN.{ℤ}
use Rattle.integer.specs.Bits.{flag_of}
use Rattle.integer.proofs.BoolLaws.{by_cases}
use Rattle.part.specs.declared.FanId.TheVariants.{One, Two}
use Rattle.rules.specs.Registers.{config1}
use Rattle.rules.specs.Stored.{Taken, pin_low}
use Rattle.rules.specs.Replies.{History, taken}
use Rattle.rules.specs.Shows.{int_due, silenced, fault_asserted, shown}
use Rattle.rules.specs.PageWords.{power, Accepted, out}
use Rattle.rules.specs.PageTemperatures.{reset}
use Rattle.rules.specs.PageAlerts.{due, alerted, FollowsStatus, PageAlerts}
use Rattle.rules.proofs.TakenLaws.{accepted_is}
use Rattle.rules.proofs.CalmLaws.{therm_same}
use Rattle.rules.proofs.FanWordsLaws.{duty_is}
use Rattle.rules.proofs.IdleLaws as idle
use Rattle.rules.proofs.AlertLaws as alert
use Rattle.rules.proofs.IntLaws.{due_is, int_is}
use Rattle.rules.proofs.SilenceLaws.{alert_out, raised_free, restart_free, stays_silent, stays_free}

-- let go, INT is not asserted; else it is what rule 8 says
silent_out : (h : History) → silenced (taken h) ≡ true → (out h).int ≡ 0
silent_out h s = int_is h ∙ rw s (by_cases (due h) (λ y. rw y) (λ n. rw n))

free_out : (h : History) → silenced (taken h) ≡ false → (out h).int ≡ flag_of (due h)
free_out h s = int_is h ∙ rw s (by_cases (due h) (λ y. rw y) (λ n. rw n))

follows : (h : History) → silenced (taken h) ≡ false → FollowsStatus h
follows h s t q = free_out (t ++ h) (stays_free t h s q)

-- before the first event it is not let go
at_first : silenced [] ≡ false
unfolding silenced
at_first = refl

module _ (h : History) (w : ℤ) (go : Accepted (alerted w) h) where
  abbrev d : Taken
  d = taken h

  took : taken (alerted w ∷ h) ≡ alerted w ∷ d
  took = accepted_is (alerted w) h go

  -- asserted, it was due and not let go
  goes_silent : (out h).int ≡ 1 → silenced (taken (alerted w ∷ h)) ≡ true
  goes_silent one =
      rw (took, alert.silence_is (alerted w) d refl)
      (by_cases (int_due d)
      (λ y. rw (y, or-true (silenced d)))
      (λ n. let zero : (out h).int ≡ 0 = int_is h ∙ rw (due_is h, n) in absurd (omega (arith, zero, one))))

-- it is of none of document 01's kinds
not_01 : (d : Taken) (w : ℤ) → idle.Another (alerted w)
not_01 d w = alert.is_not (alerted w) d refl

pub page_alerts : (h : History) → PageAlerts h
unfolding shown fault_asserted pin_low
page_alerts h =
    let d = taken h in
    record {
      int = λ q. subst (λ (g : History). (out g).int ≡ flag_of (due g)) (append-nil h) (follows [] (unfold taken in at_first) h q);
      let_go = λ w go. alert_out (alerted w) h refl go;
      silent = λ w t go one q. silent_out (t ++ (alerted w ∷ h)) (stays_silent t (alerted w ∷ h) (goes_silent h w go one) q);
      raised = λ e f k go l p q. follows (e ∷ h) (raised_free e h go f k l p q);
      powered = λ w a v go. follows (power w a v ∷ h) (restart_free (power w a v) h go refl);
      restarted = λ w b go seven. follows (reset w b ∷ h) (restart_free (reset w b) h go (rw seven));
      registers = λ w a go. rw (accepted_is (alerted w) h go) (idle.value_same (alerted w) d (not_01 d w) (alert.errors (alerted w) d refl) a);
      duties = λ w f go.
          duty_is (alerted w ∷ h) (alerted w ∷ d) (accepted_is (alerted w) h go) f ∙
          (idle.duty_same (alerted w) d (not_01 d w) (alert.errors (alerted w) d refl) f
          ∙ sym (duty_is h d refl f));
      outputs = λ w go.
          let u = idle.settled (alerted w) d (not_01 d w) in
          rw (
            accepted_is (alerted w) h go,
            therm_same (alerted w) d u,
            u.byte config1 refl,
            idle.run_same (alerted w) d (not_01 d w) One,
            idle.run_same (alerted w) d (not_01 d w) Two,
          )
          (refl, refl);
      channels = λ w c go.
          let u = idle.settled (alerted w) d (not_01 d w) in
          rw (accepted_is (alerted w) h go) (u.latch c, u.flag c, u.reading c);
      fans = λ w f go. rw (accepted_is (alerted w) h go)
          (idle.left_same (alerted w) d (not_01 d w) (alert.errors (alerted w) d refl) f, idle.run_same (alerted w) d (not_01 d w) f);
      level = λ w go. rw (accepted_is (alerted w) h go) (idle.settled (alerted w) d (not_01 d w)).pin;
    }
