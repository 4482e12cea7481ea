-- INT let go, and not: what begins it, what it lasts over and what ends it, event by event and over lists. Assumes nothing.
use Prim.Native.Nat.{ℕ, ◌<◌}
use mathlib.Core.Path.{◌≡◌, sym, ◌∙◌}
use mathlib.Core.Bool.{true, false, or-true, true≢false}
use mathlib.Core.List.{List, [], ◌∷◌, ◌++◌}
use native.Mathlib.Omega.{arith}
use Rattle.integer.proofs.BoolLaws.{by_cases}
use Rattle.part.specs.declared.FanId.{FanId}
use Rattle.event.specs.Kinds.{is_kind}
use Rattle.event.specs.declared.Event.{Event}
use Rattle.event.specs.declared.Kind.TheVariants as kind
use Rattle.rules.specs.Events.{restarts}
use Rattle.rules.specs.Replies.{History, taken, accepted}
use Rattle.rules.specs.Shows.{int_due, raises, silenced}
use Rattle.rules.specs.PageWords.{Accepted, out}
use Rattle.rules.specs.PageAlerts.{status_bit, Quiet, AllQuiet, Unanswered}
use Rattle.rules.proofs.TakenLaws.{refused_is, accepted_is}
use Rattle.rules.proofs.KeptLaws.{raises_none}
use Rattle.rules.proofs.IdleLaws.{bits, due_same}
use Rattle.rules.proofs.AlertLaws.{is_not, errors, silence_is}
use Rattle.rules.proofs.IntLaws.{due_is, int_is, quiet_calm, quiet_still, raised}

-- ---- one event

module _ (e : Event) (g : History) where
  -- it stays so over a quiet event, and a refused one
  silent_step : silenced (taken g) ≡ true → (Accepted e g → Quiet e g) → silenced (taken (e ∷ g)) ≡ true
  unfolding silenced
  silent_step s q =
      by_cases (accepted e g)
      (λ go. rw (accepted_is e g go, quiet_calm e g (q go), s, quiet_still e g go (q go)))
      (λ bad. rw (refused_is e g bad) s)

  pub not_due : silenced (taken g) ≡ false → (out g).int ≡ 0 → int_due (taken g) ≡ false
  not_due s z =
      by_cases (int_due (taken g))
      (λ y. let one : (out g).int ≡ 1 = int_is g ∙ rw (due_is g, y, s) in absurd (omega (arith, one, z)))
      (λ n. n)

  -- only an alert that finds INT asserted begins it
  free_step : silenced (taken g) ≡ false → (is_kind kind.Alert e ≡ true → Accepted e g → (out g).int ≡ 0) → silenced (taken (e ∷ g)) ≡ false
  unfolding silenced
  free_step s q =
      by_cases (accepted e g)
      (λ go. rw (accepted_is e g go, s)
      (by_cases (restarts e)
      (λ r. rw r)
      (λ r. rw r (by_cases (is_kind kind.Alert e) (λ y. rw (y, not_due s (q y go))) (λ n. rw n)))))
      (λ bad. rw (refused_is e g bad) s)

  -- a raised bit and a restart end it
  ended : raises e (taken g) ≡ true → silenced (e ∷ taken g) ≡ false
  unfolding silenced
  ended y =
      by_cases (restarts e)
      (λ r. rw r)
      (λ r. rw (r, y)
      (by_cases (is_kind kind.Alert e)
      (λ a. absurd (true≢false (sym y ∙ raises_none e (taken g) (bits e (taken g) (is_not e (taken g) a)) (errors e (taken g) a))))
      (λ n. rw n (by_cases (silenced (taken g)) (λ s. rw s) (λ s. rw s)))))

  pub raised_free : Accepted e g → (f : FanId) (k : ℕ) → k < 8 → status_bit f k g ≡ false → status_bit f k (e ∷ g) ≡ true → silenced (taken (e ∷ g)) ≡ false
  raised_free go f k l p q = rw (accepted_is e g go) (ended (raised e g go f k l p q))

  pub restart_free : Accepted e g → restarts e ≡ true → silenced (taken (e ∷ g)) ≡ false
  unfolding silenced
  restart_free go r = rw (accepted_is e g go, r)

  -- after an alert INT is not asserted: it was let go before, is let go now, or is not due
  pub alert_out : is_kind kind.Alert e ≡ true → Accepted e g → (out (e ∷ g)).int ≡ 0
  alert_out y go =
      int_is (e ∷ g)
      ∙ rw (due_is (e ∷ g), accepted_is e g go, due_same e (taken g) (is_not e (taken g) y) (errors e (taken g) y), silence_is e (taken g) y)
      (by_cases (int_due (taken g)) (λ d. rw (d, or-true (silenced (taken g)))) (λ n. rw n))

-- ---- and over lists

pub stays_silent : (t : List Event) (h : History) → silenced (taken h) ≡ true → AllQuiet t h → silenced (taken (t ++ h)) ≡ true
unfolding AllQuiet
stays_silent [] h s q = s
stays_silent (e ∷ t) h s q = silent_step e (t ++ h) (stays_silent t h s q.0) q.1

pub stays_free : (t : List Event) (h : History) → silenced (taken h) ≡ false → Unanswered t h → silenced (taken (t ++ h)) ≡ false
unfolding Unanswered
stays_free [] h s q = s
stays_free (e ∷ t) h s q = free_step e (t ++ h) (stays_free t h s q.0) q.1
