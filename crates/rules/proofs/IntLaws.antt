-- INT and the status bits as a user sees them; quiet events, and events that raise a bit. Assumes nothing.
use Prim.Native.Nat.{ℕ, ◌<◌}
use mathlib.Core.Path.{◌≡◌, refl, sym, ap, ◌∙◌}
use mathlib.Core.Bool.{true, false, not, ◌&&◌, or-true, true≢false}
use mathlib.Core.List.{◌∷◌}
use lib.IntN.{ℤ, pos, negsuc}
use borrow.Author.Tests.{eqb-true}
use Rattle.integer.specs.Bits.{bit_of, flag_of}
use Rattle.integer.proofs.BoolLaws.{by_cases, both, neither}
use Rattle.integer.proofs.PackLaws.{pending_law}
use Rattle.part.specs.declared.FanId.{FanId}
use Rattle.part.specs.declared.FanId.TheVariants.{One, Two}
use Rattle.event.specs.Kinds.{is_kind, kind_of, numbers_of, place_of, kind_at}
use Rattle.event.specs.declared.Numbers.{Numbers}
use Rattle.event.specs.declared.Event.{Event}
use Rattle.event.specs.declared.Kind.TheVariants as kind
use Rattle.event.proofs.Laws.{kind_back, event_made}
use Rattle.rules.specs.Registers.{exists_at}
use Rattle.rules.specs.Events.{who, arg, val, is_number, natural, byte_given, resets, restarts}
use Rattle.rules.specs.Replies.{History, taken}
use Rattle.rules.specs.Shows.{status, byte_at, value, pending, int_due, some_risen, raises, silenced, int_asserted, shown}
use Rattle.rules.specs.PageWords.{Accepted, out}
use Rattle.rules.specs.PageTemperatures.{reset}
use Rattle.rules.specs.PageAlerts.{due, status_bit, Quiet}
use Rattle.rules.proofs.TakenLaws.{accepted_is}
use Rattle.rules.proofs.RiseLaws.{some_risen_lem, none_risen}

-- ---- what is seen

pub due_is : (h : History) → due h ≡ int_due (taken h)
unfolding int_due pending value byte_at exists_at status
due_is h = simp pending_law

pub int_is : (h : History) → (out h).int ≡ flag_of (due h && not (silenced (taken h)))
unfolding shown int_asserted
int_is h = rw (due_is h)

status_is : (f : FanId) (k : ℕ) (h : History) → status_bit f k h ≡ bit_of (status f (taken h)) k
unfolding value byte_at exists_at
status_is One k h = refl
status_is Two k h = refl

-- ---- a software reset is a write of 0x01 with bit 7 set

is_number_lem : (v : ℤ) (n : ℕ) → is_number v n ≡ true → v ≡ pos n
is_number_lem (pos m) n q = ap pos (eqb-true m n q)
is_number_lem (negsuc m) n q = absurd (true≢false (sym q))

not_negative : (v : ℤ) → bit_of (natural v) 7 ≡ true → v ≡ pos (natural v)
not_negative (pos n) q = refl
not_negative (negsuc n) q = absurd (true≢false (sym q))

reset_form : (e : Event) → resets e ≡ true → e ≡ reset (who e) (byte_given e)
reset_form e y =
    let write = both (is_kind kind.Write e && is_number (arg e) 1) _ y in
    let own = both (is_kind kind.Write e) _ write.0 in
    event_made (sym (kind_back (kind_of e)) ∙ ap kind_at (eqb-true (place_of (kind_of e)) 1 own.0))
    (made (numbers_of e) (pos 1) (pos (byte_given e)) (is_number_lem (arg e) 1 own.1) (not_negative (val e) write.1))
  where
    made : (n : Numbers) (a v : ℤ) → n.arg ≡ a → n.val ≡ v → n ≡ record { who = n.who; arg = a; val = v }
    made n a v p q = rw (← p, ← q) refl

-- ---- one event

-- no power, and no software reset by its numbers: it restarts nothing
pub restart_none : (e : Event) → is_kind kind.Power e ≡ false → ((w : ℤ) (b : ℕ) → e ≡ reset w b → bit_of b 7 ≡ false) → restarts e ≡ false
restart_none e no_power no-reset =
    rw no_power
    (by_cases (resets e)
    (λ y. absurd (true≢false (sym (both (is_kind kind.Write e && is_number (arg e) 1) _ y).1 ∙ no-reset (who e) (byte_given e) (reset_form e y))))
    (λ n. n))

module _ (e : Event) (g : History) where
  -- a quiet event restarts nothing and raises no bit
  pub quiet_calm : Quiet e g → restarts e ≡ false
  quiet_calm q = restart_none e q.no_power q.no_reset

  pub quiet_still : Accepted e g → Quiet e g → raises e (taken g) ≡ false
  quiet_still go q = rw (still One, still Two)
    where
      still : (f : FanId) → some_risen (status f (taken g)) (status f (e ∷ taken g)) ≡ false
      still f =
          none_risen _ _ (λ k l z. rw (← accepted_is e g go) (sym (status_is f k (e ∷ g)) ∙ q.no_rise f k l (status_is f k g ∙ z)))

  -- what is quiet by tests that compute
  pub quiet_by : Accepted e g → restarts e ≡ false → raises e (taken g) ≡ false → Quiet e g
  quiet_by go calm still =
      record {
        no_power = (neither (is_kind kind.Power e) (resets e) calm).0;
        no_reset = λ w b q. sym (ap resets q) ∙ (neither (is_kind kind.Power e) (resets e) calm).1;
        no_rise = λ f k l z. status_is f k (e ∷ g) ∙ rw (accepted_is e g go) (none f k l (sym (status_is f k g) ∙ z));
      }
    where
      byte : (f : FanId) → some_risen (status f (taken g)) (status f (e ∷ taken g)) ≡ false
      byte One = (neither (some_risen (status One (taken g)) (status One (e ∷ taken g))) _ still).0
      byte Two = (neither (some_risen (status One (taken g)) (status One (e ∷ taken g))) _ still).1

      none : (f : FanId) (k : ℕ) → k < 8 → bit_of (status f (taken g)) k ≡ false → bit_of (status f (e ∷ taken g)) k ≡ false
      none f k l z = by_cases (bit_of (status f (e ∷ taken g)) k) (λ y. absurd (true≢false (sym (some_risen_lem _ _ k l z y) ∙ byte f))) (λ n. n)

  -- one at which a status bit goes from 0 to 1
  risen_now :
      Accepted e g → (f : FanId) (k : ℕ) → k < 8 → status_bit f k g ≡ false → status_bit f k (e ∷ g) ≡ true →
      some_risen (status f (taken g)) (status f (e ∷ taken g)) ≡ true
  risen_now go f k l p q = some_risen_lem _ _ k l (sym (status_is f k g) ∙ p) (rw (← accepted_is e g go) (sym (status_is f k (e ∷ g)) ∙ q))

  pub raised : Accepted e g → (f : FanId) (k : ℕ) → k < 8 → status_bit f k g ≡ false → status_bit f k (e ∷ g) ≡ true → raises e (taken g) ≡ true
  raised go One k l p q = rw (risen_now go One k l p q)
  raised go Two k l p q = rw (risen_now go Two k l p q, or-true (some_risen (status One (taken g)) (status One (e ∷ taken g))))
