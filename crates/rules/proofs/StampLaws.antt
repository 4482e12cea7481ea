-- Stamps and ages: what sets them, and that they count the clock events of the list. Assumes nothing.
use Prim.Native.Nat.{ℕ, suc, ◌+◌, ◌-◌, ◌%◌, ◌<◌}
use mathlib.Core.Path.{◌≡◌, refl, sym, ap, ◌∙◌}
use mathlib.Core.Bool.{true, false, cond, ◌&&◌, or-true}
use mathlib.Core.List.{List, [], ◌∷◌, ◌++◌}
use native.Mathlib.Omega.{arith}
use lib.Dec.{eqb, ltb}
use borrow.Author.Tests.{lt-ltb, eqb-true}
use Rattle.integer.proofs.BoolLaws.{by_cases}
use Rattle.part.specs.declared.FanId.{FanId}
use Rattle.part.specs.declared.FanId.TheVariants.{One, Two}
use Rattle.event.specs.Kinds.{is_kind}
use Rattle.std.specs.Prelude.{Ok}
use Rattle.event.specs.declared.Event.{Event}
use Rattle.event.specs.declared.Kind.TheVariants as kind
use Rattle.rules.specs.Events.{restarts}
use Rattle.rules.specs.Stored.{powered}
use Rattle.rules.specs.Replies.{History, taken, accepted}
use Rattle.rules.specs.Duties.{duty}
use Rattle.rules.specs.Stamps.{clocks, stamp, sets_stamp, fan_stamp, age, age_for}
use Rattle.rules.specs.PageWords.{Accepted, duty_out, reply_number}
use Rattle.rules.specs.PageStamps.{aged_fan, tenths_in, Unpowered, NoStart, NoStarts, AgeSince}
use Rattle.rules.proofs.TakenLaws.{refused_is, accepted_is}
use Rattle.rules.proofs.ReplyLaws.{number_is}
use Rattle.rules.proofs.FanWordsLaws.{duty_is}
use Rattle.rules.proofs.IntLaws.{restart_none}

-- ---- the clock events since power, event by event and over lists

module _ (e : Event) (g : History) where
  -- of an event that is no accepted power
  clocks_then : (Accepted e g → is_kind kind.Power e ≡ false) → {n : ℕ} → clocks (taken g) ≡ n
      → clocks (taken (e ∷ g)) ≡ cond (is_kind kind.Clock e && eqb (reply_number e g) 0) (suc n) n
  unfolding clocks
  clocks_then off q =
      rw (number_is e g)
      (by_cases (accepted e g)
      (λ go. rw (accepted_is e g go, off go, go, q) (by_cases (is_kind kind.Clock e) (λ y. rw y) (λ y. rw y)))
      (λ bad. rw (refused_is e g bad, bad) (by_cases (is_kind kind.Clock e) (λ y. rw y q) (λ y. rw y q))))

  on_then : powered (taken g) ≡ true → powered (taken (e ∷ g)) ≡ true
  unfolding powered
  on_then on = by_cases (accepted e g) (λ go. rw (accepted_is e g go, on, or-true)) (λ bad. rw (refused_is e g bad) on)

  -- an accepted event at which a fan does not go from 0 to more, and is not restarted, leaves its stamp
  still_then : (f : FanId) → Accepted e g → NoStart f e g → (eqb (duty f (taken g)) 0 && ltb 0 (duty f (e ∷ taken g))) ≡ false
  unfolding duty
  still_then f go n =
      by_cases (eqb (duty f (taken g)) 0)
      (λ z.
      let was : duty_out f g ≡ 0 = duty_is g (taken g) refl f ∙ eqb-true (duty f (taken g)) 0 z in
      let now : duty f (e ∷ taken g) ≡ 0 = sym (duty_is (e ∷ g) (e ∷ taken g) (accepted_is e g go) f) ∙ n.still was in
      rw (z, now))
      (λ z. rw z)

  kept_then : (f : FanId) → (Accepted e g → NoStart f e g) → fan_stamp f (taken (e ∷ g)) ≡ fan_stamp f (taken g)
  unfolding fan_stamp sets_stamp
  kept_then f q =
      by_cases (accepted e g)
      (λ go. rw (accepted_is e g go, restart_none e (q go).no_power (q go).no_reset, still_then f go (q go)))
      (λ bad. rw (refused_is e g bad))

pub counts_on : (t : List Event) (h : History) → Unpowered t h → clocks (taken (t ++ h)) ≡ clocks (taken h) + tenths_in t h
unfolding Unpowered tenths_in
counts_on [] h u = omega arith
counts_on (e ∷ t) h u =
    clocks_then e (t ++ h) u.1 (counts_on t h u.0)
    ∙ by_cases (is_kind kind.Clock e && eqb (reply_number e (t ++ h)) 0) (λ y. rw y (omega arith)) (λ y. rw y)

pub stays_on : (t : List Event) (h : History) → powered (taken h) ≡ true → powered (taken (t ++ h)) ≡ true
stays_on [] h on = on
stays_on (e ∷ t) h on = on_then e (t ++ h) (stays_on t h on)

stays_set : (f : FanId) (t : List Event) (h : History) → NoStarts f t h → fan_stamp f (taken (t ++ h)) ≡ fan_stamp f (taken h)
unfolding NoStarts
stays_set f [] h q = refl
stays_set f (e ∷ t) h q = kept_then e (t ++ h) f q.1 ∙ stays_set f t h q.0

no_power_in_lem : (f : FanId) (t : List Event) (h : History) → NoStarts f t h → Unpowered t h
unfolding NoStarts Unpowered
no_power_in_lem f [] h q = tt
no_power_in_lem f (e ∷ t) h q = (no_power_in_lem f t h q.0, λ go. (q.1 go).no_power)

-- ---- the age since a stamp was set

-- the difference of two stamps is the number of clocks between them
pub apart : (a n : ℕ) → ((a + n) % 65536 + (65536 - a % 65536)) % 65536 ≡ n % 65536
apart a n = omega arith

pub told_of_lem : (h : History) (f : FanId) → powered (taken h) ≡ true → aged_fan f h ≡ Ok (age f (taken h))
unfolding age_for
told_of_lem h One on = rw on
told_of_lem h Two on = rw on

module _ (f : FanId) (h : History) (on : powered (taken h) ≡ true) (set : fan_stamp f (taken h) ≡ stamp (taken h)) where
  since_modulo : (t : List Event) → NoStarts f t h → aged_fan f (t ++ h) ≡ Ok (tenths_in t h % 65536)
  unfolding age stamp
  since_modulo t q =
      told_of_lem (t ++ h) f (stays_on t h on)
      ∙ ap Ok (rw (stays_set f t h q, set, counts_on t h (no_power_in_lem f t h q)) (apart (clocks (taken h)) (tenths_in t h)))

  since_true : (t : List Event) → NoStarts f t h → tenths_in t h < 65536 → aged_fan f (t ++ h) ≡ Ok (tenths_in t h)
  since_true t q l = since_modulo t q ∙ ap Ok (omega arith)

  pub age_since : AgeSince f h
  age_since = record { modulo = since_modulo; true_count = since_true }

-- ---- what sets a fan's stamp

module _ (f : FanId) (e : Event) (h : History) (go : Accepted e h) where
  pub set_by_restart : restarts e ≡ true → fan_stamp f (taken (e ∷ h)) ≡ stamp (taken (e ∷ h))
  unfolding fan_stamp sets_stamp
  set_by_restart r = rw (accepted_is e h go, r)

  pub set_by_start : duty_out f h ≡ 0 → 0 < duty_out f (e ∷ h) → fan_stamp f (taken (e ∷ h)) ≡ stamp (taken (e ∷ h))
  unfolding fan_stamp sets_stamp duty
  set_by_start z up =
      let was : duty f (taken h) ≡ 0 = sym (duty_is h (taken h) refl f) ∙ z in
      let now : 0 < duty f (e ∷ taken h) = rw (duty_is (e ∷ h) (e ∷ taken h) (accepted_is e h go) f) at up in
      rw (accepted_is e h go, was, lt-ltb 0 (duty f (e ∷ taken h)) now, or-true)
