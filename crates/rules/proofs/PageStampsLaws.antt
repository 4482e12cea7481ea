-- The page of stamps holds after every list. Assumes nothing.
use Prim.Native.Nat.{ℕ, ◌<◌}
use mathlib.Core.Path.{◌≡◌, refl, sym, ap, ◌∙◌}
use mathlib.Core.Bool.{true, false}
use mathlib.Core.List.{[], ◌∷◌}
use native.Mathlib.Omega.{arith}
use lib.IntN.{ℤ}
use Rattle.integer.proofs.BoolLaws.{by_cases}
use Rattle.part.specs.declared.FanId.{FanId}
use Rattle.event.specs.declared.Refusal.{Refusal}
use Rattle.std.specs.Prelude.{Result, Ok, Err}
use Rattle.event.specs.declared.Event.{Event}
use Rattle.rules.specs.Events.{is_number}
use Rattle.rules.specs.Reasons.{why_for}
use Rattle.rules.specs.Stored.{Taken, powered}
use Rattle.rules.specs.Replies.{History, taken, accepted}
use Rattle.rules.specs.Stamps.{clocks, stamp, age_for, age_number, age_clocks, explanation_for, reason_told, age_told}
use Rattle.rules.specs.PageWords.{power, Accepted, duty_out}
use Rattle.rules.specs.PageReplies.{one_of}
use Rattle.rules.specs.PageTemperatures.{reset}
use Rattle.rules.specs.PageStamps.{stamp_out, aged_at, AgeSince, PageStamps}
use Rattle.rules.proofs.TakenLaws.{took, refused_is, accepted_is, on_after, off_none}
use Rattle.rules.proofs.ReplyWords.{neither_fan}
use Rattle.rules.proofs.FanWordsLaws.{duty_is}
use Rattle.rules.proofs.StampLaws.{counts_on, told_of_lem, age_since, set_by_restart, set_by_start}

no_fan_lem : (h : History) (n : ℤ) → powered (taken h) ≡ true → one_of (1 ∷ 2 ∷ []) n ≡ false → age_number (aged_at n h) ≡ 3
unfolding age_for
no_fan_lem h n on y = rw (on, (neither_fan n y).0, (neither_fan n y).1)

-- where a refusal is told there is no age beside it
none_beside : (a : Result ℕ Refusal) → 0 < age_number a → age_clocks a ≡ 0
none_beside (Ok n) up = absurd (omega arith)
none_beside (Err r) up = refl

-- and a reason is told where an age is
pub beside : (n : ℤ) (d : Taken) → (reason_told (explanation_for n d) ≡ why_for n d) × (age_told (explanation_for n d) ≡ age_clocks (age_for n d))
unfolding why_for age_for
beside n d =
    by_cases (powered d)
    (λ on. by_cases (is_number n 1)
    (λ y. rw (on, y) (refl, refl))
    (λ no. by_cases (is_number n 2) (λ y. rw (on, no, y) (refl, refl)) (λ m. rw (on, no, m) (refl, refl))))
    (λ off. rw off (refl, refl))

module _ (h : History) where
  -- power begins the count at 0
  at_power_lem : (w x y : ℤ) → Accepted (power w x y) h → clocks (taken (power w x y ∷ h)) ≡ 0
  unfolding clocks
  at_power_lem w x y go = rw (accepted_is (power w x y) h go)

  at_reset : (w : ℤ) (b : ℕ) → Accepted (reset w b) h → clocks (taken (reset w b ∷ h)) ≡ clocks (taken h)
  unfolding clocks
  at_reset w b go = rw (accepted_is (reset w b) h go)

  before : powered (taken h) ≡ false → stamp_out h ≡ 0
  unfolding stamp clocks
  before off = rw (off_none (took h) off)

  on_then : (e : Event) → Accepted e h → powered (taken (e ∷ h)) ≡ true
  on_then e go = rw (accepted_is e h go) (on_after e (taken h) go)

  -- a fan starts at an accepted event alone
  started : (f : FanId) (e : Event) → duty_out f h ≡ 0 → 0 < duty_out f (e ∷ h) → AgeSince f (e ∷ h)
  started f e z up =
      by_cases (accepted e h)
      (λ go. age_since f (e ∷ h) (on_then e go) (set_by_start f e h go z up))
      (λ bad.
      let same : duty_out f (e ∷ h) ≡ duty_out f h = duty_is (e ∷ h) (taken h) (refused_is e h bad) f ∙ sym (duty_is h (taken h) refl f) in
      absurd (omega (arith, z, same)))

pub page_stamps : (h : History) → PageStamps h
page_stamps h =
    record {
      no_power = λ n off. (unfold age_for in rw off);
      no_fan = no_fan_lem h;
      given = λ f on. ap age_number (told_of_lem h f on);
      reason = λ n. (beside n (taken h)).0;
      beside = λ n clocks is. (beside n (taken h)).1 ∙ ap age_clocks is;
      untold = λ n up. (beside n (taken h)).1 ∙ none_beside (age_for n (taken h)) up;
      stamp = λ w x y t go u. (unfold stamp in rw (counts_on t (power w x y ∷ h) u, at_power_lem h w x y go) (omega arith));
      unpowered = before h;
      started = started h;
      powered = λ f w x y go.
          let e = power w x y in
          ((unfold stamp in rw (at_power_lem h w x y go)), age_since f (e ∷ h) (on_then h e go) (set_by_restart f e h go refl));
      restarted = λ f w b go seven.
          let e = reset w b in
          ((unfold stamp in rw (at_reset h w b go)), age_since f (e ∷ h) (on_then h e go) (set_by_restart f e h go (rw seven)));
      refused = λ e n bad. rw (refused_is e h bad) (refl, refl);
    }
