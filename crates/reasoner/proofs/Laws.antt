-- The bytes of a reason, and of both fans after an event. Assumes nothing.
use Prim.Native.Nat.{ℕ, ◌+◌, ◌*◌}
use mathlib.Core.Path.{◌≡◌, refl, sym, ap, ◌∙◌}
use mathlib.Core.List.{List, [], ◌∷◌, ◌++◌}
use native.Mathlib.Omega.{arith}
use lib.IntN.{ℤ, pos}
use lib.ListN.{length, get_or, length-append}
use lib.Seq.{sets}
use mir.Syntax.{w8}
use mir.Val.{Fits}
use Rattle.integer.specs.Bits.{flag_of}
use Rattle.part.specs.declared.ChannelId.{ChannelId}
use Rattle.part.specs.declared.ChannelId.TheVariants.{Local, Remote1, Remote2}
use Rattle.event.specs.Answers.{refusal_number}
use Rattle.event.specs.declared.Event.{Event}
use Rattle.event.specs.declared.Explanation.{Explanation}
use Rattle.event.specs.declared.Ramp.{Ramp}
use Rattle.event.specs.declared.Reason.{Reason}
use Rattle.event.specs.declared.Reason.TheVariants as reason
use Rattle.event.specs.declared.Refusal.{Refusal}
use Rattle.std.specs.Prelude.{Option, Some, Result, Ok, Err}
use Rattle.rules.specs.Events.{channel_number}
use Rattle.rules.specs.Replies.{History, taken}
use Rattle.rules.specs.Reasons.{why_for}
use Rattle.keeper.specs.Keeping.{outcome_of}
use Rattle.keeper.specs.declared.Keeper.{Keeper}
use Rattle.keeper.specs.declared.Outcome.{Outcome}
use Rattle.reason.specs.Aging.{explanation_of}
use Rattle.history.specs.Agreement.{run}
use Rattle.rules.specs.Stamps.{reason_told}
use Rattle.rules.proofs.PageStampsLaws.{beside}
use Rattle.history.proofs.Agree.{agreement}
use Rattle.stepper.specs.Steps.{event_numbered, first_events, bytes_of}
use Rattle.stepper.proofs.Laws.{sets_append}
use Rattle.reasoner.specs.Reasons.{why_bytes, both_bytes, reasons_after}

-- ---- four bytes

pub channel_fits : (c : ChannelId) {n : ℕ} → n ≡ channel_number c → Fits w8 n
channel_fits Local e = omega arith
channel_fits Remote1 e = omega arith
channel_fits Remote2 e = omega arith

module _ {r : Reason} where
  pub disabled_is : r ≡ reason.Disabled → (1 ∷ 0 ∷ 0 ∷ 0 ∷ []) ≡ why_bytes (Ok r)
  disabled_is q = rw q

  pub pin_low_is : r ≡ reason.PinLow → (2 ∷ 0 ∷ 0 ∷ 0 ∷ []) ≡ why_bytes (Ok r)
  pin_low_is q = rw q

  pub therm_is : {c : ChannelId} {n : ℕ} → r ≡ reason.Therm c → n ≡ channel_number c → (3 ∷ n ∷ 0 ∷ 0 ∷ []) ≡ why_bytes (Ok r)
  therm_is q e = rw (q, e)

  pub no_target_is : r ≡ reason.NoTarget → (4 ∷ 0 ∷ 0 ∷ 0 ∷ []) ≡ why_bytes (Ok r)
  no_target_is q = rw q

  pub spin_up_is : {n : ℕ} → r ≡ reason.SpinUp n → (5 ∷ n ∷ 0 ∷ 0 ∷ []) ≡ why_bytes (Ok r)
  spin_up_is q = rw q

  pub ramp_is : {m : Ramp} {n : ℕ} → r ≡ reason.Ramp m → n ≡ flag_of m.up → (6 ∷ m.left ∷ n ∷ m.target ∷ []) ≡ why_bytes (Ok r)
  ramp_is q e = rw (q, e)

  pub manual_is : r ≡ reason.Manual → (7 ∷ 0 ∷ 0 ∷ 0 ∷ []) ≡ why_bytes (Ok r)
  manual_is q = rw q

  pub demand_is : {c : ChannelId} {n : ℕ} → r ≡ reason.Demand c → n ≡ channel_number c → (8 ∷ n ∷ 0 ∷ 0 ∷ []) ≡ why_bytes (Ok r)
  demand_is q e = rw (q, e)

module _ {w : Result Explanation Refusal} where
  pub because_is : {x : Explanation} {b : List ℕ} → w ≡ Ok x → b ≡ why_bytes (Ok x.reason) → b ≡ why_bytes (reason_told w)
  because_is q e = rw q e

  pub refused_is : {a : Refusal} {n : ℕ} → w ≡ Err a → n ≡ refusal_number a → (0 ∷ n ∷ 0 ∷ 0 ∷ []) ≡ why_bytes (reason_told w)
  refused_is q e = rw (q, e)

-- ---- eight

why_long : (told : Result Reason Refusal) → length (why_bytes told) ≡ 4
why_long (Ok r) = refl
why_long (Err a) = refl

both_long : (one two : Result Reason Refusal) → length (both_bytes one two) ≡ 8
both_long one two = length-append (why_bytes one) (why_bytes two) ∙ rw (why_long one, why_long two)

pub both_put : (one two : Result Reason Refusal) (d : List ℕ) (at : ℕ) {d1 d2 a b : List ℕ} → a ≡ why_bytes one → b ≡ why_bytes two
    → d1 ≡ sets d at a → d2 ≡ sets d1 (at + 4) b → d2 ≡ sets d at (both_bytes one two)
both_put one two d at ea eb e1 e2 =
    rw (e2, e1, ea, eb)
    (sym (sets_append (why_bytes one) (why_bytes two) d at ∙ ap (λ (n : ℕ). sets (sets d at (why_bytes one)) (at + n) (why_bytes two)) (why_long one)))

-- ---- after an event

module _ (x : Event) (h : History) where
  -- the keeper that it leaves is that of the longer list
  pub after_is : {k : Keeper} {o : Outcome} → k ≡ run h → o ≡ outcome_of k x → o.keeper ≡ run (x ∷ h)
  unfolding run
  after_is before ho = rw (ho, before)

  pub reasons_is : {k : Keeper} {o : Outcome} {one two : Result Explanation Refusal} → k ≡ run h → o ≡ outcome_of k x → one ≡ explanation_of o.keeper (pos 1)
      → two ≡ explanation_of o.keeper (pos 2) → both_bytes (reason_told one) (reason_told two) ≡ reasons_after x h
  reasons_is before ho e1 e2 =
      rw (
        e1,
        e2,
        after_is before ho,
        (agreement (x ∷ h)).explanation (pos 1),
        (agreement (x ∷ h)).explanation (pos 2),
        (beside (pos 1) (taken (x ∷ h))).0,
        (beside (pos 2) (taken (x ∷ h))).0,
      )

  pub reasons_long : length (reasons_after x h) ≡ 8
  reasons_long = both_long (why_for (pos 1) (taken (x ∷ h))) (why_for (pos 2) (taken (x ∷ h)))
