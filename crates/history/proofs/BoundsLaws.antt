-- Every register value and duty is in its bounds. Assumes nothing.
use Prim.Native.Nat.{ℕ, ◌*◌, ◌≤◌, ◌<◌}
use mathlib.Core.Bool.{Bool}
use mathlib.Core.List.{[], ◌∷◌}
use native.Mathlib.Omega.{arith}
use lib.Dec.{eqb, ltb}
use lib.IntN.{ℤ, pos, negsuc}
use Rattle.integer.proofs.BoolLaws.{by_cases, either}
use Rattle.integer.proofs.PackLaws.{packed_small}
use Rattle.part.specs.declared.ChannelId.TheVariants.{Local, Remote1, Remote2}
use Rattle.part.specs.declared.FanId.{FanId}
use Rattle.part.specs.declared.FanId.TheVariants.{One, Two}
use Rattle.event.specs.declared.Event.{Event}
use Rattle.rules.specs.Registers.{config1, status_at, extended, value_at, speeds, exists_at}
use Rattle.rules.specs.Fields.{assignment, automatic, speed_code}
use Rattle.rules.specs.Events.{periods, restarts}
use Rattle.rules.specs.Stored.{Taken, stored_at}
use Rattle.rules.specs.Replies.{History, taken}
use Rattle.rules.specs.Temperatures.{temperature, whole_byte, remainder}
use Rattle.rules.specs.Targets.{demand, assigned_by, demand_if, target_of, target, overridden}
use Rattle.rules.specs.Duties.{enabled, filtered, Spin, prior, nearer, duty_after, spin_at, spin_after, spin, duty}
use Rattle.rules.specs.Shows.{status, byte_at, value}
use Rattle.history.specs.Bounds.{Bounds}
use Rattle.rules.proofs.TakenLaws.{Took, took}
use Rattle.rules.proofs.StoredLaws.{byte}
use Rattle.rules.proofs.PageDutiesLaws.{demand_small}

-- ---- register values

status_byte : (f : FanId) (d : Taken) → status f d < 256
unfolding status
status_byte One d = packed_small _ _ _ _ _ _ _ _
status_byte Two d = packed_small _ _ _ _ _ _ _ _

whole_small : (t : ℤ) → whole_byte t < 256
whole_small (pos n) = omega arith
whole_small (negsuc n) = omega arith

rest_small : (t : ℤ) → remainder t < 8
rest_small (pos n) = omega arith
rest_small (negsuc n) = omega arith

value_byte : (a : ℕ) {d : Taken} → Took d → value a d < 256
unfolding value byte_at
value_byte a {d} t =
    either P (exists_at a)
    (either P (eqb a (status_at One)) (status_byte One d)
    (either P (eqb a (status_at Two)) (status_byte Two d)
    (either P (eqb a extended)
    (omega (arith, rest_small (temperature Local d), rest_small (temperature Remote1 d), rest_small (temperature Remote2 d)))
    (either P (eqb a (value_at Local)) (whole_small (temperature Local d))
    (either P (eqb a (value_at Remote1)) (whole_small (temperature Remote1 d))
    (either P (eqb a (value_at Remote2)) (whole_small (temperature Remote2 d)) (byte a t)))))))
    (omega arith)
  where
    P : ℕ → Type 0
    P x = x < 256

-- ---- duties

if_small : (b : Bool) (d : ℕ) → d ≤ 240 → demand_if b d ≤ 240
if_small b d h = either (λ x. x ≤ 240) b h (omega arith)

code_small : (f : FanId) (byte : ℕ) → 16 * speed_code f byte ≤ 240
code_small One byte = omega arith
code_small Two byte = omega arith

pub target_small : (f : FanId) (d : Taken) → target f d ≤ 240
unfolding target target_of
target_small f d =
    let to = assigned_by (assignment (stored_at config1 d)) f in
    either (λ x. x ≤ 240) (automatic (stored_at config1 d))
    (omega (
      arith,
      if_small (to Local) (demand f Local d) (demand_small f Local d),
      if_small (to Remote1) (demand f Remote1 d) (demand_small f Remote1 d),
      if_small (to Remote2) (demand f Remote2 d) (demand_small f Remote2 d),
    ))
    (code_small f (stored_at speeds d))

duty_small : (f : FanId) (e : Event) (d : Taken) (spinning : Bool) (was : ℕ) → was ≤ 240 → duty_after f e d spinning was ≤ 240
unfolding duty_after nearer
duty_small f e d spinning was h =
    let aim = target_small f (e ∷ d) in
    either P (enabled f (e ∷ d))
    (either P (overridden (e ∷ d)) (omega arith)
    (either P (eqb (target f (e ∷ d)) 0) (omega arith)
    (either P spinning (omega arith)
    (either P (filtered f (e ∷ d))
    (either P (periods f e) (either P (ltb was (target f (e ∷ d))) (omega arith) (omega arith)) h)
    aim))))
    (omega arith)
  where
    P : ℕ → Type 0
    P x = x ≤ 240

at_small : (duty given since : ℕ) → duty ≤ 240 → (spin_at duty given since).duty ≤ 240
at_small duty given since h = by_cases (eqb duty 0) (λ z. rw z (omega arith)) (λ z. rw z h)

prior_small : (e : Event) (w : Spin) → w.duty ≤ 240 → (prior e w).duty ≤ 240
prior_small e w h = by_cases (restarts e) (λ p. rw p (omega arith)) (λ p. rw p h)

every_duty : (f : FanId) (d : Taken) → (spin f d).duty ≤ 240
unfolding spin spin_after
every_duty f [] = omega arith
every_duty f (e ∷ d) = at_small _ _ _ (duty_small f e d _ (prior e (spin f d)).duty (prior_small e (spin f d) (every_duty f d)))

duty_bound : (f : FanId) (d : Taken) → duty f d ≤ 240
unfolding duty
duty_bound f d = every_duty f d

pub bounds : (h : History) → Bounds h
bounds h = record { byte = λ a. value_byte a (took h); slots = λ f. duty_bound f (taken h) }
