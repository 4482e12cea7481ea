-- What an accepted count does: judged, failed, and where it is not judged, nothing but its register. Assumes nothing.
use Prim.Native.Nat.{suc, ◌<◌}
use mathlib.Core.Path.{◌≡◌, refl, sym, ap, ◌∙◌}
use mathlib.Core.Bool.{Bool, true, false, cond, ◌&&◌}
use mathlib.Core.List.{[], ◌∷◌}
use native.Mathlib.Omega.{arith}
use lib.Dec.{ltb, eqb}
use Rattle.integer.proofs.BoolLaws.{by_cases, both}
use Rattle.part.specs.declared.FanId.{FanId}
use Rattle.event.specs.Kinds.{is_kind, place_of}
use Rattle.event.specs.declared.Event.{Event}
use Rattle.event.specs.declared.Kind.{Kind}
use Rattle.event.specs.declared.Kind.TheVariants as kind
use Rattle.rules.specs.Registers.{config2, tach_limit_at, characteristics_at}
use Rattle.rules.specs.Events.{byte_given, measures}
use Rattle.rules.specs.Stored.{Taken, stored_at}
use Rattle.rules.specs.Targets.{overridden}
use Rattle.rules.specs.Duties.{enabled, tach_on, spin_up_clocks, left, judged_in, failed_in, spin, judged, failed, failures, fault_bit}
use Rattle.rules.proofs.EventLaws.{of_kind}
use Rattle.rules.proofs.CalmLaws.{no_restart, same_prior, byte_same, limit_same, spin_up_same}
use Rattle.rules.proofs.SoundLaws.{two_clocks, wanted, aimed, sound, is_wanted}
use Rattle.rules.proofs.TurnLaws as turn
use Rattle.rules.proofs.TurnLaws.{failure_left, AimKept, aim_by_kind, wanted_same, duty_same}

-- a count would be judged: the tach bit is 1, the duty above 0, nothing is left of the spin-up
abbrev pub judgeable : FanId → Taken → Bool
judgeable f d = tach_on f d && (ltb 0 (spin f d).duty && eqb (left (spin f d)) 0)

-- a tach bit of 0: no run
pub untracked : (f : FanId) (d : Taken) → tach_on f d ≡ false → failures f d ≡ 0
unfolding failures
untracked f [] off = refl
untracked f (e ∷ d) off = rw off

module _ (e : Event) (d : Taken) (tach : is_kind kind.Tach e ≡ true) where
  -- it is of no other kind
  pub kind_is : (k : Kind) → is_kind k e ≡ eqb 5 (place_of k)
  kind_is = of_kind e 5 tach

  bits_same : stored_at config2 (e ∷ d) ≡ stored_at config2 d
  bits_same = byte_same e d (kind_is kind.Power) (kind_is kind.Write) config2 refl

  module _ (f : FanId) where
    abbrev as_before : AimKept f e d
    as_before = aim_by_kind f e d (kind_is kind.Power) (kind_is kind.Write) (kind_is kind.Sample) (kind_is kind.Pin) (kind_is kind.Diode)

    failed_in_lem : failed f e d ≡ failed_in f e d (spin f d)
    unfolding failed
    failed_in_lem = ap (failed_in f e d) (same_prior e d (kind_is kind.Power) (kind_is kind.Write) (spin f d))

    pub judged_is : judged f e d ≡ (measures f e && judgeable f d)
    unfolding judged
    judged_is = ap (judged_in f e d) (same_prior e d (kind_is kind.Power) (kind_is kind.Write) (spin f d)) ∙ rw bits_same

    pub failed_is : failed f e d ≡ ((measures f e && judgeable f d) && ltb (stored_at (tach_limit_at f) d) (byte_given e))
    failed_is = failed_in_lem ∙ rw (bits_same, limit_same e d (kind_is kind.Power) (kind_is kind.Write) f)

    pub run_is : failures f (e ∷ d) ≡ cond (tach_on f d) (cond (failed f e d) (suc (failures f d)) (cond (judged f e d) 0 (failures f d))) 0
    unfolding failures
    run_is = rw (bits_same, kind_is kind.Power, kind_is kind.Write)

    pub run_kept : failed f e d ≡ false → judged f e d ≡ false → failures f (e ∷ d) ≡ failures f d
    run_kept fine calm = run_is ∙ rw (fine, calm) (by_cases (tach_on f d) (λ y. rw y) (λ n. rw n (sym (untracked f d n))))

    pub fault_is : fault_bit f (e ∷ d) ≡ cond (failed f e d) true (fault_bit f d)
    unfolding fault_bit
    fault_is = rw (kind_is kind.Power, kind_is kind.Write, kind_is kind.Read)

    -- a failure begins the spin-up anew
    module _ (bad : failed f e d ≡ true) (was : 0 < (spin f d).duty) where
      wanted_now : wanted f (e ∷ d) ≡ true
      wanted_now = wanted_same f e d as_before ∙ is_wanted f d was

      pub left_anew : left (spin f (e ∷ d)) ≡ spin_up_clocks f d
      left_anew =
          failure_left f e d (no_restart e d (kind_is kind.Power) (kind_is kind.Write)) wanted_now (sym failed_in_lem ∙ bad)
          ∙ rw (spin_up_same e d (kind_is kind.Power) (kind_is kind.Write) f)

      pub full_again : (spin f (e ∷ d)).duty ≡ 240
      full_again =
          let on = (both (enabled f (e ∷ d)) _ wanted_now).0 in
          by_cases (overridden (e ∷ d))
          (λ o. (sound f (e ∷ d)).at_full on o)
          (λ o. (sound f (e ∷ d)).spinning on o (aimed f (e ∷ d) wanted_now o) (omega (arith, left_anew, two_clocks (stored_at (characteristics_at f) d))))

    -- any other count leaves the duty and the spin-up
    pub duty_kept : failed f e d ≡ false → (spin f (e ∷ d)).duty ≡ (spin f d).duty
    duty_kept fine = duty_same f e d as_before (kind_is kind.Clock) (sym failed_in_lem ∙ fine) (rw (kind_is kind.Period))

    pub left_kept : failed f e d ≡ false → left (spin f (e ∷ d)) ≡ left (spin f d)
    left_kept fine = turn.left_kept f e d as_before (kind_is kind.Clock) (sym failed_in_lem ∙ fine) (rw (kind_is kind.Period))
