-- An event of none of document 01's kinds, after which the diode errors are as before, leaves the chip and the stamps that
-- the rules describe.
-- No event of another kind disturbs a stretch. Assumes nothing.
use Prim.Native.Nat.{ℕ}
use mathlib.Core.Path.{◌≡◌, refl}
use mathlib.Core.Bool.{false, ◌&&◌, and-false}
use mathlib.Core.List.{◌∷◌}
use lib.Dec.{eqb, ltb}
use borrow.Author.Tests.{eqb-true}
use Rattle.integer.proofs.BoolLaws.{by_cases}
use Rattle.part.specs.declared.ChannelId.{ChannelId}
use Rattle.part.specs.declared.ChannelId.TheVariants.{Local, Remote1, Remote2}
use Rattle.part.specs.declared.FanId.{FanId}
use Rattle.part.specs.declared.FanId.TheVariants.{One, Two}
use Rattle.event.specs.declared.Event.{Event}
use Rattle.event.specs.declared.Kind.TheVariants as kind
use Rattle.rules.specs.Registers.{config2}
use Rattle.rules.specs.Stored.{Taken, own_address, pointer}
use Rattle.rules.specs.Replies.{History, taken, accepted}
use Rattle.rules.specs.Duties.{duty, at_alarm}
use Rattle.rules.specs.Stamps.{clocks, stamp, sets_stamp, fan_stamp}
use Rattle.rules.proofs.CalmLaws.{ErrorsKept, Untouched, override_same}
use Rattle.rules.proofs.KeptLaws.{BitsKept}
use Rattle.rules.proofs.IdleLaws as idle
use Rattle.rules.proofs.IdleLaws.{Another}
use Rattle.history.specs.Demand3.{disturbs}
use Rattle.history.proofs.State.{port_by, channel_registers_by, fan_registers_by, registers_by, channel_by, channels_by, fan_by, chip_by, stamps_by}

-- a duty that stays does not go from 0 to more
no_start : (n : ℕ) → (eqb n 0 && ltb 0 n) ≡ false
no_start n = by_cases (eqb n 0) (λ z. rw (eqb-true n 0 z)) (λ z. rw z)

module _ (e : Event) (d : Taken) (is-not : Another e) (errors : ErrorsKept e d) where
  abbrev u : Untouched e d
  u = idle.settled e d is-not

  abbrev k : BitsKept e d
  k = idle.bits e d is-not

  port_same : port_by (e ∷ d) ≡ port_by d
  unfolding port_by own_address pointer
  port_same =
      rw (is-not kind.Power refl, is-not kind.Write refl, is-not kind.Point refl, u.pin, k.pulled)

  registers_same : registers_by (e ∷ d) ≡ registers_by d
  unfolding registers_by channel_registers_by fan_registers_by
  registers_same = simp (idle.byte_kept e d is-not)

  channel_same : (c : ChannelId) → channel_by c (e ∷ d) ≡ channel_by c d
  unfolding channel_by
  channel_same c = rw (u.reading c, u.latch c, u.flag c, k.high c, k.low c, k.therm c, errors c)

  alarm_same : (f : FanId) → at_alarm f (e ∷ d) ≡ at_alarm f d
  unfolding at_alarm
  alarm_same f = rw (u.byte config2 refl, override_same e d u)

  fan_same : (f : FanId) → fan_by f (e ∷ d) ≡ fan_by f d
  unfolding fan_by
  fan_same f =
      rw (idle.duty_same e d is-not errors f, idle.left_same e d is-not errors f, idle.run_same e d is-not f, alarm_same f, k.alarm f, k.fault f)

  pub chip_same : chip_by (e ∷ d) ≡ chip_by d
  unfolding chip_by channels_by
  chip_same =
      rw (port_same, registers_same, channel_same Local, channel_same Remote1, channel_same Remote2, fan_same One, fan_same Two)

  -- and the stamps: it is no clock, and no fan starts
  set_same : (f : FanId) → fan_stamp f (e ∷ d) ≡ fan_stamp f d
  unfolding fan_stamp sets_stamp duty
  set_same f = rw (u.calm, idle.duty_same e d is-not errors f, no_start (duty f d))

  pub stamps_same : stamps_by (e ∷ d) ≡ stamps_by d
  unfolding stamps_by stamp clocks
  stamps_same = rw (set_same One, set_same Two, is-not kind.Power refl, is-not kind.Clock refl)

-- ---- stretches

pub calm : (e : Event) (h : History) → Another e → (f : FanId) → disturbs f e h ≡ false
unfolding disturbs
calm e h is-not f = rw (is-not kind.Write refl, is-not kind.Power refl, idle.fine e (taken h) is-not f, and-false (accepted e h))
