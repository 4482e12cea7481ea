-- What an event that is no power and no write leaves as it was, and what one that touches nothing of it leaves to a fan. Assumes nothing.
use Prim.Native.Nat.{ℕ}
use mathlib.Core.Path.{◌≡◌, refl}
use mathlib.Core.Bool.{Bool, true, false, not, ◌||◌}
use mathlib.Core.List.{◌∷◌}
use lib.Dec.{eqb}
use borrow.Author.Tests.{not-true}
use Rattle.integer.proofs.BoolLaws.{neither}
use Rattle.part.specs.declared.ChannelId.{ChannelId}
use Rattle.part.specs.declared.ChannelId.TheVariants.{Local, Remote1, Remote2}
use Rattle.part.specs.declared.FanId.{FanId}
use Rattle.part.specs.declared.FanId.TheVariants.{One, Two}
use Rattle.event.specs.Kinds.{is_kind}
use Rattle.event.specs.declared.Event.{Event}
use Rattle.event.specs.declared.Kind.TheVariants as kind
use Rattle.rules.specs.Registers.{config1, speeds, behaviour, control_at, tach_limit_at, characteristics_at}
use Rattle.rules.specs.Events.{restarts}
use Rattle.rules.specs.Stored.{Taken, counts, stored_at, pin_low, diode_error}
use Rattle.rules.specs.Temperatures.{temperature, latch, therm_asserted}
use Rattle.rules.specs.Targets.{flag, demand, target, overridden}
use Rattle.rules.specs.Duties.{Spin, prior}

module _ (e : Event) (d : Taken) (no_power : is_kind kind.Power e ≡ false) (no_write : is_kind kind.Write e ≡ false) where
  pub no_restart : restarts e ≡ false
  no_restart = simp (no_power, no_write)

  pub same_prior : (w : Spin) → prior e w ≡ w
  same_prior w = simp (no_power, no_write)

  -- every byte but a speed that is measured
  pub byte_same : (a : ℕ) → counts a e ≡ false → stored_at a (e ∷ d) ≡ stored_at a d
  unfolding stored_at
  byte_same a q = simp (no_power, no_write, q)

  pub limit_same : (f : FanId) → stored_at (tach_limit_at f) (e ∷ d) ≡ stored_at (tach_limit_at f) d
  limit_same One = byte_same 0x10 refl
  limit_same Two = byte_same 0x11 refl

  pub spin_up_same : (f : FanId) → stored_at (characteristics_at f) (e ∷ d) ≡ stored_at (characteristics_at f) d
  spin_up_same One = byte_same 0x20 refl
  spin_up_same Two = byte_same 0x21 refl

  -- no sample: run flags, latches and readings stay too
  module _ (no-sample : is_kind kind.Sample e ≡ false) where
    pub flag_same : (c : ChannelId) → flag c (e ∷ d) ≡ flag c d
    unfolding flag
    flag_same c = simp (no_power, no_write, no-sample)

    latch_same : (c : ChannelId) → latch c (e ∷ d) ≡ latch c d
    unfolding latch
    latch_same c = simp (no_power, no_write, no-sample)

    temperature_same : (c : ChannelId) → temperature c (e ∷ d) ≡ temperature c d
    unfolding temperature
    temperature_same c = simp (no_power, no_write, no-sample)

-- neither power nor a report on a diode: the errors stay
abbrev pub ErrorsKept : Event → Taken → Type 0
ErrorsKept e d = (c : ChannelId) → diode_error c (e ∷ d) ≡ diode_error c d

pub error_same : (e : Event) (d : Taken) → is_kind kind.Power e ≡ false → is_kind kind.Diode e ≡ false → ErrorsKept e d
unfolding diode_error
error_same e d no_power no-diode c = rw (no_power, no-diode)

-- ---- an event that is nothing to a fan but by its kind and by a diode error: its settings, readings, latches, run flags and the pin stay

-- a register that a fan goes by: no count and no offset
abbrev pub is_setting : ℕ → Bool
is_setting a = not ((eqb a 0x08 || eqb a 0x09) || (eqb a 0x0D || (eqb a 0x0E || eqb a 0x0F)))

pub record Untouched (e : Event) (d : Taken) : Type 0 where
  pub calm : restarts e ≡ false
  pub byte : (a : ℕ) → is_setting a ≡ true → stored_at a (e ∷ d) ≡ stored_at a d
  pub reading : (c : ChannelId) → temperature c (e ∷ d) ≡ temperature c d
  pub latch : (c : ChannelId) → latch c (e ∷ d) ≡ latch c d
  pub flag : (c : ChannelId) → flag c (e ∷ d) ≡ flag c d
  pub pin : pin_low (e ∷ d) ≡ pin_low d

-- one that is no power, write, sample or pin
pub untouched :
    (e : Event) (d : Taken) → is_kind kind.Power e ≡ false → is_kind kind.Write e ≡ false → is_kind kind.Sample e ≡ false → is_kind kind.Pin e ≡ false →
    Untouched e d
untouched e d no_power no_write no-sample no_pin =
    record {
      calm = no_restart e d no_power no_write;
      byte = λ a y.
          let speed = (neither (eqb a 0x08 || eqb a 0x09) _ (not-true _ y)).0 in
          byte_same e d no_power no_write a (rw ((neither (eqb a 0x08) (eqb a 0x09) speed).0, (neither (eqb a 0x08) (eqb a 0x09) speed).1));
      reading = temperature_same e d no_power no_write no-sample;
      latch = latch_same e d no_power no_write no-sample;
      flag = flag_same e d no_power no_write no-sample;
      pin = (unfold pin_low in rw (no_power, no_pin));
    }

module _ (e : Event) (d : Taken) (u : Untouched e d) where
  control_same : (c : ChannelId) → stored_at (control_at c) (e ∷ d) ≡ stored_at (control_at c) d
  control_same Local = u.byte 0x24 refl
  control_same Remote1 = u.byte 0x25 refl
  control_same Remote2 = u.byte 0x26 refl

  pub demand_same : (f : FanId) (c : ChannelId) → diode_error c (e ∷ d) ≡ diode_error c d → demand f c (e ∷ d) ≡ demand f c d
  unfolding demand
  demand_same f c x = rw (x, u.flag c, u.reading c, control_same c, u.byte speeds refl)

  pub target_same : ErrorsKept e d → (f : FanId) → target f (e ∷ d) ≡ target f d
  unfolding target
  target_same x f =
      rw (demand_same f Local (x Local), demand_same f Remote1 (x Remote1), demand_same f Remote2 (x Remote2), u.byte config1 refl, u.byte speeds refl)

  pub therm_same : therm_asserted (e ∷ d) ≡ therm_asserted d
  unfolding therm_asserted
  therm_same = rw (u.latch Local, u.latch Remote1, u.latch Remote2)

  pub override_same : overridden (e ∷ d) ≡ overridden d
  unfolding overridden
  override_same = rw (u.pin, therm_same, u.byte behaviour refl)
