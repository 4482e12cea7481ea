-- What an event that is no power and no write leaves as it was: flags, readings, registers, status bytes. Assumes nothing.
use Prim.Native.Nat.{ℕ}
use mathlib.Core.Path.{◌≡◌, refl, sym, ◌∙◌}
use mathlib.Core.Bool.{Bool, true, false, cond, not, ◌&&◌, ◌||◌, and-true, and-not_self, or-true, or-false}
use mathlib.Core.List.{◌∷◌}
use lib.Dec.{eqb}
use Rattle.integer.proofs.BoolLaws.{by_cases, neither}
use Rattle.part.specs.declared.ChannelId.{ChannelId}
use Rattle.part.specs.declared.ChannelId.TheVariants.{Local, Remote1, Remote2}
use Rattle.part.specs.declared.FanId.{FanId}
use Rattle.part.specs.declared.FanId.TheVariants.{One, Two}
use Rattle.event.specs.Kinds.{is_kind}
use Rattle.event.specs.declared.Event.{Event}
use Rattle.event.specs.declared.Kind.TheVariants as kind
use Rattle.rules.specs.Registers.{config1, config2, extended, value_at, exists_at}
use Rattle.rules.specs.Events.{samples, restarts}
use Rattle.rules.specs.Stored.{Taken, counts, stored_at, diode_error, pulled_bit}
use Rattle.rules.specs.Temperatures.{temperature, whole_byte, channel_on, high_bit, low_bit, therm_bit}
use Rattle.rules.specs.Targets.{flag}
use Rattle.rules.specs.Duties.{duty, failed, failures, fault_bit, at_alarm, alarm_bit}
use Rattle.rules.specs.PageWords.{by_fan}
use Rattle.rules.specs.Shows.{remainders_byte, status, byte_at, value, pending, int_due, raises, silenced, int_asserted, fault_asserted, shown}
use Rattle.rules.proofs.CalmLaws.{byte_same, ErrorsKept, Untouched, untouched, override_same, therm_same}
use Rattle.rules.proofs.RiseLaws.{none_risen}
use Rattle.rules.proofs.StayLaws.{on_kept, high_kept, low_kept, therm_kept, pulled_kept}

-- what is alike where a test holds, and where it does not
pub alike : (t : Bool) {x y z u : ℕ} → (t ≡ true → x ≡ y) → z ≡ u → cond t x z ≡ cond t y u
alike true p q = p refl
alike false p q = q

-- ---- registers

module _ (e : Event) (d : Taken) (no_power : is_kind kind.Power e ≡ false) (no_write : is_kind kind.Write e ≡ false) where
  -- a channel that it does not sample
  pub flag_kept_lem : (c : ChannelId) → samples c e ≡ false → flag c (e ∷ d) ≡ flag c d
  unfolding flag
  flag_kept_lem c other = rw (no_power, no_write, other)

  pub reading_kept : (c : ChannelId) → samples c e ≡ false → temperature c (e ∷ d) ≡ temperature c d
  unfolding temperature
  reading_kept c other = rw (no_power, no_write, other)

  -- every register but the status bytes, the speed that it counts and the readings that it samples
  pub register_kept :
      (a : ℕ) → (eqb a 0x02 || eqb a 0x03) ≡ false → counts a e ≡ false →
      ((c : ChannelId) → (samples c e && (eqb a extended || eqb a (value_at c))) ≡ false) → value a (e ∷ d) ≡ value a d
  unfolding value byte_at
  register_kept a q uncounted unsampled =
      rw ((neither (eqb a 0x02) (eqb a 0x03) q).0, (neither (eqb a 0x02) (eqb a 0x03) q).1)
      (alike (exists_at a) (λ y. alike (eqb a extended) rests (whole Local (whole Remote1 (whole Remote2 (byte_same e d no_power no_write a uncounted))))) refl)
    where
      other : (c : ChannelId) → eqb a extended ≡ true → samples c e ≡ false
      other c y = sym (and-true (samples c e)) ∙ rw y at (unsampled c)

      rests :
          eqb a extended ≡ true →
          remainders_byte (temperature Local (e ∷ d)) (temperature Remote1 (e ∷ d)) (temperature Remote2 (e ∷ d))
          ≡ remainders_byte (temperature Local d) (temperature Remote1 d) (temperature Remote2 d)
      rests y = rw (reading_kept Local (other Local y), reading_kept Remote1 (other Remote1 y), reading_kept Remote2 (other Remote2 y))

      whole :
          (c : ChannelId) {x y : ℕ} → x ≡ y →
          cond (eqb a (value_at c)) (whole_byte (temperature c (e ∷ d))) x ≡ cond (eqb a (value_at c)) (whole_byte (temperature c d)) y
      whole c p = alike (eqb a (value_at c)) (λ y. rw (reading_kept c (sym (and-true (samples c e)) ∙ simp (y, or-true) at (unsampled c)))) p

-- ---- alarm bits

set_or : (t was : Bool) → cond t true was ≡ (was || t)
set_or true was = sym (or-true was)
set_or false was = sym (or-false was)

-- set by entering alarm speed; a restart and a read clear them
pub alarm_step :
    (f : FanId) (e : Event) (d : Taken) → restarts e ≡ false → is_kind kind.Read e ≡ false →
    alarm_bit f (e ∷ d) ≡ (alarm_bit f d || (at_alarm f (e ∷ d) && not (at_alarm f d)))
unfolding alarm_bit
alarm_step f e d no-restart no_read = rw (no-restart, no_read) (set_or (at_alarm f (e ∷ d) && not (at_alarm f d)) (alarm_bit f d))

-- ---- status bytes

-- nothing that a fan goes by is touched, and nothing is read: no alarm bit moves
pub alarm_kept : (e : Event) (d : Taken) → Untouched e d → is_kind kind.Read e ≡ false → (f : FanId) → alarm_bit f (e ∷ d) ≡ alarm_bit f d
unfolding at_alarm
alarm_kept e d u no_read f = alarm_step f e d u.calm no_read ∙ rw (at_same, and-not_self (at_alarm f d), or-false (alarm_bit f d))
  where
    at_same : at_alarm f (e ∷ d) ≡ at_alarm f d
    at_same = rw (u.byte config2 refl, override_same e d u)

-- an event that leaves every status bit but those of diode errors, and the enable bits of the channels
pub record BitsKept (e : Event) (d : Taken) : Type 0 where
  pub on : (c : ChannelId) → channel_on c (e ∷ d) ≡ channel_on c d
  pub high : (c : ChannelId) → high_bit c (e ∷ d) ≡ high_bit c d
  pub low : (c : ChannelId) → low_bit c (e ∷ d) ≡ low_bit c d
  pub therm : (c : ChannelId) → therm_bit c (e ∷ d) ≡ therm_bit c d
  pub pulled : pulled_bit (e ∷ d) ≡ pulled_bit d
  pub alarm : (f : FanId) → alarm_bit f (e ∷ d) ≡ alarm_bit f d
  pub fault : (f : FanId) → fault_bit f (e ∷ d) ≡ fault_bit f d

-- one that is no power, write, read, sample, pin or failed measurement
pub bits_kept :
    (e : Event) (d : Taken) → is_kind kind.Power e ≡ false → is_kind kind.Write e ≡ false → is_kind kind.Read e ≡ false → is_kind kind.Sample e ≡ false →
    is_kind kind.Pin e ≡ false → ((f : FanId) → failed f e d ≡ false) → BitsKept e d
bits_kept e d no_power no_write no_read no-sample no_pin fine =
    record {
      on = on_kept e d no_power no_write no_read;
      high = λ c. high_kept e d no_power no_write no_read c (rw no-sample);
      low = λ c. low_kept e d no_power no_write no_read c (rw no-sample);
      therm = λ c. therm_kept e d no_power no_write no_read c (rw no-sample);
      pulled = pulled_kept e d no_power no_write no_read no_pin;
      alarm = alarm_kept e d (untouched e d no_power no_write no-sample no_pin) no_read;
      fault = λ f. (unfold fault_bit in rw (fine f, no_power, no_write, no_read));
    }

module _ (e : Event) (d : Taken) (k : BitsKept e d) where
  pub status_kept : (f : FanId) → diode_error (by_fan Remote1 Remote2 f) (e ∷ d) ≡ diode_error (by_fan Remote1 Remote2 f) d → status f (e ∷ d) ≡ status f d
  unfolding status
  status_kept One x =
      rw (k.alarm One, k.fault One, k.high Remote1, k.low Remote1, k.therm Remote1, x, k.high Local, k.low Local)
  status_kept Two x =
      rw (k.alarm Two, k.fault Two, k.high Remote2, k.low Remote2, k.therm Remote2, x, k.therm Local, k.pulled)

module _ (e : Event) (d : Taken) (k : BitsKept e d) (x : ErrorsKept e d) where
  status_same : (f : FanId) → status f (e ∷ d) ≡ status f d
  status_same f = status_kept e d k f (x (by_fan Remote1 Remote2 f))

  -- what is pending for INT
  pending_kept : (f : FanId) → pending f (e ∷ d) ≡ pending f d
  unfolding pending
  pending_kept One =
      rw (k.alarm One, k.fault One, k.high Remote1, k.low Remote1, k.therm Remote1, x Remote1, k.on Remote1, k.high Local, k.low Local)
  pending_kept Two =
      rw (k.alarm Two, k.fault Two, k.high Remote2, k.low Remote2, k.therm Remote2, x Remote2, k.on Remote2, k.therm Local, k.pulled)

  pub raises_none : raises e d ≡ false
  raises_none = rw (status_same One, status_same Two, none_risen (status One d) _ (λ k l z. z), none_risen (status Two d) _ (λ k l z. z))

  module _ (u : Untouched e d) where
    pub due_kept : int_due (e ∷ d) ≡ int_due d
    unfolding int_due
    due_kept = rw (u.byte config1 refl, pending_kept One, pending_kept Two)

    pub silence_kept : is_kind kind.Alert e ≡ false → silenced (e ∷ d) ≡ silenced d
    unfolding silenced
    silence_kept no-alert = rw (u.calm, raises_none, no-alert) (by_cases (silenced d) (λ s. rw s) (λ s. rw s))

    -- every register whose byte stays
    pub value_kept : (a : ℕ) → stored_at a (e ∷ d) ≡ stored_at a d → value a (e ∷ d) ≡ value a d
    unfolding value byte_at
    value_kept a q = rw (status_same One, status_same Two, u.reading Local, u.reading Remote1, u.reading Remote2, q)

    -- and every output, where duties and runs stay
    pub shown_kept :
        is_kind kind.Alert e ≡ false → ((f : FanId) → failures f (e ∷ d) ≡ failures f d) → ((f : FanId) → duty f (e ∷ d) ≡ duty f d) → shown (e ∷ d) ≡ shown d
    unfolding shown int_asserted fault_asserted
    shown_kept no-alert runs duties =
        rw (
          u.byte config1 refl,
          due_kept,
          silence_kept no-alert,
          therm_same e d u,
          runs One,
          runs Two,
          duties One,
          duties Two,
        )
