-- The page, "Temperatures, latches and cards": rules 1 to 9, of registers, outputs and events with their numbers.
use Rattle.std.specs.Prelude.{ℕ, ◌+◌, ◌*◌, ◌/◌, ◌%◌, ◌<◌, ◌≡◌, Bool, true, false, not, ◌&&◌, ◌||◌, ◌∷◌, eqb, ℤ, pos, ◌+ℤ◌, ◌-ℤ◌, ◌*ℤ◌}
use Rattle.std.specs.Int.Signed.{lt_z}
use Rattle.integer.specs.Bits.{bit_of}
use Rattle.part.specs.declared.ChannelId.{ChannelId}
use Rattle.part.specs.declared.ChannelId.TheVariants.{Local, Remote1, Remote2}
use Rattle.part.specs.declared.FanId.{FanId}
use Rattle.event.specs.Kinds.{is_kind}
use Rattle.event.specs.declared.Event.{Event}
use Rattle.event.specs.declared.Kind.TheVariants as kind
use Rattle.rules.specs.Stored.{own_address, pointer, pin_low}
use Rattle.rules.specs.Replies.{History, taken}
use Rattle.rules.specs.Temperatures.{degrees, latch}
use Rattle.rules.specs.Targets.{flag}
use Rattle.rules.specs.Duties.{left, spin, failures}
use Rattle.rules.specs.PageWords.{power, write, read, sampled, pulled_low, let_go, Accepted, register, bit, out, data_out, by_channel, by_fan, high_degrees}
use Rattle.rules.specs.PageWords.{low_degrees, therm_degrees, channel_bit, high_status, low_status, therm_status, reading_figure}

-- the remainder of a channel in 0x06: remote 1 in bits 2:0, remote 2 in 5:3, local in quarters in 7:6
abbrev pub eighths_in : ChannelId → History → ℕ
eighths_in c h = by_channel (2 * (register 0x06 h / 64)) (register 0x06 h % 8) (register 0x06 h / 8 % 8) c

abbrev pub degrees_in : ChannelId → History → ℤ
degrees_in c h = degrees (register (by_channel 0x0A 0x0B 0x0C c) h)

-- the latch of a channel, and the pin level, after a list
abbrev pub latched : ChannelId → History → Bool
latched c h = latch c (taken h)

abbrev pub pulled : History → Bool
pulled h = pin_low (taken h)

-- a write of 0x01 with bit 7 set
abbrev pub reset : (who : ℤ) (byte : ℕ) → Event
reset who byte = write who (pos 0x01) (pos byte)

-- the page's t is the reading of a sample of t (T-01)
pub record PageTemperatures (h : History) : Type 0 where
  -- 1: "stored as its whole part rounded down, in two's complement, with the remainder 0 to 7 in register 0x06"
  pub reading :
      (c : ChannelId) (t : ℤ) → Accepted (sampled c t) h →
      reading_figure c t h ≡ (pos 8 *ℤ degrees_in c (sampled c t ∷ h)) +ℤ pos (eighths_in c (sampled c t ∷ h))
  pub eighths : (c : ChannelId) → eighths_in c h < 8
  -- 1: "Reading one byte holds back no other"
  pub held :
      (w : ℤ) (a : ℕ) → Accepted (read w (pos 0) (pos 0)) h → (eqb a 0x02 || eqb a 0x03) ≡ false →
      register a (read w (pos 0) (pos 0) ∷ h) ≡ register a h
  -- 2: "A sample turns it on if t > 8L, off if t < 8(L - 5), else keeps it."
  pub latch_on :
      (c : ChannelId) (t : ℤ) → Accepted (sampled c t) h → lt_z (pos 8 *ℤ therm_degrees c h) (reading_figure c t h) ≡ true →
      latched c (sampled c t ∷ h) ≡ true
  pub latch_off :
      (c : ChannelId) (t : ℤ) → Accepted (sampled c t) h → lt_z (pos 8 *ℤ therm_degrees c h) (reading_figure c t h) ≡ false →
      lt_z (reading_figure c t h) (pos 8 *ℤ (therm_degrees c h -ℤ pos 5)) ≡ true → latched c (sampled c t ∷ h) ≡ false
  pub latch_kept :
      (c : ChannelId) (t : ℤ) → Accepted (sampled c t) h → lt_z (pos 8 *ℤ therm_degrees c h) (reading_figure c t h) ≡ false →
      lt_z (reading_figure c t h) (pos 8 *ℤ (therm_degrees c h -ℤ pos 5)) ≡ false → latched c (sampled c t ∷ h) ≡ latched c h
  -- a latch is moved by nothing but a sample of its channel, power and reset
  pub latch_stays :
      (c : ChannelId) (e : Event) → Accepted e h → is_kind kind.Sample e ≡ false → is_kind kind.Power e ≡ false → is_kind kind.Write e ≡ false →
      latched c (e ∷ h) ≡ latched c h
  pub latch_by_another :
      (c other : ChannelId) (t : ℤ) → (c ≡ other → ⊥) → Accepted (sampled other t) h → latched c (sampled other t ∷ h) ≡ latched c h
  pub latch_by_write :
      (c : ChannelId) (w : ℤ) (a b : ℕ) → Accepted (write w (pos a) (pos b)) h → (eqb a 0x01 && bit_of b 7) ≡ false →
      latched c (write w (pos a) (pos b) ∷ h) ≡ latched c h
  -- 2: "THERM is asserted while a latch is on. Nothing masks it."
  pub therm : (c : ChannelId) → latched c h ≡ true → (out h).therm ≡ 1
  pub cool : latched Local h ≡ false → latched Remote1 h ≡ false → latched Remote2 h ≡ false → (out h).therm ≡ 0
  -- the incident: a read of any register leaves THERM as it was
  pub therm_read : (w : ℤ) → Accepted (read w (pos 0) (pos 0)) h → (out (read w (pos 0) (pos 0) ∷ h)).therm ≡ (out h).therm
  -- 3: "With the channel enabled in 0x01, a sample sets the high bit if t > 8 high and the low bit if t < 8 low."
  pub high :
      (c : ChannelId) (t : ℤ) → Accepted (sampled c t) h → channel_bit c h ≡ true →
      high_status c (sampled c t ∷ h) ≡ (lt_z (pos 8 *ℤ high_degrees c h) (reading_figure c t h) || high_status c h)
  pub low :
      (c : ChannelId) (t : ℤ) → Accepted (sampled c t) h → channel_bit c h ≡ true →
      low_status c (sampled c t ∷ h) ≡ (lt_z (reading_figure c t h) (pos 8 *ℤ low_degrees c h) || low_status c h)
  -- 3: "A latch going from off to on sets the channel's THERM bit if the channel is enabled."
  pub therm_bit :
      (c : ChannelId) (t : ℤ) → Accepted (sampled c t) h → channel_bit c h ≡ true →
      therm_status c (sampled c t ∷ h) ≡ ((not (latched c h) && latched c (sampled c t ∷ h)) || therm_status c h)
  -- 3, 7: a disabled channel has none of them
  pub disabled :
      (c : ChannelId) → channel_bit c h ≡ false → (high_status c h ≡ false) × (low_status c h ≡ false) × (therm_status c h ≡ false)
  -- no other event moves them: none but samples, reads, writes and power, and no sample of another channel
  pub status_stays :
      (c : ChannelId) (e : Event) → Accepted e h → is_kind kind.Sample e ≡ false → is_kind kind.Read e ≡ false → is_kind kind.Power e ≡ false →
      is_kind kind.Write e ≡ false →
      (high_status c (e ∷ h) ≡ high_status c h) × (low_status c (e ∷ h) ≡ low_status c h) × (therm_status c (e ∷ h) ≡ therm_status c h)
  pub status_by_another :
      (c other : ChannelId) (t : ℤ) → (c ≡ other → ⊥) → Accepted (sampled other t) h →
      (high_status c (sampled other t ∷ h) ≡ high_status c h) × (low_status c (sampled other t ∷ h) ≡ low_status c h)
      × (therm_status c (sampled other t ∷ h) ≡ therm_status c h)
  -- 5: "A read of 0x02 or 0x03 returns the byte and then clears all of it but bit 5"; the other register stays
  pub returns :
      (w : ℤ) (f : FanId) → Accepted (read w (pos 0) (pos 0)) h → pointer (taken h) ≡ by_fan 0x02 0x03 f →
      data_out (read w (pos 0) (pos 0)) h ≡ register (by_fan 0x02 0x03 f) h
  pub clears :
      (w : ℤ) (f : FanId) → Accepted (read w (pos 0) (pos 0)) h → pointer (taken h) ≡ by_fan 0x02 0x03 f →
      register (by_fan 0x02 0x03 f) (read w (pos 0) (pos 0) ∷ h) ≡ 32 * (register (by_fan 0x02 0x03 f) h / 32 % 2)
  pub keeps :
      (w : ℤ) (f : FanId) → Accepted (read w (pos 0) (pos 0)) h → eqb (pointer (taken h)) (by_fan 0x02 0x03 f) ≡ false →
      register (by_fan 0x02 0x03 f) (read w (pos 0) (pos 0) ∷ h) ≡ register (by_fan 0x02 0x03 f) h
  -- 5: "Bit 5 comes from power and stays"; T-05: or from a report on the diode, and no other event moves it, a read or a reset neither
  pub errors :
      (w : ℤ) (a b : ℕ) → Accepted (power w (pos a) (pos b)) h →
      (bit 0x02 5 (power w (pos a) (pos b) ∷ h) ≡ eqb a 1) × (bit 0x03 5 (power w (pos a) (pos b) ∷ h) ≡ eqb b 1)
  pub errors_stay :
      (e : Event) → Accepted e h → is_kind kind.Power e ≡ false → is_kind kind.Diode e ≡ false →
      (bit 0x02 5 (e ∷ h) ≡ bit 0x02 5 h) × (bit 0x03 5 (e ∷ h) ≡ bit 0x03 5 h)
  -- the pin level: pulled low, let go, high after power; no other event moves it
  pub level : (Accepted pulled_low h → pulled (pulled_low ∷ h) ≡ true) × (Accepted let_go h → pulled (let_go ∷ h) ≡ false)
  pub level_stays : (e : Event) → Accepted e h → is_kind kind.Pin e ≡ false → is_kind kind.Power e ≡ false → pulled (e ∷ h) ≡ pulled h
  -- 6: "Bit 7 of 0x03 is set when the pin goes from high to low. A second low sets nothing."
  pub pulled_first : Accepted pulled_low h → pulled h ≡ false → bit 0x03 7 (pulled_low ∷ h) ≡ true
  pub pulled_again : Accepted pulled_low h → pulled h ≡ true → bit 0x03 7 (pulled_low ∷ h) ≡ bit 0x03 7 h
  pub released : Accepted let_go h → bit 0x03 7 (let_go ∷ h) ≡ bit 0x03 7 h
  pub pulled_stays :
      (e : Event) → Accepted e h → is_kind kind.Pin e ≡ false → is_kind kind.Read e ≡ false → is_kind kind.Power e ≡ false → is_kind kind.Write e ≡ false →
      bit 0x03 7 (e ∷ h) ≡ bit 0x03 7 h
  -- 9: software reset keeps address, pin level and diode errors; the pointer is 1
  pub reset_keeps :
      (w : ℤ) (b : ℕ) → Accepted (reset w b) h → bit_of b 7 ≡ true →
      (own_address (taken (reset w b ∷ h)) ≡ own_address (taken h)) × (pulled (reset w b ∷ h) ≡ pulled h) × (pointer (taken (reset w b ∷ h)) ≡ 1)
  -- 9: else it gives the state after power: where the pin is high, all that power shows with the same address and errors
  pub reset_as_power :
      (w : ℤ) (b x y : ℕ) → Accepted (reset w b) h → bit_of b 7 ≡ true → pulled h ≡ false →
      bit 0x02 5 h ≡ eqb x 1 → bit 0x03 5 h ≡ eqb y 1 → (own : ℕ) → Accepted (power (pos own) (pos x) (pos y)) h →
      (out (reset w b ∷ h) ≡ out (power (pos own) (pos x) (pos y) ∷ h))
      × ((a : ℕ) → register a (reset w b ∷ h) ≡ register a (power (pos own) (pos x) (pos y) ∷ h))
  pub reset_stops :
      (w : ℤ) (b : ℕ) (c : ChannelId) (f : FanId) → Accepted (reset w b) h → bit_of b 7 ≡ true →
      (latched c (reset w b ∷ h) ≡ false) × (flag c (taken (reset w b ∷ h)) ≡ false) × (failures f (taken (reset w b ∷ h)) ≡ 0)
  -- 9: "a pin still low starts spin-ups and sets alarm bits, but not bit 7 of 0x03": a status byte is its alarm bit and the diode error
  pub reset_low :
      (w : ℤ) (b : ℕ) (f : FanId) → Accepted (reset w b) h → bit_of b 7 ≡ true → pulled h ≡ true →
      (register (by_fan 0x02 0x03 f) (reset w b ∷ h) ≡ 1 + 32 * (register (by_fan 0x02 0x03 f) h / 32 % 2)) × (left (spin f (taken (reset w b ∷ h))) ≡ 20)
