-- The page, what an event leaves as it was: registers, status bits, flags, spin-ups and runs that it is nothing to.
use Rattle.std.specs.Prelude.{ℕ, ◌<◌, ◌≤◌, ◌≡◌, Bool, true, false, not, ◌&&◌, ◌||◌, [], ◌∷◌, eqb, ℤ, pos, get_or}
use Rattle.integer.specs.Bits.{bit_of}
use Rattle.part.specs.declared.ChannelId.{ChannelId}
use Rattle.part.specs.declared.FanId.{FanId}
use Rattle.event.specs.Kinds.{is_kind}
use Rattle.event.specs.declared.Event.{Event}
use Rattle.event.specs.declared.Kind.TheVariants as kind
use Rattle.rules.specs.Stored.{own_address}
use Rattle.rules.specs.Replies.{History, taken, accepted}
use Rattle.rules.specs.PageWords.{power, write, pin, sampled, counted, Accepted, register, bit, reply_number, duty_out, by_channel, by_fan, channel_bit}
use Rattle.rules.specs.PageWords.{high_status, low_status, therm_status, alarm_status, fault_status, output_bit, tach_bit, reading_figure}
use Rattle.rules.specs.PageReplies.{one_of, registers, power_on, power_image}
use Rattle.rules.specs.PageTemperatures.{eighths_in, reset}
use Rattle.rules.specs.PageDuties.{running, eighths_read, clocks_left, forced, failure_run, judged_after}

-- a write that is no software reset
abbrev pub ordinary : (a b : ℕ) → Type 0
ordinary a b = (eqb a 0x01 && bit_of b 7) ≡ false

-- 7: a fan at alarm speed
abbrev pub alarmed : FanId → History → Bool
alarmed f h = output_bit f h && forced h

pub record PageStays (h : History) : Type 0 where
  -- an event is accepted where its reply number is 0; there is power from the first accepted power on; only power gives an address
  pub accepts : (e : Event) → accepted e h ≡ eqb (reply_number e h) 0
  pub off : power_on [] ≡ false
  pub on : (e : Event) → Accepted e h → power_on (e ∷ h) ≡ (is_kind kind.Power e || power_on h)
  pub address_stays : (e : Event) → Accepted e h → is_kind kind.Power e ≡ false → own_address (taken (e ∷ h)) ≡ own_address (taken h)
  -- "0 where there is no register"
  pub nowhere : (a : ℕ) → one_of registers (pos a) ≡ false → register a h ≡ 0
  -- registers: a point, a clock, a period change none; the pin status bits alone; a sample, a count its own beside these
  pub idle :
      (e : Event) (a : ℕ) → Accepted e h → (is_kind kind.Point e || (is_kind kind.Clock e || is_kind kind.Period e)) ≡ true → register a (e ∷ h) ≡ register a h
  pub by_pin :
      (v : ℤ) (a : ℕ) → Accepted (pin (pos 0) (pos 0) v) h → (eqb a 0x02 || eqb a 0x03) ≡ false → register a (pin (pos 0) (pos 0) v ∷ h) ≡ register a h
  pub by_sample :
      (c : ChannelId) (t : ℤ) (a : ℕ) → Accepted (sampled c t) h →
      (eqb a 0x02 || (eqb a 0x03 || (eqb a 0x06 || eqb a (by_channel 0x0A 0x0B 0x0C c)))) ≡ false → register a (sampled c t ∷ h) ≡ register a h
  pub by_count :
      (f : FanId) (n a : ℕ) → Accepted (counted f (pos n)) h → (eqb a 0x02 || (eqb a 0x03 || eqb a (by_fan 0x08 0x09 f))) ≡ false →
      register a (counted f (pos n) ∷ h) ≡ register a h
  pub rest_by_another :
      (c other : ChannelId) (t : ℤ) → (c ≡ other → ⊥) → Accepted (sampled other t) h → eighths_in c (sampled other t ∷ h) ≡ eighths_in c h
  -- status bits at an ordinary write: those of a channel stay while it is enabled; fault bits and bit 7 of 0x03 stay
  pub status_by_write :
      (c : ChannelId) (w : ℤ) (a b : ℕ) → Accepted (write w (pos a) (pos b)) h → ordinary a b →
      (high_status c (write w (pos a) (pos b) ∷ h) ≡ (high_status c h && channel_bit c (write w (pos a) (pos b) ∷ h)))
      × (low_status c (write w (pos a) (pos b) ∷ h) ≡ (low_status c h && channel_bit c (write w (pos a) (pos b) ∷ h)))
      × (therm_status c (write w (pos a) (pos b) ∷ h) ≡ (therm_status c h && channel_bit c (write w (pos a) (pos b) ∷ h)))
  pub fault_by_write :
      (f : FanId) (w : ℤ) (a b : ℕ) → Accepted (write w (pos a) (pos b)) h → ordinary a b →
      (fault_status f (write w (pos a) (pos b) ∷ h) ≡ fault_status f h) × (bit 0x03 7 (write w (pos a) (pos b) ∷ h) ≡ bit 0x03 7 h)
  -- temperatures 9, pin low too: registers but the status bytes are those after power, so that "the byte's other bits are dropped"
  pub reset_registers :
      (w : ℤ) (b a : ℕ) → Accepted (reset w b) h → bit_of b 7 ≡ true → a < 64 → (eqb a 0x02 || eqb a 0x03) ≡ false →
      register a (reset w b ∷ h) ≡ get_or (power_image 0 0) a 0
  -- duty 1: a sample of another channel
  pub flag_by_another :
      (c other : ChannelId) (t : ℤ) → (c ≡ other → ⊥) → Accepted (sampled other t) h → running c (sampled other t ∷ h) ≡ running c h
  -- duty 2: a channel's reading is that of its last sample, 0 after power and reset; nothing else moves it
  pub last_reading : (c : ChannelId) (t : ℤ) → Accepted (sampled c t) h → eighths_read c (sampled c t ∷ h) ≡ reading_figure c t h
  pub unread_after_power : (c : ChannelId) (w x y : ℤ) → Accepted (power w x y) h → eighths_read c (power w x y ∷ h) ≡ pos 0
  pub unread_after_reset : (c : ChannelId) (w : ℤ) (b : ℕ) → Accepted (reset w b) h → bit_of b 7 ≡ true → eighths_read c (reset w b ∷ h) ≡ pos 0
  pub reading_stays :
      (c : ChannelId) (e : Event) → Accepted e h → is_kind kind.Sample e ≡ false → is_kind kind.Power e ≡ false → is_kind kind.Write e ≡ false →
      eighths_read c (e ∷ h) ≡ eighths_read c h
  pub reading_by_another :
      (c other : ChannelId) (t : ℤ) → (c ≡ other → ⊥) → Accepted (sampled other t) h → eighths_read c (sampled other t ∷ h) ≡ eighths_read c h
  pub reading_by_write :
      (c : ChannelId) (w : ℤ) (a b : ℕ) → Accepted (write w (pos a) (pos b)) h → ordinary a b →
      eighths_read c (write w (pos a) (pos b) ∷ h) ≡ eighths_read c h
  -- duty 6: a count that is not judged, or no failure, changes nothing of a spin-up under way
  pub waits_unjudged : (f : FanId) (n : ℕ) → Accepted (counted f (pos n)) h → judged_after f h ≡ false → clocks_left f (counted f (pos n) ∷ h) ≡ clocks_left f h
  pub waits_after_good :
      (f : FanId) (n : ℕ) → Accepted (counted f (pos n)) h → n ≤ register (by_fan 0x10 0x11 f) h → clocks_left f (counted f (pos n) ∷ h) ≡ clocks_left f h
  -- duty 7: the alarm bit is set by entering alarm speed, and by nothing else; a read, power and reset clear it
  pub alarm :
      (f : FanId) (e : Event) → Accepted e h → is_kind kind.Power e ≡ false → is_kind kind.Write e ≡ false → is_kind kind.Read e ≡ false →
      alarm_status f (e ∷ h) ≡ (alarm_status f h || (alarmed f (e ∷ h) && not (alarmed f h)))
  pub alarm_by_write :
      (f : FanId) (w : ℤ) (a b : ℕ) → Accepted (write w (pos a) (pos b)) h → ordinary a b →
      alarm_status f (write w (pos a) (pos b) ∷ h) ≡ (alarm_status f h || (alarmed f (write w (pos a) (pos b) ∷ h) && not (alarmed f h)))
  -- tach counts: one fan's count leaves the other; a write that leaves the tach bit at 1 leaves the run
  pub other_count :
      (f g : FanId) (n : ℕ) → (f ≡ g → ⊥) → Accepted (counted g (pos n)) h →
      (failure_run f (counted g (pos n) ∷ h) ≡ failure_run f h) × (fault_status f (counted g (pos n) ∷ h) ≡ fault_status f h)
      × (clocks_left f (counted g (pos n) ∷ h) ≡ clocks_left f h) × (duty_out f (counted g (pos n) ∷ h) ≡ duty_out f h)
  pub run_by_write :
      (f : FanId) (w : ℤ) (a b : ℕ) → Accepted (write w (pos a) (pos b)) h → ordinary a b →
      tach_bit f (write w (pos a) (pos b) ∷ h) ≡ true → failure_run f (write w (pos a) (pos b) ∷ h) ≡ failure_run f h
