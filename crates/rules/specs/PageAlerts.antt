-- The page, INT: rule 8 of the temperatures, and T-02 of document 02, which lets INT go: over lists of events, answers, registers and outputs.
use Rattle.std.specs.Prelude.{ℕ, ◌<◌, ◌≡◌, Bool, true, false, cond, ◌&&◌, ◌||◌, List, [], ◌∷◌, ◌++◌, ltb, ℤ, pos}
use Rattle.std.specs.Int.Bits.{bit_and}
use Rattle.integer.specs.Bits.{bit_of, flag_of}
use Rattle.part.specs.declared.ChannelId.{ChannelId}
use Rattle.part.specs.declared.FanId.{FanId}
use Rattle.event.specs.Kinds.{is_kind}
use Rattle.event.specs.declared.Event.{Event}
use Rattle.event.specs.declared.Kind.TheVariants as kind
use Rattle.rules.specs.Replies.{History}
use Rattle.rules.specs.PageWords.{power, alert, Accepted, register, bit, out, duty_out, by_fan}
use Rattle.rules.specs.PageTemperatures.{latched, pulled, reset}
use Rattle.rules.specs.PageDuties.{running, eighths_read, clocks_left, failure_run}

-- 8: INT is due: its enable bit, and a status byte, bit 5 masked for a disabled channel, that is not 0
abbrev pub due : History → Bool
due h =
    bit 0x00 1 h
    && (ltb 0 (bit_and (register 0x02 h) (cond (bit 0x01 5 h) 0xFF 0xDF)) || ltb 0 (bit_and (register 0x03 h) (cond (bit 0x01 6 h) 0xFF 0xDF)))

abbrev pub alerted : (who : ℤ) → Event
alerted w = alert w (pos 0) (pos 0)

-- a status bit, of 0x02 or 0x03
abbrev pub status_bit : FanId → (place : ℕ) → History → Bool
status_bit f k h = bit (by_fan 0x02 0x03 f) k h

-- an event that is no power, no software reset, and at which no status bit goes from 0 to 1
pub record Quiet (e : Event) (h : History) : Type 0 where
  pub no_power : is_kind kind.Power e ≡ false
  pub no_reset : (w : ℤ) (b : ℕ) → e ≡ reset w b → bit_of b 7 ≡ false
  pub no_rise : (f : FanId) (k : ℕ) → k < 8 → status_bit f k h ≡ false → status_bit f k (e ∷ h) ≡ false

-- of the events t, the newest first, that came after h, each that is accepted is quiet
unfoldable pub AllQuiet : List Event → History → Type 0
AllQuiet [] h = Unit {0}
AllQuiet (e ∷ t) h = AllQuiet t h × (Accepted e (t ++ h) → Quiet e (t ++ h))

-- none of them is an accepted alert that finds INT asserted
unfoldable pub Unanswered : List Event → History → Type 0
Unanswered [] h = Unit {0}
Unanswered (e ∷ t) h = Unanswered t h × (is_kind kind.Alert e ≡ true → Accepted e (t ++ h) → (out (t ++ h)).int ≡ 0)

-- after h INT is what rule 8 says, until an alert finds it asserted: "With INT not asserted the event changes nothing"
abbrev pub FollowsStatus : History → Type 0
FollowsStatus h = (t : List Event) → Unanswered t h → (out (t ++ h)).int ≡ flag_of (due (t ++ h))

pub record PageAlerts (h : History) : Type 0 where
  -- 8, until an alert finds INT asserted: without alerts INT is what document 01 says
  pub int : Unanswered h [] → (out h).int ≡ flag_of (due h)
  -- "its INT is let go": at the event itself
  pub let_go : (w : ℤ) → Accepted (alerted w) h → (out (alerted w ∷ h)).int ≡ 0
  -- "until a status bit goes from 0 to 1, a reset or a power": not before; no enable bit ends it, nor a bit set again while it is 1
  pub silent :
      (w : ℤ) (t : List Event) → Accepted (alerted w) h → (out h).int ≡ 1 → AllQuiet t (alerted w ∷ h) →
      (out (t ++ (alerted w ∷ h))).int ≡ 0
  -- and from each of them on as rule 8 says
  pub raised :
      (e : Event) (f : FanId) (k : ℕ) → Accepted e h → k < 8 → status_bit f k h ≡ false → status_bit f k (e ∷ h) ≡ true →
      FollowsStatus (e ∷ h)
  pub powered : (w a v : ℤ) → Accepted (power w a v) h → FollowsStatus (power w a v ∷ h)
  pub restarted : (w : ℤ) (b : ℕ) → Accepted (reset w b) h → bit_of b 7 ≡ true → FollowsStatus (reset w b ∷ h)
  -- "Neither query nor event changes a duty, a latch or a status bit": no register, no output but INT, nothing that is hidden
  pub registers : (w : ℤ) (a : ℕ) → Accepted (alerted w) h → register a (alerted w ∷ h) ≡ register a h
  pub duties : (w : ℤ) (f : FanId) → Accepted (alerted w) h → duty_out f (alerted w ∷ h) ≡ duty_out f h
  pub outputs : (w : ℤ) → Accepted (alerted w) h → ((out (alerted w ∷ h)).therm ≡ (out h).therm) × ((out (alerted w ∷ h)).fault ≡ (out h).fault)
  pub channels :
      (w : ℤ) (c : ChannelId) → Accepted (alerted w) h →
      (latched c (alerted w ∷ h) ≡ latched c h) × (running c (alerted w ∷ h) ≡ running c h) × (eighths_read c (alerted w ∷ h) ≡ eighths_read c h)
  pub fans :
      (w : ℤ) (f : FanId) → Accepted (alerted w) h →
      (clocks_left f (alerted w ∷ h) ≡ clocks_left f h) × (failure_run f (alerted w ∷ h) ≡ failure_run f h)
  pub level : (w : ℤ) → Accepted (alerted w) h → pulled (alerted w ∷ h) ≡ pulled h
