-- The page, "Events and what each carries" and "The reply numbers": each kind's replies in order, refusals, power, writes, the register image.
use Rattle.std.specs.Prelude.{ℕ, ◌*◌, ◌%◌, ◌<◌, ◌≤◌, ◌≡◌, Bool, true, false, cond, not, ◌&&◌, ◌||◌, List, [], ◌∷◌, eqb, leb, ℤ, pos, negsuc, length, get_or}
use Rattle.std.specs.Int.Signed.{le_z}
use Rattle.integer.specs.Bits.{bit_of}
use Rattle.part.specs.declared.ChannelId.{ChannelId}
use Rattle.part.specs.declared.FanId.{FanId}
use Rattle.event.specs.Kinds.{is_kind}
use Rattle.event.specs.Answers as answers
use Rattle.event.specs.declared.Event.{Event}
use Rattle.event.specs.declared.Kind.TheVariants as kind
use Rattle.rules.specs.Stored.{powered, own_address, pointer, pin_low}
use Rattle.rules.specs.Replies.{History, taken, accepted}
use Rattle.rules.specs.Temperatures.{latch}
use Rattle.rules.specs.Targets.{flag}
use Rattle.rules.specs.Duties.{left, spin, failures}
use Rattle.rules.specs.Shows.{values_from, image_reply, image_held}
use Rattle.rules.specs.PageWords.{power, write, point, read, sample, tach, pin, clock, period, alert, diode, Accepted, register, bit, out}
use Rattle.rules.specs.PageWords.{reply_number, data_out, by_fan}

-- ---- words for the replies: v is n, v is one of a list, low ≤ v ≤ high

abbrev pub same : (v n : ℤ) → Bool
same v n = le_z v n && le_z n v

unfoldable pub one_of : List ℕ → ℤ → Bool
one_of [] v = false
one_of (n ∷ ns) v = same v (pos n) || one_of ns v

abbrev pub between : (low high : ℤ) → ℤ → Bool
between low high v = le_z low v && le_z v high

abbrev pub is_zero : ℤ → Bool
is_zero v = same v (pos 0)

-- the registers of 000's tables, those of them that no write changes, and the control registers
abbrev pub registers : List ℕ
registers =
    0x00 ∷ 0x01 ∷ 0x02 ∷ 0x03 ∷ 0x06 ∷ 0x07 ∷ 0x08 ∷ 0x09 ∷ 0x0A ∷ 0x0B ∷ 0x0C ∷ 0x0D ∷ 0x0E ∷ 0x0F ∷ 0x10 ∷ 0x11 ∷ 0x14 ∷ 0x15 ∷ 0x16
    ∷ 0x18 ∷ 0x19 ∷ 0x1A ∷ 0x1C ∷ 0x1D ∷ 0x1E ∷ 0x20 ∷ 0x21 ∷ 0x22 ∷ 0x23 ∷ 0x24 ∷ 0x25 ∷ 0x26 ∷ 0x3D ∷ 0x3E ∷ 0x3F ∷ []

abbrev pub read_only_registers : List ℕ
read_only_registers = 0x02 ∷ 0x03 ∷ 0x06 ∷ 0x0A ∷ 0x0B ∷ 0x0C ∷ 0x3D ∷ 0x3E ∷ []

-- a byte whose bits 2:0 are 5, 6 or 7
unfoldable pub bad_range : ℤ → Bool
bad_range (pos n) = leb 5 (n % 8)
bad_range (negsuc n) = false

unfoldable pub odd : ℤ → Bool
odd (pos n) = eqb (n % 2) 1
odd (negsuc n) = eqb (n % 2) 0

-- the first reply of a row of tests and numbers whose test holds, else 0
abbrev pub first : (t : Bool) (n rest : ℕ) → ℕ
first t n rest = cond t n rest

-- what is asked of the past: power, the own address, monitoring (bit 0 of 0x00), the diode of the remote channel of a number (bit 5 of 0x02, 0x03)
abbrev pub power_on : History → Bool
power_on h = powered (taken h)

abbrev pub ours : ℤ → History → Bool
ours who h = same who (pos (own_address (taken h)))

abbrev pub monitored : History → Bool
monitored h = bit 0x00 0 h

abbrev pub broken : ℤ → History → Bool
broken who h = (same who (pos 1) && bit 0x02 5 h) || (same who (pos 2) && bit 0x03 5 h)

-- ---- the bytes after power, place by place from 0x00: a and b are the diode errors
abbrev pub power_image : (a b : ℕ) → List ℕ
power_image a b =
    0x90 ∷ 0x7F ∷ 32 * a ∷ 32 * b ∷ 0 ∷ 0 ∷ 0 ∷ 0 ∷ 0 ∷ 0 ∷ 0 ∷ 0 ∷ 0 ∷ 0 ∷ 0 ∷ 0
    ∷ 0xFF ∷ 0xFF ∷ 0 ∷ 0 ∷ 60 ∷ 0 ∷ 70 ∷ 0 ∷ 80 ∷ 0 ∷ 100 ∷ 0 ∷ 80 ∷ 0 ∷ 100 ∷ 0
    ∷ 0x5D ∷ 0x5D ∷ 0x55 ∷ 0x50 ∷ 0x41 ∷ 0x61 ∷ 0x61 ∷ 0 ∷ 0 ∷ 0 ∷ 0 ∷ 0 ∷ 0 ∷ 0 ∷ 0 ∷ 0
    ∷ 0 ∷ 0 ∷ 0 ∷ 0 ∷ 0 ∷ 0 ∷ 0 ∷ 0 ∷ 0 ∷ 0 ∷ 0 ∷ 0 ∷ 0 ∷ 0x31 ∷ 0x41 ∷ 0x80 ∷ []

-- the bits that a write changes
abbrev pub writable_bits : ℕ → ℕ
writable_bits a =
    cond (eqb a 0x01) 0x7F (cond (eqb a 0x0E || eqb a 0x0F) 0x8F (cond (eqb a 0x3F) 0xF0 0xFF))

pub record PageReplies (h : History) : Type 0 where
  -- the replies of each kind, in the order of the table; power needs none of the past
  pub powers : (w a v : ℤ)
      → reply_number (power w a v) h ≡ first (not (between (pos 44) (pos 46) w && (between (pos 0) (pos 1) a && between (pos 0) (pos 1) v))) 6 0
  pub writes :
      (w a v : ℤ) → reply_number (write w a v) h
      ≡ first (not (power_on h)) 1 (first (not (ours w h)) 2 (first (not (one_of registers a)) 4 (first (one_of read_only_registers a) 5
      (first (not (between (pos 0) (pos 255) v)) 6
      (first (one_of (0x24 ∷ 0x25 ∷ 0x26 ∷ []) a && bad_range v) 7 0)))))
  pub points :
      (w a v : ℤ) → reply_number (point w a v) h
      ≡ first (not (power_on h)) 1 (first (not (ours w h)) 2 (first (not (one_of registers a)) 4 (first (not (is_zero v)) 6 0)))
  pub reads :
      (w a v : ℤ) → reply_number (read w a v) h
      ≡ first (not (power_on h)) 1 (first (not (ours w h)) 2 (first (not (is_zero a && is_zero v)) 6 0))
  pub samples :
      (w a v : ℤ) → reply_number (sample w a v) h
      ≡ first (not (power_on h)) 1 (first (not (between (pos 0) (pos 2) w)) 3
      (first (not (is_zero a && between (negsuc 1023) (pos 1023) v)) 6 (first (is_zero w && odd v) 8 (first (not (monitored h)) 9
      (first (broken w h) 13 0)))))
  pub tachs :
      (w a v : ℤ) → reply_number (tach w a v) h
      ≡ first (not (power_on h)) 1 (first (not (between (pos 1) (pos 2) w)) 3
      (first (not (is_zero a && between (pos 0) (pos 255) v)) 6 (first (not (monitored h)) 9 0)))
  pub pins : (w a v : ℤ) → reply_number (pin w a v) h ≡ first (not (power_on h)) 1 (first (not (is_zero w && (is_zero a && between (pos 0) (pos 1) v))) 6 0)
  pub clocks : (w a v : ℤ) → reply_number (clock w a v) h ≡ first (not (power_on h)) 1 (first (not (is_zero w && (is_zero a && is_zero v))) 6 0)
  pub periods :
      (w a v : ℤ) → reply_number (period w a v) h
      ≡ first (not (power_on h)) 1 (first (not (between (pos 1) (pos 2) w)) 3 (first (not (is_zero a && is_zero v)) 6 0))
  -- T-02: "Refusals: 1, 2 and 6 for the event"
  pub alerts :
      (w a v : ℤ) → reply_number (alert w a v) h
      ≡ first (not (power_on h)) 1 (first (not (ours w h)) 2 (first (not (is_zero a && is_zero v)) 6 0))
  -- T-05: "3 (channel 0 too) and 6 for the new event as for others"; monitoring is not asked
  pub diodes :
      (w a v : ℤ) → reply_number (diode w a v) h
      ≡ first (not (power_on h)) 1 (first (not (between (pos 1) (pos 2) w)) 3 (first (not (is_zero a && between (pos 0) (pos 1) v)) 6 0))
  -- "A refusal returns its number with data 0 and leaves the whole state as before."
  pub refusal : (e : Event) → accepted e h ≡ false → (data_out e h ≡ 0) × (taken (e ∷ h) ≡ taken h)
  -- "Only a read returns data": the byte at the pointer
  pub silent : (e : Event) → is_kind kind.Read e ≡ false → data_out e h ≡ 0
  pub handed_out : (w : ℤ) → Accepted (read w (pos 0) (pos 0)) h → data_out (read w (pos 0) (pos 0)) h ≡ register (pointer (taken h)) h
  -- "Before the first power all outputs are 0."
  pub dark : power_on h ≡ false → out h ≡ record { int = 0; therm = 0; fault = 0; duty1 = 0; duty2 = 0 }
  -- "A write that is done sets the pointer too"; a point sets it; no other event but power moves it
  pub pointed_by_write : (w : ℤ) (a : ℕ) (v : ℤ) → Accepted (write w (pos a) v) h → pointer (taken (write w (pos a) v ∷ h)) ≡ a
  pub pointed_by_point : (w : ℤ) (a : ℕ) → Accepted (point w (pos a) (pos 0)) h → pointer (taken (point w (pos a) (pos 0) ∷ h)) ≡ a
  pub pointer_stays :
      (e : Event) → Accepted e h → is_kind kind.Power e ≡ false → is_kind kind.Write e ≡ false → is_kind kind.Point e ≡ false →
      pointer (taken (e ∷ h)) ≡ pointer (taken h)
  -- "Power always starts afresh": every register, output and hidden state, whatever came before; a diode error (T-05) acts at once
  pub image :
      (w : ℤ) (a b : ℕ) → Accepted (power w (pos a) (pos b)) h →
      values_from 0 64 (taken (power w (pos a) (pos b) ∷ h)) ≡ power_image a b
  pub outputs :
      (w : ℤ) (a b : ℕ) → Accepted (power w (pos a) (pos b)) h →
      out (power w (pos a) (pos b) ∷ h) ≡ record { int = 0; therm = 0; fault = 0; duty1 = 240 * a; duty2 = 240 * b }
  pub address : (w : ℕ) (a v : ℤ) → Accepted (power (pos w) a v) h → own_address (taken (power (pos w) a v ∷ h)) ≡ w
  pub start : (w a v : ℤ) → Accepted (power w a v) h → (pointer (taken (power w a v ∷ h)) ≡ 0) × (pin_low (taken (power w a v ∷ h)) ≡ false)
  pub latches :
      (w a v : ℤ) (c : ChannelId) → Accepted (power w a v) h →
      (latch c (taken (power w a v ∷ h)) ≡ false) × (flag c (taken (power w a v ∷ h)) ≡ false)
  pub fans :
      (w : ℤ) (a b : ℕ) (f : FanId) → Accepted (power w (pos a) (pos b)) h →
      (left (spin f (taken (power w (pos a) (pos b) ∷ h))) ≡ 20 * by_fan a b f) × (failures f (taken (power w (pos a) (pos b) ∷ h)) ≡ 0)
  -- a write changes the writable bits of its register, and no other register but the status bytes
  pub written :
      (w : ℤ) (a b k : ℕ) → Accepted (write w (pos a) (pos b)) h → (eqb a 0x01 && bit_of b 7) ≡ false → k < 8 →
      bit a k (write w (pos a) (pos b) ∷ h) ≡ cond (bit_of (writable_bits a) k) (bit_of b k) (bit a k h)
  pub others :
      (w : ℤ) (a b other : ℕ) → Accepted (write w (pos a) (pos b)) h → (eqb a 0x01 && bit_of b 7) ≡ false →
      (eqb other a || (eqb other 0x02 || eqb other 0x03)) ≡ false →
      register other (write w (pos a) (pos b) ∷ h) ≡ register other h
  -- the register image: a buffer of at least 64 bytes, the bytes after the 64th stay; 1 and 11 change none
  pub image_answer :
      (buffer : List ℕ) → answers.number_of (image_reply buffer (taken h)) ≡ first (not (power_on h)) 1 (first (not (leb 64 (length buffer))) 11 0)
  pub image_byte :
      (buffer : List ℕ) (a : ℕ) → power_on h ≡ true → 64 ≤ length buffer → a < 64 → get_or (image_held buffer (taken h)) a 0 ≡ register a h
  pub image_rest : (buffer : List ℕ) (a : ℕ) → 64 ≤ a → get_or (image_held buffer (taken h)) a 0 ≡ get_or buffer a 0
  pub image_length : (buffer : List ℕ) → length (image_held buffer (taken h)) ≡ length buffer
  pub image_kept : (buffer : List ℕ) → (power_on h && leb 64 (length buffer)) ≡ false → image_held buffer (taken h) ≡ buffer
