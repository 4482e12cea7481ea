-- The page, document 02, T-01: sensor offsets, of registers, outputs and events with their numbers.
use Rattle.std.specs.Prelude.{ℕ, ◌≡◌, true, false, ◌∷◌, eqb, ℤ, pos, negsuc, ◌+ℤ◌, ◌-ℤ◌, ◌*ℤ◌}
use Rattle.std.specs.Int.Signed.{le_z, lt_z}
use Rattle.integer.specs.Bits.{bit_of}
use Rattle.part.specs.declared.ChannelId.{ChannelId}
use Rattle.part.specs.declared.FanId.{FanId}
use Rattle.event.specs.declared.Event.{Event}
use Rattle.rules.specs.Replies.{History}
use Rattle.rules.specs.PageWords.{power, write, sampled, Accepted, register, out, by_channel, offset_byte, eight_offsets, top}
use Rattle.rules.specs.PageTemperatures.{eighths_in, degrees_in, latched, reset}
use Rattle.rules.specs.PageDuties.{running, aim, clocks_left, failure_run, eighths_read, demanded}

-- the reading of a channel as a user reads it: from its value register and 0x06
abbrev pub reading_in : ChannelId → History → ℤ
reading_in c h = (pos 8 *ℤ degrees_in c h) +ℤ pos (eighths_in c h)

-- a write of a channel's offset register
abbrev pub offset_written : ChannelId → (who : ℤ) (byte : ℕ) → Event
offset_written c w b = write w (pos (by_channel 0x0D 0x0E 0x0F c)) (pos b)

pub record PageOffsets (h : History) : Type 0 where
  -- "A reading is now the sample plus eight times the channel's offset", as the registers show it after the sample
  pub added :
      (c : ChannelId) (t : ℤ) → Accepted (sampled c t) h → bit_of (offset_byte c h) 7 ≡ false → le_z (t +ℤ eight_offsets c h) (top c) ≡ true →
      reading_in c (sampled c t ∷ h) ≡ t +ℤ eight_offsets c h
  pub subtracted :
      (c : ChannelId) (t : ℤ) → Accepted (sampled c t) h → bit_of (offset_byte c h) 7 ≡ true → le_z (negsuc 1023) (t -ℤ eight_offsets c h) ≡ true →
      reading_in c (sampled c t ∷ h) ≡ t -ℤ eight_offsets c h
  -- "held at -1024 below and at 1023 above (1022 for local, so that it stays even)"
  pub held_above :
      (c : ChannelId) (t : ℤ) → Accepted (sampled c t) h → bit_of (offset_byte c h) 7 ≡ false → lt_z (top c) (t +ℤ eight_offsets c h) ≡ true →
      reading_in c (sampled c t ∷ h) ≡ top c
  pub held_below :
      (c : ChannelId) (t : ℤ) → Accepted (sampled c t) h → bit_of (offset_byte c h) 7 ≡ true → lt_z (t -ℤ eight_offsets c h) (negsuc 1023) ≡ true →
      reading_in c (sampled c t ∷ h) ≡ negsuc 1023
  -- the reading by which demands are worked out is the one that the registers show
  pub same : (c : ChannelId) → eighths_read c h ≡ reading_in c h
  -- "An offset write acts from the next sample on": it changes no output and no register but its own, the status bytes included,
  pub written :
      (c : ChannelId) (w : ℤ) (b : ℕ) → Accepted (offset_written c w b) h →
      (out (offset_written c w b ∷ h) ≡ out h)
      × ((a : ℕ) → eqb a (by_channel 0x0D 0x0E 0x0F c) ≡ false → register a (offset_written c w b ∷ h) ≡ register a h)
  -- no reading, latch or run flag of any channel,
  pub channel_left :
      (c x : ChannelId) (w : ℤ) (b : ℕ) → Accepted (offset_written c w b) h →
      (eighths_read x (offset_written c w b ∷ h) ≡ eighths_read x h) × (latched x (offset_written c w b ∷ h) ≡ latched x h)
      × (running x (offset_written c w b ∷ h) ≡ running x h)
  -- and no demand, target, spin-up or run of failures of any fan
  pub demand_left :
      (c x : ChannelId) (f : FanId) (w : ℤ) (b : ℕ) → Accepted (offset_written c w b) h → demanded f x (offset_written c w b ∷ h) ≡ demanded f x h
  pub fan_left :
      (c : ChannelId) (f : FanId) (w : ℤ) (b : ℕ) → Accepted (offset_written c w b) h →
      (aim f (offset_written c w b ∷ h) ≡ aim f h) × (clocks_left f (offset_written c w b ∷ h) ≡ clocks_left f h)
      × (failure_run f (offset_written c w b ∷ h) ≡ failure_run f h)
  -- power and reset zero reading and offset
  pub zero_by_power :
      (c : ChannelId) (w x y : ℤ) → Accepted (power w x y) h → (reading_in c (power w x y ∷ h) ≡ pos 0) × (offset_byte c (power w x y ∷ h) ≡ 0)
  pub zero_by_reset :
      (c : ChannelId) (w : ℤ) (b : ℕ) → Accepted (reset w b) h → bit_of b 7 ≡ true →
      (reading_in c (reset w b ∷ h) ≡ pos 0) × (offset_byte c (reset w b ∷ h) ≡ 0)
