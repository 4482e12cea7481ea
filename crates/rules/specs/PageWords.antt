-- The page's own words: events with their numbers, what a user sees, and the figures of 000's tables, written down a second time.
use Rattle.std.specs.Prelude.{ℕ, ◌*◌, ◌/◌, ◌%◌, ◌≡◌, Bool, true, false, cond, List, [], ◌∷◌, ℤ, pos, negsuc, ◌+ℤ◌, ◌-ℤ◌, get_or}
use Rattle.std.specs.Int.Signed.{le_z}
use Rattle.integer.specs.Bits.{bit_of}
use Rattle.part.specs.declared.ChannelId.{ChannelId}
use Rattle.part.specs.declared.ChannelId.TheVariants.{Local, Remote1, Remote2}
use Rattle.part.specs.declared.FanId.{FanId}
use Rattle.part.specs.declared.FanId.TheVariants.{One, Two}
use Rattle.event.specs.Answers as answers
use Rattle.event.specs.declared.Numbers.{Numbers}
use Rattle.event.specs.declared.Event.{Event}
use Rattle.event.specs.declared.Event.TheVariants as event
use Rattle.event.specs.declared.Transfer.TheVariants as transfer
use Rattle.event.specs.declared.Shown.{Shown}
use Rattle.rules.specs.Replies.{History, taken, accepted}
use Rattle.rules.specs.Temperatures.{degrees}
use Rattle.rules.specs.Shows.{value, shown, answer}

-- ---- events, with any numbers and with those of a part

abbrev pub numbers : (who arg val : ℤ) → Numbers
numbers who arg val = record { who = who; arg = arg; val = val }

abbrev pub power : (who arg val : ℤ) → Event
power who arg val = event.Power (numbers who arg val)

abbrev pub write : (who arg val : ℤ) → Event
write who arg val = event.Bus (transfer.Write (numbers who arg val))

abbrev pub point : (who arg val : ℤ) → Event
point who arg val = event.Bus (transfer.Point (numbers who arg val))

abbrev pub read : (who arg val : ℤ) → Event
read who arg val = event.Bus (transfer.Read (numbers who arg val))

abbrev pub sample : (who arg val : ℤ) → Event
sample who arg val = event.Sample (numbers who arg val)

abbrev pub tach : (who arg val : ℤ) → Event
tach who arg val = event.Tach (numbers who arg val)

abbrev pub pin : (who arg val : ℤ) → Event
pin who arg val = event.Pin (numbers who arg val)

abbrev pub clock : (who arg val : ℤ) → Event
clock who arg val = event.Clock (numbers who arg val)

abbrev pub period : (who arg val : ℤ) → Event
period who arg val = event.Period (numbers who arg val)

abbrev pub alert : (who arg val : ℤ) → Event
alert who arg val = event.Alert (numbers who arg val)

abbrev pub diode : (who arg val : ℤ) → Event
diode who arg val = event.Diode (numbers who arg val)

-- a sample of t eighths of the channel, a report on its diode; a count, a period of the fan; the pin pulled low, let go; a tenth of a second
abbrev pub sampled : ChannelId → ℤ → Event
sampled Local t = sample (pos 0) (pos 0) t
sampled Remote1 t = sample (pos 1) (pos 0) t
sampled Remote2 t = sample (pos 2) (pos 0) t

abbrev pub reported : ChannelId → ℤ → Event
reported Local v = diode (pos 0) (pos 0) v
reported Remote1 v = diode (pos 1) (pos 0) v
reported Remote2 v = diode (pos 2) (pos 0) v

abbrev pub counted : FanId → ℤ → Event
counted One n = tach (pos 1) (pos 0) n
counted Two n = tach (pos 2) (pos 0) n

abbrev pub turned : FanId → Event
turned One = period (pos 1) (pos 0) (pos 0)
turned Two = period (pos 2) (pos 0) (pos 0)

abbrev pub pulled_low : Event
pulled_low = pin (pos 0) (pos 0) (pos 0)

abbrev pub let_go : Event
let_go = pin (pos 0) (pos 0) (pos 1)

abbrev pub tenth : Event
tenth = clock (pos 0) (pos 0) (pos 0)

abbrev pub Accepted : Event → History → Type 0
Accepted e h = accepted e h ≡ true

-- ---- what a user sees after a list of events: registers, outputs, the answer to the next event

abbrev pub register : ℕ → History → ℕ
register a h = value a (taken h)

abbrev pub bit : (address place : ℕ) → History → Bool
bit a k h = bit_of (register a h) k

abbrev pub out : History → Shown
out h = shown (taken h)

abbrev pub duty_out : FanId → History → ℕ
duty_out One h = (out h).duty1
duty_out Two h = (out h).duty2

abbrev pub reply_number : Event → History → ℕ
reply_number e h = answers.number_of (answer e h)

abbrev pub data_out : Event → History → ℕ
data_out e h = answers.data_of (answer e h)

-- ---- addresses and places of bits

-- one of three by channel, one of two by fan
abbrev pub by_channel : {A : Type 0} → (local remote1 remote2 : A) → ChannelId → A
by_channel l a b Local = l
by_channel l a b Remote1 = a
by_channel l a b Remote2 = b

abbrev pub by_fan : {A : Type 0} → (one two : A) → FanId → A
by_fan a b One = a
by_fan a b Two = b

-- signed whole degrees of a limit register: high, low, THERM
abbrev pub high_degrees : ChannelId → History → ℤ
high_degrees c h = degrees (register (by_channel 0x14 0x18 0x1C c) h)

abbrev pub low_degrees : ChannelId → History → ℤ
low_degrees c h = degrees (register (by_channel 0x15 0x19 0x1D c) h)

abbrev pub therm_degrees : ChannelId → History → ℤ
therm_degrees c h = degrees (register (by_channel 0x16 0x1A 0x1E c) h)

-- enable bits in 0x01: fan outputs, tachs, channels; filters in 0x23
abbrev pub output_bit : FanId → History → Bool
output_bit f h = bit 0x01 (by_fan 0 1 f) h

abbrev pub tach_bit : FanId → History → Bool
tach_bit f h = bit 0x01 (by_fan 2 3 f) h

abbrev pub channel_bit : ChannelId → History → Bool
channel_bit c h = bit 0x01 (by_channel 4 5 6 c) h

abbrev pub filter_bit : FanId → History → Bool
filter_bit f h = bit 0x23 (by_fan 0 1 f) h

-- status bits (temperatures 4)
abbrev pub high_status : ChannelId → History → Bool
high_status c h = bit (by_channel 0x02 0x02 0x03 c) (by_channel 6 2 2 c) h

abbrev pub low_status : ChannelId → History → Bool
low_status c h = bit (by_channel 0x02 0x02 0x03 c) (by_channel 7 3 3 c) h

abbrev pub therm_status : ChannelId → History → Bool
therm_status c h = bit (by_channel 0x03 0x02 0x03 c) (by_channel 6 4 4 c) h

-- the diode error of a remote channel; local has none
abbrev pub error_status : ChannelId → History → Bool
error_status c h = by_channel false (bit 0x02 5 h) (bit 0x03 5 h) c

abbrev pub alarm_status : FanId → History → Bool
alarm_status f h = bit (by_fan 0x02 0x03 f) 0 h

abbrev pub fault_status : FanId → History → Bool
fault_status f h = bit (by_fan 0x02 0x03 f) 1 h

-- ---- the reading of a sample of t eighths (T-01): with 8 n added, or subtracted where bit 7 of the offset is 1; n is bits 3:0, in degrees

abbrev pub offset_byte : ChannelId → History → ℕ
offset_byte c h = register (by_channel 0x0D 0x0E 0x0F c) h

abbrev pub eight_offsets : ChannelId → History → ℤ
eight_offsets c h = pos (8 * (offset_byte c h % 16))

abbrev pub moved : ChannelId → ℤ → History → ℤ
moved c t h = cond (bit_of (offset_byte c h) 7) (t -ℤ eight_offsets c h) (t +ℤ eight_offsets c h)

-- not above 1023, local not above 1022, and not below -1024
abbrev pub top : ChannelId → ℤ
top c = by_channel (pos 1022) (pos 1023) (pos 1023) c

abbrev pub not_above : (bound v : ℤ) → ℤ
not_above bound v = cond (le_z v bound) v bound

abbrev pub not_below : (bound v : ℤ) → ℤ
not_below bound v = cond (le_z bound v) v bound

abbrev pub reading_figure : ChannelId → ℤ → History → ℤ
reading_figure c t h = not_below (negsuc 1023) (not_above (top c) (moved c t h))

-- ---- figures

-- Tmin in degrees, 0 to 124 by 4, and R, of the byte of a control register
abbrev pub tmin_figure : ℕ → ℕ
tmin_figure byte = 4 * (byte / 8 % 32)

abbrev pub range_figure : ℕ → ℕ
range_figure byte = get_or (5 ∷ 10 ∷ 20 ∷ 40 ∷ 80 ∷ 80 ∷ 80 ∷ 80 ∷ []) (byte % 8) 0

abbrev pub control : ChannelId → History → ℕ
control c h = register (by_channel 0x24 0x25 0x26 c) h

-- the clock events of a spin-up by bits 2:0 of 0x20, 0x21: 0.2, 0.4, 0.6, 0.8, 1, 2, 4, 8 seconds
abbrev pub spin_up_figure : FanId → History → ℕ
spin_up_figure f h = get_or (2 ∷ 4 ∷ 6 ∷ 8 ∷ 10 ∷ 20 ∷ 40 ∷ 80 ∷ []) (register (by_fan 0x20 0x21 f) h % 8) 0

-- the ramp rate by bits 6:5 of 0x23
abbrev pub rate_figure : History → ℕ
rate_figure h = get_or (1 ∷ 2 ∷ 4 ∷ 8 ∷ []) (register 0x23 h / 32 % 4) 0

-- the minimum code of a fan: 3:0 and 7:4 of 0x22
abbrev pub minimum_code : FanId → History → ℕ
minimum_code f h = by_fan (register 0x22 h % 16) (register 0x22 h / 16) f

-- the channels of a fan by bits 6:5 of 0x00, those that are assigned: local, remote 1, remote 2
abbrev pub assignment_table : FanId → List (ChannelId → Bool)
assignment_table One =
    by_channel false true false ∷ by_channel false true false ∷ by_channel false false true ∷ by_channel true true true ∷ []
assignment_table Two =
    by_channel false false true ∷ by_channel false true false ∷ by_channel false false true ∷ by_channel true true true ∷ []

abbrev pub is_assigned : FanId → ChannelId → History → Bool
is_assigned f c h = get_or (assignment_table f) (register 0x00 h / 32 % 4) (λ d. false) c
