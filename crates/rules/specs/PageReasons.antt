-- The page, T-03 of document 02: the reason that is told for a fan's duty, of registers, outputs and the fan's number.
use Rattle.std.specs.Prelude.{ℕ, ◌+◌, ◌-◌, ◌*◌, ◌/◌, ◌%◌, ◌<◌, ◌≤◌, min, ◌≡◌, Bool, true, false, cond, [], ◌∷◌, ℤ, pos, ◌+ℤ◌, ◌-ℤ◌, ◌*ℤ◌, Result, Ok}
use Rattle.integer.specs.Bits.{bit_of}
use Rattle.part.specs.declared.ChannelId.{ChannelId}
use Rattle.part.specs.declared.FanId.{FanId}
use Rattle.event.specs.declared.Event.{Event}
use Rattle.event.specs.declared.Reason.{Reason}
use Rattle.event.specs.declared.Reason.TheVariants as reason
use Rattle.event.specs.declared.Refusal.{Refusal}
use Rattle.rules.specs.Replies.{History, taken, accepted}
use Rattle.rules.specs.Temperatures.{degrees}
use Rattle.rules.specs.Reasons.{reason_number, why_number, why_for}
use Rattle.rules.specs.PageWords.{bit, register, duty_out, by_channel, by_fan, output_bit, filter_bit, tmin_figure, range_figure, is_assigned}
use Rattle.rules.specs.PageReplies.{one_of, power_on}
use Rattle.rules.specs.PageTemperatures.{latched, pulled}
use Rattle.rules.specs.PageDuties.{aim, clocks_left, excess, demanded}

-- what is told after a list of the fan of a number, and of either fan
abbrev pub told : (fan : ℤ) → History → Result Reason Refusal
told n h = why_for n (taken h)

abbrev pub told_of : FanId → History → Result Reason Refusal
told_of f h = told (pos (by_fan 1 2 f)) h

-- ---- the ticket's order

abbrev pub in_order : Reason → ℕ
in_order reason.Disabled = 1
in_order reason.PinLow = 2
in_order (reason.Therm c) = 3
in_order reason.NoTarget = 4
in_order (reason.SpinUp n) = 5
in_order (reason.Ramp r) = 6
in_order reason.Manual = 7
in_order (reason.Demand c) = 8

-- ---- what each reason states, with its own numbers

-- "the lowest channel", "the lowest-numbered": this one is below that
abbrev pub below : (this that : ChannelId) → Type 0
below this that = by_channel 0 1 2 this < by_channel 0 1 2 that

-- "slots left, direction and target"
unfoldable pub Away : (up : Bool) (left target duty : ℕ) → Type 0
Away true left target duty = duty + left ≡ target
Away false left target duty = duty ≡ target + left

unfoldable pub Fact : FanId → History → Reason → Type 0
-- "output disabled"
Fact f h reason.Disabled = output_bit f h ≡ false
-- "pin pulled low"
Fact f h reason.PinLow = pulled h ≡ true
-- "a THERM latch while the fan bit is set, with the lowest channel whose latch is on"
Fact f h (reason.Therm c) =
    (bit 0x3F 7 h ≡ true) × (latched c h ≡ true) × ((other : ChannelId) → below other c → latched other h ≡ false)
-- "target 0"
Fact f h reason.NoTarget = aim f h ≡ 0
-- "spinning up, with clocks left"
Fact f h (reason.SpinUp n) = (0 < n) × (clocks_left f h ≡ n)
-- "on the ramp, with slots left, direction and target"
Fact f h (reason.Ramp r) = (filter_bit f h ≡ true) × (aim f h ≡ r.target) × (0 < r.left) × Away r.up r.left r.target (duty_out f h)
-- "manual setting"
Fact f h reason.Manual = bit 0x00 7 h ≡ false
-- "demand of a channel, the lowest-numbered assigned one with the largest demand"
Fact f h (reason.Demand c) =
    (bit 0x00 7 h ≡ true) × (is_assigned f c h ≡ true)
    × ((other : ChannelId) → is_assigned f other h ≡ true → demanded f other h ≤ demanded f c h)
    × ((other : ChannelId) → below other c → is_assigned f other h ≡ true → demanded f other h < demanded f c h)

-- ---- the duty that a reason gives, by its numbers and by what a read of each address returns

-- the reading of a channel, in eighths of a degree; the code of a fan; what a channel demands
abbrev pub eighths_by : ChannelId → (read : ℕ → ℕ) → ℤ
eighths_by c read =
    (pos 8 *ℤ degrees (read (by_channel 0x0A 0x0B 0x0C c))) +ℤ pos (by_channel (2 * (read 0x06 / 64)) (read 0x06 % 8) (read 0x06 / 8 % 8) c)

abbrev pub code_by : FanId → (read : ℕ → ℕ) → ℕ
code_by f read = by_fan (read 0x22 % 16) (read 0x22 / 16) f

abbrev pub demand_by : FanId → (control : ℕ) → (eighths : ℤ) → (read : ℕ → ℕ) → ℕ
demand_by f control eighths read = min 240 (16 * code_by f read + 20 * excess (eighths -ℤ pos (8 * tmin_figure control)) / range_figure control)

-- bit 5 of 0x02, 0x03: the diode of a remote channel is in error (T-05)
abbrev pub error_by : ChannelId → (read : ℕ → ℕ) → Bool
error_by c read = by_channel false (bit_of (read 0x02) 5) (bit_of (read 0x03) 5) c

unfoldable pub duty_by : FanId → Reason → (read : ℕ → ℕ) → ℕ
duty_by f reason.Disabled read = 0
duty_by f reason.PinLow read = 240
duty_by f (reason.Therm c) read = 240
duty_by f reason.NoTarget read = 0
duty_by f (reason.SpinUp n) read = 240
duty_by f (reason.Ramp r) read = cond r.up (r.target - r.left) (r.target + r.left)
duty_by f reason.Manual read = 16 * code_by f read
duty_by f (reason.Demand c) read = cond (error_by c read) 240 (demand_by f (read (by_channel 0x24 0x25 0x26 c)) (eighths_by c read) read)

-- ---- what holds after every list

pub record PageReasons (h : History) : Type 0 where
  -- "Refusals: 1 and 3 as before": 1 before power, whatever the number; then 3 for a number that is no fan's; else a reason
  pub no_power : (n : ℤ) → power_on h ≡ false → why_number (told n h) ≡ 1
  pub no_fan : (n : ℤ) → power_on h ≡ true → one_of (1 ∷ 2 ∷ []) n ≡ false → why_number (told n h) ≡ 3
  pub given : (f : FanId) → power_on h ≡ true → why_number (told_of f h) ≡ 0
  -- the reasons have their numbers by the ticket's order
  pub numbered : (r : Reason) → reason_number r ≡ in_order r
  -- "The first of these that holds is given, and no other": it holds; none of an earlier place does; no other of its place does
  pub holds : (f : FanId) (r : Reason) → told_of f h ≡ Ok r → Fact f h r
  pub first : (f : FanId) (r other : Reason) → told_of f h ≡ Ok r → Fact f h other → in_order r ≤ in_order other
  pub only : (f : FanId) (r other : Reason) → told_of f h ≡ Ok r → Fact f h other → in_order other ≡ in_order r → other ≡ r
  -- "the reason, its numbers and the registers together give the duty in force"
  pub duty : (f : FanId) (r : Reason) → told_of f h ≡ Ok r → duty_by f r (λ a. register a h) ≡ duty_out f h
  -- "A refused event changes no reason."
  pub refused : (e : Event) (n : ℤ) → accepted e h ≡ false → told n (e ∷ h) ≡ told n h
