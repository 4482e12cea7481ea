-- The page, T-06 of document 02: the panel, of registers and of events with their numbers.
use Rattle.std.specs.Prelude.{ℕ, ◌*◌, ◌/◌, ◌<◌, ◌≡◌, true, false, [], ◌∷◌, ℤ, get_or, Float, Result, Ok}
use Rattle.part.specs.declared.ChannelId.{ChannelId}
use Rattle.part.specs.declared.FanId.{FanId}
use Rattle.event.specs.declared.Event.{Event}
use Rattle.event.specs.declared.FanSpeed.{FanSpeed}
use Rattle.event.specs.declared.FanSpeed.TheVariants.{NotMeasured, Stalled, Speed}
use Rattle.event.specs.declared.Panel as panel
use Rattle.event.specs.declared.Refusal.{Refusal}
use Rattle.rules.specs.Replies.{History, taken, accepted}
use Rattle.rules.specs.Panels.{panel_for, panel_number}
use Rattle.rules.specs.Floats.{Exactly, Nearest}
use Rattle.rules.specs.PageWords.{sampled, Accepted, register, by_channel, by_fan, reading_figure}
use Rattle.rules.specs.PageReplies.{power_on}
use Rattle.rules.specs.PageReasons.{eighths_by}

-- what is told after a list
abbrev pub paneled : History → Result panel.Panel Refusal
paneled h = panel_for (taken h)

-- the temperature of a channel, the speed of a fan
abbrev pub degrees_on : ChannelId → panel.Panel → Float
degrees_on c p = by_channel p.local p.remote1 p.remote2 c

abbrev pub speed_on : FanId → panel.Panel → FanSpeed
speed_on f p = by_fan p.fan1 p.fan2 f

-- the count of a fan, and its range divisor by bits 7:6 of 0x20, 0x21
abbrev pub count_figure : FanId → History → ℕ
count_figure f h = register (by_fan 0x08 0x09 f) h

abbrev pub divisor_figure : FanId → History → ℕ
divisor_figure f h = get_or (1 ∷ 2 ∷ 4 ∷ 8 ∷ []) (register (by_fan 0x20 0x21 f) h / 64) 0

-- a speed that no f64 betters: the nearest to 675,000 over a product
unfoldable pub Turns : (product : ℕ) → FanSpeed → Type 0
Turns product (Speed x) = Nearest x 675000 product
Turns product NotMeasured = ⊥
Turns product Stalled = ⊥

pub record PagePanel (h : History) : Type 0 where
  -- "Refusals: 1 as before"; else there is a panel
  pub no_power : power_on h ≡ false → panel_number (paneled h) ≡ 1
  pub given : power_on h ≡ true → panel_number (paneled h) ≡ 0
  -- "A temperature is the reading over 8, exactly": the reading that the registers give back, and that a sample of t makes (T-01)
  pub temperature :
      (c : ChannelId) (p : panel.Panel) → paneled h ≡ Ok p → Exactly (degrees_on c p) (eighths_by c (λ a. register a h)) 8
  pub sample :
      (c : ChannelId) (t : ℤ) (p : panel.Panel) → Accepted (sampled c t) h → paneled (sampled c t ∷ h) ≡ Ok p →
      Exactly (degrees_on c p) (reading_figure c t h) 8
  -- "not measured (count 0), stalled (count 255), or a speed"
  pub not_measured : (f : FanId) (p : panel.Panel) → paneled h ≡ Ok p → count_figure f h ≡ 0 → speed_on f p ≡ NotMeasured
  pub stalled : (f : FanId) (p : panel.Panel) → paneled h ≡ Ok p → count_figure f h ≡ 255 → speed_on f p ≡ Stalled
  -- "A speed is 675,000 over the product of count and the fan's range divisor (1, 2, 4, 8), as one rounded division"
  pub speed :
      (f : FanId) (p : panel.Panel) → paneled h ≡ Ok p → 0 < count_figure f h → count_figure f h < 255 →
      Turns (count_figure f h * divisor_figure f h) (speed_on f p)
  -- a refused event changes no panel
  pub refused : (e : Event) → accepted e h ≡ false → paneled (e ∷ h) ≡ paneled h
