-- T-03 speaks of something: lists of events after which each of the reasons is told.
use Rattle.std.specs.Prelude.{◌≡◌, true, false, [], ◌∷◌, pos, Ok}
use Rattle.part.specs.declared.ChannelId.TheVariants.{Local, Remote1, Remote2}
use Rattle.part.specs.declared.FanId.{FanId}
use Rattle.part.specs.declared.FanId.TheVariants.{One, Two}
use Rattle.event.specs.declared.Reason.{Reason}
use Rattle.event.specs.declared.Reason.TheVariants as reason
use Rattle.rules.specs.Replies.{History}
use Rattle.rules.specs.PageWords.{power, write, sampled, turned, pulled_low, tenth, by_fan}
use Rattle.reason.specs.Reasoning.{why_of}
use Rattle.history.specs.Agreement.{run}

-- what the program tells of a fan
abbrev pub Tells : FanId → History → Reason → Type 0
Tells f h r = why_of (run h) (pos (by_fan 1 2 f)) ≡ Ok r

-- power at address 44; spin-ups of 2 clocks (0x20, 0x21)
abbrev pub powered44 : History
powered44 = write (pos 44) (pos 0x21) (pos 0x58) ∷ write (pos 44) (pos 0x20) (pos 0x58) ∷ power (pos 44) (pos 0) (pos 0) ∷ []

-- automatic, monitoring, all three channels to both fans (0x00); local at 40 degrees, 8 above its Tmin: a target of 208 slots
abbrev pub warm : History
warm = sampled Local (pos 320) ∷ write (pos 44) (pos 0x00) (pos 0xF1) ∷ powered44

-- the same with the filters on, at 4 slots a period (0x23)
abbrev pub warm_filtered : History
warm_filtered = write (pos 44) (pos 0x23) (pos 0x53) ∷ warm

-- fan 1's output disabled (0x01) while the pin is low
abbrev pub low_and_disabled : History
low_and_disabled = write (pos 44) (pos 0x01) (pos 0x7E) ∷ pulled_low ∷ warm

-- each remote channel to its own fan (0x00); remote 2 at 101 degrees, above its THERM limit; then local at 71, above its own
abbrev pub hot_remote : History
hot_remote = sampled Remote2 (pos 808) ∷ write (pos 44) (pos 0x00) (pos 0x91) ∷ powered44

abbrev pub hot_local : History
hot_local = sampled Local (pos 568) ∷ hot_remote

-- spun up, and two periods of fan 1; then local at 42 degrees, a target of 240 slots
abbrev pub ramp_down : History
ramp_down = turned One ∷ turned One ∷ tenth ∷ tenth ∷ warm_filtered

abbrev pub ramp_up : History
ramp_up = sampled Local (pos 336) ∷ ramp_down

-- set by hand (0x00), and spun up
abbrev pub by_hand : History
by_hand = tenth ∷ tenth ∷ write (pos 44) (pos 0x00) (pos 0x11) ∷ powered44

-- spun up by local's demand; then remote 1 at 56 degrees, which demands as much; at 56.25, which demands more
abbrev pub spun : History
spun = tenth ∷ tenth ∷ warm

abbrev pub equal : History
equal = sampled Remote1 (pos 448) ∷ spun

abbrev pub ahead : History
ahead = sampled Remote1 (pos 450) ∷ spun

pub record ReasonWitness : Type 0 where
  -- fan 1 by its output, fan 2 by the pin
  pub disabled : Tells One low_and_disabled reason.Disabled
  pub pin : Tells Two low_and_disabled reason.PinLow
  -- a latch of a channel that is not assigned; the lowest of two
  pub therm : Tells One hot_remote (reason.Therm Remote2)
  pub lowest : Tells Two hot_local (reason.Therm Local)
  -- nothing was measured
  pub none : Tells One powered44 reason.NoTarget
  -- a fan starts
  pub starts : Tells One warm (reason.SpinUp 2)
  pub spinning : Tells One (tenth ∷ warm) (reason.SpinUp 1)
  -- it comes down from 240 slots; the target rises above it
  pub down : Tells One ramp_down (reason.Ramp (record { left = 24; up = false; target = 208 }))
  pub up : Tells One ramp_up (reason.Ramp (record { left = 8; up = true; target = 240 }))
  pub manual : Tells One by_hand reason.Manual
  -- local's demand; of two that are equal the lower channel's, though the other is hotter; and the larger
  pub demand : Tells One spun (reason.Demand Local)
  pub lower : Tells Two equal (reason.Demand Local)
  pub larger : Tells Two ahead (reason.Demand Remote1)
