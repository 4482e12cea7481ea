-- Demand 3 and T-13 speak of something: lists whose stretch meets every premise, with a gap and periods above 0. So do T-01: samples under offsets,
-- T-02: alerts, T-03: reasons, T-05: diode errors, T-06: panels, and T-07: stamps.
use Rattle.std.specs.Prelude.{◌≡◌, true, false, List, [], ◌∷◌, ◌++◌, ℤ, pos, negsuc}
use Rattle.part.specs.declared.ChannelId.{ChannelId}
use Rattle.part.specs.declared.ChannelId.TheVariants.{Local, Remote1, Remote2}
use Rattle.part.specs.declared.FanId.TheVariants.{One, Two}
use Rattle.event.specs.declared.Event.{Event}
use Rattle.rules.specs.Replies.{History, taken, accepted}
use Rattle.rules.specs.Temperatures.{temperature}
use Rattle.rules.specs.Targets.{target, overridden}
use Rattle.rules.specs.Duties.{enabled, filtered, rate, duty, failures}
use Rattle.rules.specs.PageWords.{power, write, point, read, alert, sampled, reported, counted, turned, pulled_low, let_go, tenth}
use Rattle.drive.specs.Ramp.{outside}
use Rattle.history.specs.Demand3.{shown_duty, spin_left, periods_in, Stretch}
use Rattle.history.specs.MovingTarget.{MovingStretch}
use Rattle.history.specs.AlertWitness.{AlertWitness}
use Rattle.history.specs.ReasonWitness.{ReasonWitness}
use Rattle.history.specs.DiodeWitness.{DiodeWitness}
use Rattle.history.specs.PanelWitness.{PanelWitness}
use Rattle.history.specs.StampWitness.{StampWitness}

-- power at address 44; a spin-up of 2 clocks (0x20); manual setting of 5 x 16 slots (0x00): the fan starts
abbrev pub started : History
started = write (pos 44) (pos 0x00) (pos 0x10) ∷ write (pos 44) (pos 0x20) (pos 0x58) ∷ power (pos 44) (pos 0) (pos 0) ∷ []

-- the same with fan 1's filter on, at 4 slots a period (0x23)
abbrev pub started_filtered : History
started_filtered = write (pos 44) (pos 0x23) (pos 0x51) ∷ started

-- the clocks of the spin-up
abbrev pub spun_up : List Event
spun_up = tenth ∷ tenth ∷ []

-- what a stretch of fan 1 may hold: a read of a status register, an alert, a count of each fan, the pin let go, a sample of another channel, a diode of
-- another channel found in error, a period of the other fan; and a write and a power that are refused
abbrev pub passing : List Event
passing =
    read (pos 44) (pos 0) (pos 0) ∷ point (pos 44) (pos 0x02) (pos 0) ∷ alert (pos 44) (pos 0) (pos 0) ∷ counted Two (pos 200) ∷ counted One (pos 100)
    ∷ let_go ∷ sampled Local (pos 160) ∷ reported Remote2 (pos 1) ∷ turned Two ∷ write (pos 45) (pos 0x00) (pos 0) ∷ power (pos 47) (pos 0) (pos 0) ∷ []

-- two periods, and all that between them
abbrev pub ramped_down : List Event
ramped_down = turned One ∷ (passing ++ (turned One ∷ []))

-- power at address 44; spin-ups of 2 clocks (0x20, 0x21); counts of fan 2 fail above 100 (0x11); 13 x 16 slots at Tmin (0x22); automatic, monitoring, and
-- remote 1 to both fans (0x00); remote 1 at 49 degrees, one above its Tmin: a target of 224 slots, and the fans start
abbrev pub heated : History
heated =
    sampled Remote1 (pos 392) ∷ write (pos 44) (pos 0x00) (pos 0xB1) ∷ write (pos 44) (pos 0x22) (pos 0xDD) ∷ write (pos 44) (pos 0x11) (pos 100)
    ∷ write (pos 44) (pos 0x21) (pos 0x58) ∷ write (pos 44) (pos 0x20) (pos 0x58) ∷ power (pos 44) (pos 0) (pos 0) ∷ []

abbrev pub heated_filtered : History
heated_filtered = write (pos 44) (pos 0x23) (pos 0x51) ∷ heated

-- two periods; between them a sample takes the target to 232 slots, and all that a stretch may hold happens
abbrev pub reached : List Event
reached = turned One ∷ (passing ++ (sampled Remote1 (pos 396) ∷ turned One ∷ []))

-- then a sample takes the target to 216 slots; a third period
abbrev pub followed : List Event
followed = turned One ∷ sampled Remote1 (pos 388) ∷ reached

-- then a sample takes the target to 238 slots; two periods, between which another takes it to 236
abbrev pub raised : History
raised = sampled Remote1 (pos 399) ∷ (followed ++ (spun_up ++ heated_filtered))

abbrev pub ramped_up : List Event
ramped_up = turned One ∷ sampled Remote1 (pos 398) ∷ turned One ∷ []

-- power at address 44 and monitoring (0x00); an offset of 15 degrees less for remote 1 (0x0E), of 15 more for local (0x0D)
abbrev pub offsets : History
offsets =
    write (pos 44) (pos 0x0D) (pos 0x0F) ∷ write (pos 44) (pos 0x0E) (pos 0x8F) ∷ write (pos 44) (pos 0x00) (pos 0x91)
    ∷ power (pos 44) (pos 0) (pos 0) ∷ []

-- the reading after a sample of t that is accepted
pub record Reads (c : ChannelId) (t reading : ℤ) : Type 0 where
  pub goes : accepted (sampled c t) offsets ≡ true
  pub then : temperature c (taken (sampled c t ∷ offsets)) ≡ reading

-- the premises of T-13
pub record MovingWitness : Type 0 where
  -- a filtered fan: the target moves from 224 slots to 232 and to 216, the duty comes down from 240: a gap of 8 slots, three periods of 4
  pub stretch : MovingStretch One 216 232 (followed ++ spun_up) heated_filtered
  pub spin : spin_left One heated_filtered ≡ 2
  pub ready : spin_left One (spun_up ++ heated_filtered) ≡ 0
  pub filter : filtered One (taken (spun_up ++ heated_filtered)) ≡ true
  pub first : target One (taken (spun_up ++ heated_filtered)) ≡ 224
  pub last : target One (taken (followed ++ (spun_up ++ heated_filtered))) ≡ 216
  pub gap : outside 216 232 (duty One (taken (spun_up ++ heated_filtered))) ≡ 8
  pub periods : periods_in One followed (spun_up ++ heated_filtered) ≡ 3
  pub ramp : rate (taken (spun_up ++ heated_filtered)) ≡ 4
  -- the first of them leaves the duty outside, the second takes it to the edge, and it stays inside when the target moves on
  pub outer : shown_duty One (turned One ∷ (spun_up ++ heated_filtered)) ≡ 236
  pub edge : shown_duty One (reached ++ (spun_up ++ heated_filtered)) ≡ 232
  pub shown : shown_duty One (followed ++ (spun_up ++ heated_filtered)) ≡ 228
  -- a measurement of the other fan failed meanwhile
  pub failure : failures Two (taken (reached ++ (spun_up ++ heated_filtered))) ≡ 1
  -- from the other side: up from 228 to 236, in two periods
  pub stretch_up : MovingStretch One 236 238 ramped_up raised
  pub ready_up : spin_left One raised ≡ 0
  pub gap_up : outside 236 238 (duty One (taken raised)) ≡ 8
  pub periods_up : periods_in One ramped_up raised ≡ 2
  pub shown_up : shown_duty One (ramped_up ++ raised) ≡ 236
  -- an unfiltered fan
  pub stretch_flat : MovingStretch One 216 232 (followed ++ spun_up) heated
  pub ready_flat : spin_left One (spun_up ++ heated) ≡ 0
  pub unfiltered : filtered One (taken (spun_up ++ heated)) ≡ false
  pub shown_flat : shown_duty One (followed ++ (spun_up ++ heated)) ≡ 216

pub record Witness : Type 0 where
  -- a filtered fan: a stretch at 80 slots, begun at 240, and two periods of 4 slots
  pub stretch : Stretch One 80 (ramped_down ++ spun_up) started_filtered
  pub ready : spin_left One (spun_up ++ started_filtered) ≡ 0
  pub filter : filtered One (taken (spun_up ++ started_filtered)) ≡ true
  pub gap : outside 80 80 (duty One (taken (spun_up ++ started_filtered))) ≡ 160
  pub periods : periods_in One ramped_down (spun_up ++ started_filtered) ≡ 2
  pub ramp : rate (taken (spun_up ++ started_filtered)) ≡ 4
  pub shown : shown_duty One (ramped_down ++ (spun_up ++ started_filtered)) ≡ 232
  -- the spin-up before it, of 2 clocks
  pub spin : spin_left One started_filtered ≡ 2
  -- an unfiltered fan
  pub stretch_flat : Stretch One 80 (ramped_down ++ spun_up) started
  pub ready_flat : spin_left One (spun_up ++ started) ≡ 0
  pub unfiltered : filtered One (taken (spun_up ++ started)) ≡ false
  pub shown_flat : shown_duty One (ramped_down ++ (spun_up ++ started)) ≡ 80
  -- a fan under override
  pub on : enabled Two (taken (pulled_low ∷ started)) ≡ true
  pub over : overridden (taken (pulled_low ∷ started)) ≡ true
  pub full : shown_duty Two (pulled_low ∷ started) ≡ 240
  -- a target that moves
  pub moving : MovingWitness
  -- samples under an offset: added, subtracted, held above, held below
  pub added : Reads Local (pos 160) (pos 280)
  pub subtracted : Reads Remote1 (pos 160) (pos 40)
  pub above : Reads Local (pos 1022) (pos 1022)
  pub below : Reads Remote1 (negsuc 1000) (negsuc 1023)
  -- alerts
  pub alerts : AlertWitness
  -- reasons
  pub reasons : ReasonWitness
  -- diode errors
  pub diodes : DiodeWitness
  -- panels
  pub panels : PanelWitness
  -- stamps and ages
  pub stamps : StampWitness
