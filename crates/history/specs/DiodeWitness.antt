-- T-05 speaks of something: lists of events after which a diode is in error, and what the program then shows.
use Rattle.std.specs.Prelude.{◌≡◌, true, List, [], ◌∷◌, ◌++◌, pos}
use Rattle.part.specs.declared.ChannelId.TheVariants.{Local, Remote1, Remote2}
use Rattle.part.specs.declared.FanId.TheVariants.{One, Two}
use Rattle.event.specs.declared.Event.{Event}
use Rattle.event.specs.declared.Reason.TheVariants as reason
use Rattle.rules.specs.Replies.{History, taken, accepted}
use Rattle.rules.specs.Targets.{target}
use Rattle.rules.specs.PageWords.{power, write, point, read, alert, sampled, reported, turned, tenth, reply_number, error_status}
use Rattle.history.specs.Demand3.{shown_duty, spin_left}
use Rattle.history.specs.AlertWitness.{shown_int}
use Rattle.history.specs.ReasonWitness.{Tells}

-- power at address 44, the diode of remote 1 in error
abbrev pub powered_broken : History
powered_broken = power (pos 44) (pos 1) (pos 0) ∷ []

-- power at address 44, spin-ups of 2 clocks (0x20, 0x21), the minimum codes 0 (0x22); monitoring is off. Then the diode of remote 2 is found in error
abbrev pub plain44 : History
plain44 =
    write (pos 44) (pos 0x22) (pos 0x00) ∷ write (pos 44) (pos 0x21) (pos 0x58) ∷ write (pos 44) (pos 0x20) (pos 0x58)
    ∷ power (pos 44) (pos 0) (pos 0) ∷ []

abbrev pub unwatched : History
unwatched = reported Remote2 (pos 1) ∷ plain44

-- the summer at 21 degrees: monitoring, each remote channel to its own fan (0x00); remote 1 at 21 degrees; then its diode is found in error
abbrev pub cool21 : History
cool21 = sampled Remote1 (pos 168) ∷ write (pos 44) (pos 0x00) (pos 0x91) ∷ plain44

abbrev pub summer : History
summer = reported Remote1 (pos 1) ∷ cool21

abbrev pub two_tenths : List Event
two_tenths = tenth ∷ tenth ∷ []

-- the first status register read
abbrev pub status_read : List Event
status_read = read (pos 44) (pos 0) (pos 0) ∷ point (pos 44) (pos 0x02) (pos 0) ∷ []

-- a software reset (0x01)
abbrev pub summer_reset : History
summer_reset = write (pos 44) (pos 0x01) (pos 0x80) ∷ summer

-- remote 1 at 49 degrees, one above its Tmin, the filters on (0x23), spun up and at its target of 16 slots; then its diode is found in error
abbrev pub summer_ramp : History
summer_ramp = reported Remote1 (pos 1) ∷ write (pos 44) (pos 0x23) (pos 0x53) ∷ (two_tenths ++ (sampled Remote1 (pos 392) ∷ cool21))

-- INT enabled (0x00), local at 61 degrees, above its high limit, and an alert; then remote 1's diode is found in error
abbrev pub alerted_warm : History
alerted_warm = alert (pos 44) (pos 0) (pos 0) ∷ sampled Local (pos 488) ∷ write (pos 44) (pos 0x00) (pos 0x93) ∷ plain44

-- all three channels to both fans (0x00); local at 56 degrees demands 240 too; spun up
abbrev pub shared_warm : History
shared_warm = two_tenths ++ (sampled Local (pos 448) ∷ write (pos 44) (pos 0x00) (pos 0xF1) ∷ summer)

pub record DiodeWitness : Type 0 where
  -- power with an error acts at once, on fan 1 alone
  pub at_power : shown_duty One powered_broken ≡ 240
  pub other_fan : shown_duty Two powered_broken ≡ 0
  pub spins : spin_left One powered_broken ≡ 20
  -- found while monitoring is off: fan 2 is full, with minimum code 0
  pub goes : accepted (reported Remote2 (pos 1)) plain44 ≡ true
  pub unseen : shown_duty Two unwatched ≡ 240
  pub alone : shown_duty One unwatched ≡ 0
  -- the summer: the fan stands still at 21 degrees; the error is found, and it is full, during the spin-up and after it
  pub still : shown_duty One cool21 ≡ 0
  pub found : shown_duty One summer ≡ 240
  pub stays : shown_duty One (two_tenths ++ summer) ≡ 240
  pub told : Tells One (two_tenths ++ summer) (reason.Demand Remote1)
  -- a sample of it gets 13, one of another channel is accepted; while monitoring is off 9 comes first
  pub refused : reply_number (sampled Remote1 (pos 168)) summer ≡ 13
  pub others : reply_number (sampled Remote2 (pos 168)) summer ≡ 0
  pub nine : reply_number (sampled Remote2 (pos 168)) unwatched ≡ 9
  -- a read of the status register and a software reset leave the error
  pub read : error_status Remote1 (status_read ++ summer) ≡ true
  pub reset : error_status Remote1 summer_reset ≡ true
  pub full : shown_duty One summer_reset ≡ 240
  -- mended, the fan stands still again, and samples are accepted
  pub mended : shown_duty One (reported Remote1 (pos 0) ∷ summer) ≡ 0
  pub back : reply_number (sampled Remote1 (pos 168)) (reported Remote1 (pos 0) ∷ summer) ≡ 0
  -- a filtered fan that turns goes to 240 by its periods
  pub before : shown_duty One summer_ramp ≡ 16
  pub aims : target One (taken summer_ramp) ≡ 240
  pub after : shown_duty One (turned One ∷ turned One ∷ summer_ramp) ≡ 24
  -- the error found brings INT back
  pub quiet : shown_int alerted_warm ≡ 0
  pub rises : shown_int (reported Remote1 (pos 1) ∷ alerted_warm) ≡ 1
  -- of two that demand 240 the lower channel is named
  pub lower : Tells One shared_warm (reason.Demand Local)
