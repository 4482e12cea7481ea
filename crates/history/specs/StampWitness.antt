-- T-07 speaks of something: lists of events, with the stamp and the ages after each; one of them is so long that the ages are small again.
use Rattle.std.specs.Prelude.{ℕ, zero, suc, ◌≡◌, List, [], ◌∷◌, ◌++◌, pos, Ok}
use Rattle.part.specs.declared.FanId.TheVariants.{One}
use Rattle.part.specs.declared.ChannelId.TheVariants.{Local}
use Rattle.event.specs.declared.Event.{Event}
use Rattle.rules.specs.Replies.{History}
use Rattle.rules.specs.PageWords.{power, write, clock, sampled, tenth}
use Rattle.rules.specs.PageStamps.{tenths_in}
use Rattle.keeper.specs.Keeping.{stamp_by}
use Rattle.reason.specs.Aging.{aged_of}
use Rattle.history.specs.Agreement.{run}
use Rattle.history.specs.Demand3.{shown_duty}
use Rattle.history.specs.ReasonWitness.{powered44}

-- what the program tells after a list: the stamp, and the ages of both fans
pub record Dated (h : History) (now age1 age2 : ℕ) : Type 0 where
  pub stamp : stamp_by (run h) ≡ now
  pub fan1 : aged_of (run h) (pos 1) ≡ Ok age1
  pub fan2 : aged_of (run h) (pos 2) ≡ Ok age2

-- so many clock events
unfoldable pub tenths : ℕ → List Event
tenths zero = []
tenths (suc n) = tenth ∷ tenths n

-- three clocks after power; then automatic, monitoring, all channels to both fans (0x00), and local at 40 degrees: both start, with spin-ups of 2 clocks
abbrev pub started_late : History
started_late = sampled Local (pos 320) ∷ write (pos 44) (pos 0x00) (pos 0xF1) ∷ tenth ∷ tenth ∷ tenth ∷ powered44

-- three more, and between them one with a number that is not 0, which is refused
abbrev pub ran_on : History
ran_on = tenth ∷ tenth ∷ clock (pos 0) (pos 0) (pos 1) ∷ tenth ∷ started_late

-- fan 1's output disabled (0x01), and another clock; enabled again
abbrev pub stopped1 : History
stopped1 = tenth ∷ write (pos 44) (pos 0x01) (pos 0x7E) ∷ ran_on

abbrev pub again1 : History
again1 = write (pos 44) (pos 0x01) (pos 0x7F) ∷ stopped1

-- a software reset; a power
abbrev pub reset_then : History
reset_then = write (pos 44) (pos 0x01) (pos 0xFF) ∷ again1

abbrev pub power_then : History
power_then = power (pos 45) (pos 1) (pos 0) ∷ again1

-- 65,541 clocks, in which no fan starts
abbrev pub long_run : History
long_run = tenths 65541 ++ started_late

pub record StampWitness : Type 0 where
  pub starts : Dated started_late 3 0 0
  -- the spin-up ends meanwhile, and the age goes on
  pub on : Dated ran_on 6 3 3
  pub spinning : shown_duty One started_late ≡ 240
  pub turning : shown_duty One ran_on ≡ 208
  -- and at duty 0; it begins again where the fan does
  pub still : Dated stopped1 7 4 4
  pub rests : shown_duty One stopped1 ≡ 0
  pub again : Dated again1 7 0 4
  -- a reset keeps the stamp, a power does not, though its diode error starts fan 1
  pub reset : Dated reset_then 7 0 0
  pub power : Dated power_then 0 0 0
  pub broken : shown_duty One power_then ≡ 240
  -- it wraps: the ages are 5 after 65,541 clocks
  pub wraps : Dated long_run 8 5 5
  pub count : tenths_in (tenths 65541) started_late ≡ 65541
