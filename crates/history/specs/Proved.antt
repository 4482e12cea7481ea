-- Read this first: all that is proved of the keeper, for every list of events, the newest first, refused ones included.
use Rattle.std.specs.Prelude.{◌<◌}
use Rattle.event.specs.declared.Event.{Event}
use Rattle.rules.specs.Replies.{History}
use Rattle.rules.specs.Page.{Page}
use Rattle.keeper.specs.Keeping.{standing_of}
use Rattle.keeper.specs.declared.Keeper.{Keeper}
use Rattle.history.specs.Demand1.{Demand1}
use Rattle.history.specs.Agreement.{Agreement}
use Rattle.history.specs.Readback.{Readback}
use Rattle.history.specs.Demand3.{Demand3}
use Rattle.history.specs.MovingTarget.{MovingTarget}
use Rattle.history.specs.Alerts.{Alerts}
use Rattle.history.specs.Counts.{Counts}
use Rattle.history.specs.Diodes.{Diodes}
use Rattle.history.specs.Bounds.{Bounds}
use Rattle.history.specs.Witness.{Witness}

pub record Proved (h : History) : Type 0 where
  -- demand 1: every event gets the lowest reply that applies, and a refusal changes nothing; of every keeper, whose own address is a byte
  pub demand1 : (k : Keeper) (e : Event) → (standing_of k).address < 256 → Demand1 k e
  -- demand 2: every answer, output and register image is that of the rules over the list; T-03, T-06,
  -- T-07: so are the reason for a fan's duty, the panel, the stamp and the ages
  pub agreement : Agreement h
  -- demand 2: readings and register bytes turn into each other without loss
  pub readback : Readback h
  -- demand 3: full under override, else at the target, by the ramp's formula where filtered
  pub demand3 : Demand3 h
  -- T-13: the same of a target that moves in an interval; demand 3's stretch is the case of one slot
  pub moving_target : MovingTarget h
  -- T-02: an alert lets INT go, and changes nothing else
  pub alerts : Alerts h
  -- T-05: a repeated report on a diode, and a sample of a channel in error, leave the keeper
  pub diodes : Diodes h
  -- the rules say what document 01, and T-01, T-02, T-03, T-05, T-06 and T-07 of document 02, say, sentence by sentence
  pub page : Page h
  -- the engine's counts are those taken from the list
  pub counts : Counts h
  -- every register value is a byte, and no duty is above 240 slots
  pub bounds : Bounds h
  -- the premises of demand 3, of T-13 and of the sentences of T-01, T-02, T-03, T-05, T-06 and T-07 can be met
  pub witness : Witness
