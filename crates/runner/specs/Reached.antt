-- The keeper that a whole trace text leaves.
use Rattle.std.specs.Prelude.{ℕ, cond, List, ltb, length, Option, Some, None, Result, Err, ok_or}
use Rattle.event.specs.declared.Refusal.TheVariants as refusal
use Rattle.trace.specs.Whole.{Whole, Events, WrongLine, events_of}
use Rattle.history.specs.Agreement.{run}
use Rattle.keeper.specs.declared.Keeper.{Keeper}
use Rattle.event.specs.declared.Refusal.{Refusal}

-- that of its events; or that it is malformed
unfoldable pub reached_by : Whole → Option Keeper
reached_by (Events h) = Some (run h)
reached_by WrongLine = None

-- as a program takes a text: 11 for more than 65,536 bytes, then 10
unfoldable pub last_by : (text : List ℕ) → Result Keeper Refusal
unfolding reached_by
last_by text = cond (ltb 65536 (length text)) (Err refusal.WrongSize) (ok_or (reached_by (events_of text)) refusal.Malformed)
