-- T-02 speaks of something: lists of events that meet the premises of its sentences, and a row in which an entry is found.
use Rattle.std.specs.Prelude.{ℕ, ◌≡◌, true, false, List, [], ◌∷◌, ◌++◌, pos}
use Rattle.part.specs.declared.ChannelId.TheVariants.{Local}
use Rattle.part.specs.declared.FanId.TheVariants.{One}
use Rattle.event.specs.declared.AlertEntry.{AlertEntry}
use Rattle.event.specs.declared.Event.{Event}
use Rattle.rules.specs.Replies.{History, accepted}
use Rattle.rules.specs.PageWords.{power, write, point, read, alert, sampled}
use Rattle.rules.specs.PageAlerts.{alerted, status_bit, AllQuiet, Unanswered}
use Rattle.rules.specs.PageAlertRow.{AllInside, AllDifferent, Lowest, row_number, row_data}
use Rattle.rules.specs.AlertRow.{row_after}
use Rattle.keeper.specs.Keeping.{shown_by}
use Rattle.history.specs.Agreement.{run}

-- INT as the program shows it
abbrev pub shown_int : History → ℕ
shown_int h = (shown_by (run h)).int

-- power at address 44; an alert that finds INT not asserted; monitoring, and INT enabled (0x00)
abbrev pub watching : History
watching = write (pos 44) (pos 0x00) (pos 0x93) ∷ alert (pos 44) (pos 0) (pos 0) ∷ power (pos 44) (pos 0) (pos 0) ∷ []

-- local at 61 degrees, one above its high limit
abbrev pub hot : Event
hot = sampled Local (pos 488)

-- what does not end it: INT disabled and enabled again, the same bit set again while it is 1, an alert of another keeper, a second alert of this one
abbrev pub quiet : List Event
quiet =
    alerted (pos 44) ∷ alerted (pos 45) ∷ hot ∷ write (pos 44) (pos 0x00) (pos 0x93) ∷ write (pos 44) (pos 0x00) (pos 0x91) ∷ []

-- the status bit read away
abbrev pub read_away : List Event
read_away = read (pos 44) (pos 0) (pos 0) ∷ point (pos 44) (pos 0x02) (pos 0) ∷ []

abbrev pub silent : History
silent = quiet ++ (alerted (pos 44) ∷ hot ∷ watching)

-- three keepers, of which two assert the line
abbrev pub line : List AlertEntry
line = record { address = 46; asserting = true } ∷ record { address = 44; asserting = false } ∷ record { address = 45; asserting = true } ∷ []

pub record AlertWitness : Type 0 where
  -- an alert before there is anything to tell leaves INT to rise later
  pub early : Unanswered (hot ∷ watching) []
  pub asserted : shown_int (hot ∷ watching) ≡ 1
  -- an alert that finds INT asserted, and a list over which it stays let go
  pub goes : accepted (alerted (pos 44)) (hot ∷ watching) ≡ true
  pub let_go : shown_int (alerted (pos 44) ∷ hot ∷ watching) ≡ 0
  pub stays : AllQuiet (read_away ++ quiet) (alerted (pos 44) ∷ hot ∷ watching)
  pub still : shown_int silent ≡ 0
  -- the bit is 1 all along; read away and set again it has gone from 0 to 1
  pub set : status_bit One 6 silent ≡ true
  pub gone : status_bit One 6 (read_away ++ silent) ≡ false
  pub again : status_bit One 6 (hot ∷ (read_away ++ silent)) ≡ true
  pub back : shown_int (hot ∷ (read_away ++ silent)) ≡ 1
  -- a row of different addresses inside 44 to 46, the lowest that asserts in its third place
  pub inside : AllInside line
  pub different : AllDifferent line
  pub lowest : Lowest 2 line
  pub found : (row_number line ≡ 0) × (row_data line ≡ 45)
  pub left :
      row_after line
      ≡ record { address = 46; asserting = true } ∷ record { address = 44; asserting = false } ∷ record { address = 45; asserting = false } ∷ []
