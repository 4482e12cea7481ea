-- The page: every sentence of document 01, and of T-01, T-02, T-03, T-05, T-06 and T-07 of document 02, that says what the chip does, a second
-- time, over events with their numbers and over what a user sees.
use Rattle.std.specs.Prelude.{List}
use Rattle.event.specs.declared.AlertEntry.{AlertEntry}
use Rattle.rules.specs.Replies.{History}
use Rattle.rules.specs.PageReplies.{PageReplies}
use Rattle.rules.specs.PageTemperatures.{PageTemperatures}
use Rattle.rules.specs.PageDuties.{PageDuties, PageTach}
use Rattle.rules.specs.PageStays.{PageStays}
use Rattle.rules.specs.PageOffsets.{PageOffsets}
use Rattle.rules.specs.PageAlerts.{PageAlerts}
use Rattle.rules.specs.PageAlertRow.{PageAlertRow}
use Rattle.rules.specs.PageReasons.{PageReasons}
use Rattle.rules.specs.PageDiodes.{PageDiodes}
use Rattle.rules.specs.PagePanel.{PagePanel}
use Rattle.rules.specs.PageStamps.{PageStamps}

pub record Page (h : History) : Type 0 where
  pub replies : PageReplies h
  pub temperatures : PageTemperatures h
  pub duties : PageDuties h
  pub tachs : PageTach h
  pub stays : PageStays h
  pub offsets : PageOffsets h
  pub alerts : PageAlerts h
  pub alert_row : (row : List AlertEntry) → PageAlertRow row
  pub reasons : PageReasons h
  pub diodes : PageDiodes h
  pub panel : PagePanel h
  pub stamps : PageStamps h
