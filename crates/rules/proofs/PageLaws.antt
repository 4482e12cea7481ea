-- The page, for every list. Assumes nothing.
use Rattle.rules.specs.Replies.{History}
use Rattle.rules.specs.Page.{Page}
use Rattle.rules.proofs.PageRepliesLaws.{page_replies}
use Rattle.rules.proofs.PageTemperaturesLaws.{page_temperatures}
use Rattle.rules.proofs.PageDutiesLaws.{page_duties}
use Rattle.rules.proofs.PageTachLaws.{page_tach}
use Rattle.rules.proofs.PageStaysLaws.{page_stays}
use Rattle.rules.proofs.PageOffsetsLaws.{page_offsets}
use Rattle.rules.proofs.PageAlertsLaws.{page_alerts}
use Rattle.rules.proofs.PageAlertRowLaws.{page_alert_row}
use Rattle.rules.proofs.PageReasonsLaws.{page_reasons}
use Rattle.rules.proofs.PageDiodesLaws.{page_diodes}
use Rattle.rules.proofs.PagePanelLaws.{page_panel}
use Rattle.rules.proofs.PageStampsLaws.{page_stamps}

pub page : (h : History) → Page h
page h =
    record {
      replies = page_replies h;
      temperatures = page_temperatures h;
      duties = page_duties h;
      tachs = page_tach h;
      stays = page_stays h;
      offsets = page_offsets h;
      alerts = page_alerts h;
      alert_row = page_alert_row;
      reasons = page_reasons h;
      diodes = page_diodes h;
      panel = page_panel h;
      stamps = page_stamps h;
    }
