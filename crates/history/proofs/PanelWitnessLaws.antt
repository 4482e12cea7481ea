-- The witnesses of T-06, computed. Assumes nothing.
use lib.IntN.{pos}
use lib.Ieee.{round, units, odd, size, span, climb}
use lib.Count.{count_trailing_zeros}
use mathlib.Core.List.{◌∷◌}
use Rattle.integer.specs.Bits.{merged_of}
use Rattle.part.specs.declared.ChannelId.TheVariants.{Remote1}
use Rattle.part.specs.declared.FanId.TheVariants.{One}
use Rattle.rules.specs.Registers.{says, table, exists_at, mask_at, reset_at, read_only_at}
use Rattle.rules.specs.Events.{ranges_of}
use Rattle.rules.specs.Stored.{powered, own_address, stored_at, diode_error}
use Rattle.rules.specs.Replies.{lowest, reply_to, taken}
use Rattle.rules.specs.Offsets.{measured_z}
use Rattle.rules.specs.Temperatures.{temperature}
use Rattle.rules.specs.Panels.{quotient_of, divisor_of, speed_of, figures, panel_for}
use Rattle.rules.specs.PageWords.{counted, reported}
use Rattle.history.specs.PanelWitness.{monitoring44, metered, ranged_anew, PanelWitness}
use Rattle.history.proofs.Agree.{agreement}

pub panel_witness : PanelWitness
unfolding taken reply_to lowest ranges_of exists_at read_only_at mask_at reset_at says table powered own_address stored_at diode_error temperature measured_z
    merged_of quotient_of divisor_of speed_of figures panel_for round units odd size span climb count_trailing_zeros
panel_witness =
    record {
      start = record { is = (agreement monitoring44).panel };
      figures = record { is = (agreement metered).panel };
      ranges = record { is = (agreement ranged_anew).panel };
      kept = record { is = (agreement (counted One (pos 256) ∷ reported Remote1 (pos 1) ∷ metered)).panel };
    }
