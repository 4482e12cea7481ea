-- Every reading is in the range that is held. Assumes nothing.
use mathlib.Core.Path.{◌≡◌}
use Rattle.integer.specs.Range.{eighths_of}
use Rattle.std.specs.Prelude.{Some}
use Rattle.part.specs.declared.ChannelId.{ChannelId}
use Rattle.rules.specs.Stored.{Taken}
use Rattle.rules.specs.Temperatures.{temperature}
use Rattle.rules.proofs.ReadingLaws.{in_bytes}
use Rattle.reading.specs.Faithful.{Faithful}
use Rattle.reading.proofs.FaithfulLaws.{faithful}
use Rattle.input.specs.Inputs.{eighths_held}
use Rattle.history.proofs.AcceptedLaws.{in_range}

pub held : (d : Taken) (c : ChannelId) → eighths_of (temperature c d) ≡ Some (eighths_held (temperature c d))
held d c = in_range (temperature c d) (in_bytes c d)

pub stands : (d : Taken) (c : ChannelId) → Faithful (temperature c d) (eighths_held (temperature c d))
stands d c = faithful (temperature c d) (eighths_held (temperature c d)) (held d c)
