-- The panel of the keeper that the rules describe is the one that they tell. Assumes nothing.
use Prim.Native.Nat.{◌+◌, ◌-◌}
use mathlib.Core.Path.{◌≡◌, ap}
use mathlib.Core.Bool.{true}
use native.Mathlib.Omega.{arith}
use lib.Dec.{leb}
use lib.IntN.{ℤ, pos, negsuc}
use borrow.Author.Tests.{lt-ltb, le-ltb, leb-true}
use Rattle.integer.specs.Range.{eighths_of}
use Rattle.integer.proofs.BoolLaws.{by_cases, both}
use Rattle.part.specs.declared.ChannelId.{ChannelId}
use Rattle.part.specs.declared.ChannelId.TheVariants.{Local, Remote1, Remote2}
use Rattle.rules.specs.Events.{from_to, lies}
use Rattle.rules.specs.Stored.{Taken, powered}
use Rattle.rules.specs.Temperatures.{temperature}
use Rattle.rules.specs.Panels.{figures, panel_for}
use Rattle.rules.proofs.ReadingLaws.{in_bytes}
use Rattle.input.specs.Inputs.{eighths_held}
use Rattle.gauge.specs.Gauges.{unheld_of, panel_in, paneled_of}
use Rattle.history.proofs.State.{registers_by, fan_registers_by, channel_by, channels_by, chip_by, device_by, state_by}

-- a reading that is held with 1024 added is that reading
held_back : (t : ℤ) → lies (from_to (negsuc 1023) (pos 1023)) t ≡ true → unheld_of (eighths_held t) ≡ t
unfolding eighths_of
held_back (pos n) y =
    let h = leb-true n 1023 y in
    rw (lt-ltb n 1024 (omega arith), le-ltb (1024 + n) 1024 (omega arith)) (ap pos (omega arith))
held_back (negsuc n) y =
    let h = leb-true n 1023 (both (leb n 1023) true y).0 in
    rw (lt-ltb n 1024 (omega arith), lt-ltb (1023 - n) 1024 (omega arith)) (ap negsuc (omega arith))

module _ (d : Taken) where
  reading_is : (c : ChannelId) → unheld_of (channel_by c d).reading ≡ temperature c d
  unfolding channel_by
  reading_is c = held_back (temperature c d) (in_bytes c d)

  figures_are : panel_in (chip_by d) ≡ figures d
  unfolding panel_in figures chip_by registers_by fan_registers_by channels_by
  figures_are = rw (reading_is Local, reading_is Remote1, reading_is Remote2)

  pub panel_is : paneled_of (state_by d) ≡ panel_for d
  unfolding paneled_of panel_for state_by device_by
  panel_is = by_cases (powered d) (λ on. rw (on, figures_are)) (λ off. rw off)
