use mathlib.Core.Path.{◌≡◌}
use lib.Seq.{sets}
use Rattle.keeper.specs.Keeping.{image_from}
use Rattle.keeper.proofs.fill.Given as goal

abbrev pub invariant-loop-a : goal.invariant-loop-a
invariant-loop-a l = l.buffer ≡ sets l.initial.buffer 0 (image_from 0 l.a l.c)
