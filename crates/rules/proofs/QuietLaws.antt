-- What the registers but the status bytes show: readings and stored bytes. Assumes nothing.
use Prim.Native.Nat.{ℕ}
use mathlib.Core.Path.{◌≡◌}
use mathlib.Core.Bool.{false, ◌||◌, and-false}
use lib.Dec.{eqb}
use Rattle.integer.proofs.BoolLaws.{neither}
use Rattle.part.specs.declared.ChannelId.{ChannelId}
use Rattle.part.specs.declared.ChannelId.TheVariants.{Local, Remote1, Remote2}
use Rattle.event.specs.Kinds.{is_kind}
use Rattle.event.specs.declared.Event.{Event}
use Rattle.event.specs.declared.Kind.TheVariants as kind
use Rattle.rules.specs.Stored.{Taken, counts, stored_at}
use Rattle.rules.specs.Temperatures.{temperature}
use Rattle.rules.specs.Shows.{byte_at, value}

-- a count is a tach event
pub uncounted : (a : ℕ) (e : Event) → is_kind kind.Tach e ≡ false → counts a e ≡ false
uncounted a e q = rw (q, and-false (eqb a 0x08), and-false (eqb a 0x09))

-- a register but the status bytes shows readings and its stored byte
pub shows_alike :
    (a : ℕ) (d g : Taken) → (eqb a 0x02 || eqb a 0x03) ≡ false → stored_at a d ≡ stored_at a g → ((c : ChannelId) → temperature c d ≡ temperature c g) →
    value a d ≡ value a g
unfolding value byte_at
shows_alike a d g q s t =
    rw ((neither (eqb a 0x02) (eqb a 0x03) q).0, (neither (eqb a 0x02) (eqb a 0x03) q).1, s, t Local, t Remote1, t Remote2)
