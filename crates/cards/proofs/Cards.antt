-- Every bench card holds: all but two compute. Assumes nothing.
use Prim.Native.Nat.{ℕ, ◌<◌}
use mathlib.Core.Path.{◌≡◌, refl}
use mathlib.Core.Bool.{Bool, true, false, cond}
use native.Mathlib.Omega.{arith}
use borrow.Author.Tests.{leb-true, le-ltb}
use lib.Dec.{ltb}
use lib.IntN.{ℤ, pos, negsuc}
use lib.Signed.{le_z}
use Rattle.rules.specs.Temperatures.{hysteresis}
use Rattle.rules.specs.Duties.{nearer}
use Rattle.drive.specs.Ramp.{ramped}
use Rattle.drive.specs.Tach.{failed_of}
use Rattle.cards.specs.Cards.{cards, Hold}

-- no reading is more than five degrees below -123
kept : (t : ℤ) → le_z (negsuc 1023) t ≡ true → hysteresis true (negsuc 122) t ≡ true
kept (pos n) h = refl
kept (negsuc n) h = rw (le-ltb 1023 n (leb-true n 1023 h)) (either (ltb n 983))
  where
    either : (t : Bool) → cond t true true ≡ true
    either true = refl
    either false = refl

never : (count : ℕ) → count < 256 → failed_of true 255 count ≡ false
never count h = le-ltb 255 count (omega arith)

infixr 5 ◌and◌
◌and◌ : {A B : Type 0} → A → B → A × B
p and q = (p, q)

-- in the order of the list
pub all_hold : Hold cards
unfolding nearer ramped
all_hold =
    refl and refl and refl and refl and refl and refl and refl and refl
    and refl and refl and refl and refl
    and refl and refl and refl and refl
    and kept
    and (refl, refl) and (refl, refl)
    and refl and refl and refl
    and refl and refl and never
    and tt
