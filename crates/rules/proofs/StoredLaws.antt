-- Every stored byte is one, in every list of accepted events. Assumes nothing.
use Prim.Native.Nat.{ℕ, ◌-◌, ◌<◌}
use mathlib.Core.Path.{◌≡◌}
use mathlib.Core.Bool.{true, false, ◌&&◌}
use mathlib.Core.List.{◌∷◌}
use native.Mathlib.Omega.{arith}
use lib.Bits.{bit_and, and_le_r, or_lt}
use lib.Dec.{eqb}
use Rattle.integer.proofs.BoolLaws.{by_cases, either, both}
use Rattle.integer.specs.Bits.{merged_of}
use Rattle.part.specs.declared.FanId.TheVariants.{One, Two}
use Rattle.event.specs.Kinds.{is_kind}
use Rattle.event.specs.declared.Event.{Event}
use Rattle.event.specs.declared.Kind.TheVariants as kind
use Rattle.rules.specs.Registers.{speed_at, mask_at}
use Rattle.rules.specs.Events.{val, byte_given, measures, writes, restarts}
use Rattle.rules.specs.Stored.{Taken, counts, stored_at}
use Rattle.rules.specs.Replies.{out_of_range}
use Rattle.rules.proofs.RegisterLaws.{mask_small, reset_small}
use Rattle.rules.proofs.EventLaws.{up_to, val_lies}
use Rattle.rules.proofs.TakenLaws.{Took, none, more, went}

merged_byte : (mask was new : ℕ) → mask < 256 → merged_of mask was new < 256
unfolding merged_of
merged_byte mask was new h = or_lt 8 (bit_and was (255 - mask)) (bit_and new mask) (omega (arith, and_le_r was (255 - mask))) (omega (arith, and_le_r new mask))

-- a count for a speed register is a tach event
pub count_tach : (a : ℕ) (e : Event) → counts a e ≡ true → is_kind kind.Tach e ≡ true
count_tach a e y =
    by_cases (eqb a (speed_at One) && measures One e)
    (λ p. (both _ _ (both (eqb a (speed_at One)) _ p).1).0)
    (λ p. (both _ _ (both (eqb a (speed_at Two)) _ (rw p at y)).1).0)

pub count_small : (e : Event) → out_of_range e ≡ false → is_kind kind.Tach e ≡ true → byte_given e < 256
count_small e fine y = omega (arith, up_to 255 0 (val e) (val_lies e fine 5 y))

module _ (e : Event) (d : Taken) (fine : out_of_range e ≡ false) where
  byte_after : (a : ℕ) → stored_at a d < 256 → stored_at a (e ∷ d) < 256
  unfolding stored_at
  byte_after a was =
      either (λ x. x < 256) (restarts e) (reset_small a)
      (either (λ x. x < 256) (writes a e) (merged_byte (mask_at a) (stored_at a d) (byte_given e) (mask_small a))
      (by_cases (counts a e) (λ c. rw c (count_small e fine (count_tach a e c))) (λ c. rw c was)))

-- every stored byte is one
pub byte : (a : ℕ) {d : Taken} → Took d → stored_at a d < 256
byte a none = (unfold stored_at in omega arith)
byte a (more {e = e} {d = d} go t) = byte_after e d (went e d go).range a (byte a t)
