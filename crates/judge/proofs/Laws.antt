-- The row of what is no kind, and the reply: the first test that is met gives it, whatever their number. Assumes nothing.
use Prim.Native.Nat.{ℕ}
use mathlib.Core.Bool.{Bool, true, false, cond}
use mathlib.Core.Path.{◌≡◌, refl, sym, ◌∙◌}
use Rattle.std.specs.Prelude.{Result, None}
use Rattle.event.specs.declared.Refusal.{Refusal}
use Rattle.rules.specs.Events.{ranges, unused}
use Rattle.judge.specs.Judged.{plain_ranges, row_of}

-- every number that is no kind's has the last row
pub row_last : plain_ranges (ranges unused unused unused) ≡ row_of None
unfolding row_of
row_last = refl

pub given : {b t : Bool} (a r : Result ℕ Refusal) → b ≡ t → b ≡ true → a ≡ cond t a r
given a r e y = rw (sym e ∙ y)

pub passed : {b t : Bool} {x : Result ℕ Refusal} (a r : Result ℕ Refusal) → b ≡ t → b ≡ false → x ≡ r → x ≡ cond t a r
passed a r e n q = q ∙ rw (sym e ∙ n)
