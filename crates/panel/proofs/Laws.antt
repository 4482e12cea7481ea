-- What the program prints has room, whatever the text. Assumes nothing.
use Prim.Native.Nat.{ℕ, ◌+◌, ◌≤◌}
use mathlib.Core.Path.{◌≡◌, ◌∙◌}
use mathlib.Core.List.{List}
use native.Mathlib.Nat.{zero-add}
use native.Mathlib.Omega.{arith}
use lib.ListN.{length}
use lib.Seq.{sets}
use Rattle.buffer.specs.Put.{put_of, held_of}
use Rattle.std.specs.Result.{result_unwrap_or}
use Rattle.event.specs.declared.Refusal.{Refusal}
use Rattle.std.specs.Prelude.{Result}
use Rattle.buffer.proofs.WholeLaws.{end_there, held_there}
use Rattle.display.specs.Displayed.{displayed}
use Rattle.display.proofs.LengthLaws.{lines_short}

module _ (text d : List ℕ) (room : 100 ≤ length d) where
  pub fits : 0 + length (displayed text) ≤ length d
  fits = omega (arith, lines_short text)

  pub end_is : {p : Result ℕ Refusal} {e : ℕ} → p ≡ put_of d 0 (displayed text) → e ≡ result_unwrap_or p 0 → e ≡ length (displayed text)
  end_is q h = end_there d (displayed text) 0 fits 0 q h ∙ zero-add (length (displayed text))

  pub held_is : {d' : List ℕ} → d' ≡ held_of d 0 (displayed text) → d' ≡ sets d 0 (displayed text)
  held_is h = held_there d (displayed text) 0 fits h
