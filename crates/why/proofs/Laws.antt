-- What the program prints has room, whatever the text. Assumes nothing.
use Prim.Native.Nat.{ℕ, ◌+◌, ◌≤◌}
use mathlib.Core.Path.{◌≡◌, ◌∙◌}
use mathlib.Core.List.{List}
use native.Mathlib.Nat.{zero-add}
use native.Mathlib.Omega.{arith}
use lib.ListN.{length}
use lib.Seq.{sets}
use Rattle.buffer.specs.Put.{put_of, held_of}
use Rattle.std.specs.Result.{result_unwrap_or}
use Rattle.event.specs.declared.Refusal.{Refusal}
use Rattle.std.specs.Prelude.{Result}
use Rattle.buffer.proofs.WholeLaws.{end_there, held_there}
use Rattle.explainer.specs.Explained.{explained}
use Rattle.explainer.proofs.LengthLaws.{lines_short}

module _ (text d : List ℕ) (room : 74 ≤ length d) where
  pub fits : 0 + length (explained text) ≤ length d
  fits = omega (arith, lines_short text)

  pub end_is : {p : Result ℕ Refusal} {e : ℕ} → p ≡ put_of d 0 (explained text) → e ≡ result_unwrap_or p 0 → e ≡ length (explained text)
  end_is q h = end_there d (explained text) 0 fits 0 q h ∙ zero-add (length (explained text))

  pub held_is : {d' : List ℕ} → d' ≡ held_of d 0 (explained text) → d' ≡ sets d 0 (explained text)
  held_is h = held_there d (explained text) 0 fits h
