-- The number that C callers get follows the answer. Assumes nothing.
use Prim.Native.Nat.{ℕ}
use mathlib.Core.Path.{◌≡◌, ap, ◌∙◌}
use Rattle.event.specs.Answers.{number_of}
use Rattle.event.specs.declared.Refusal.{Refusal}
use Rattle.std.specs.Prelude.{Result}
use Rattle.std.specs.Result.{result_unwrap_or}

pub ended : {p q : Result ℕ Refusal} {n : ℕ} (other : ℕ) → p ≡ q → n ≡ result_unwrap_or p other → n ≡ result_unwrap_or q other
ended other a b = b ∙ ap (λ (x : Result ℕ Refusal). result_unwrap_or x other) a

pub numbered : {p q : Result ℕ Refusal} {n : ℕ} → p ≡ q → n ≡ number_of p → n ≡ number_of q
numbered a b = b ∙ ap number_of a
