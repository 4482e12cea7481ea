-- A result whose error was told otherwise, and what is written of the bytes of a reader. Assumes nothing.
use Rattle.std.proofs.Common.{◌≡◌, ◌∙◌, ℕ, List, take, true, false, cond, sym, ap, subst, Option, Some, None, Result, Ok, Err, IfOk, IfSome, arith}
use Rattle.std.specs.Result.{MatchResult, is_ok}
use Rattle.std.proofs.lemmas.List.Edits.{sets}
use Rattle.std.specs.Io.KnownBytes.{Appends}

pub still_ok : {T E D : Type 0} (Q : E → Type 0) (P : T → Type 0) (r : Result T E) {m : Result T D} {x : T}
    → MatchResult r (λ y. m ≡ Ok y) Q → is_ok m ≡ is_ok r → m ≡ Ok x → IfOk r P → P x
still_ok Q P (Ok y) {m} {x} same variant is p = let e : Ok y ≡ Ok x = sym same ∙ is in let here : y ≡ x = cc in subst P here p
still_ok Q P (Err e) same variant is p =
    let wrong : true ≡ false = sym (ap is_ok is) ∙ variant in
    let z : ◌≡◌ {A = ℕ} 1 0 = ap (λ b. cond b 1 0) wrong in
    absurd (omega (arith, z))

module _ (rule : List ℕ → List ℕ) (known old new : Option (List ℕ)) {text lines : List ℕ} where
  pub told : IfSome known (λ input. text ≡ take 65537 input) → lines ≡ rule text → Appends old new lines
      → IfSome known (λ input. Appends old new (rule (take 65537 input)))
  told = go known
    where
      go : (k : Option (List ℕ)) → IfSome k (λ input. text ≡ take 65537 input) → lines ≡ rule text → Appends old new lines
          → IfSome k (λ input. Appends old new (rule (take 65537 input)))
      go None read answer written = tt
      go (Some input) read answer written = subst (Appends old new) (answer ∙ ap rule read) written

module _ (rule : List ℕ → List ℕ) (known : Option (List ℕ)) (before text : List ℕ) {after : List ℕ} where
  pub put_for : IfSome known (λ input. text ≡ take 65537 input) → after ≡ sets before 0 (rule text)
      → IfSome known (λ input. after ≡ sets before 0 (rule (take 65537 input)))
  put_for = go known
    where
      go : (k : Option (List ℕ)) → IfSome k (λ input. text ≡ take 65537 input) → after ≡ sets before 0 (rule text)
          → IfSome k (λ input. after ≡ sets before 0 (rule (take 65537 input)))
      go None read put = tt
      go (Some input) read put = put ∙ ap (λ (l : List ℕ). sets before 0 (rule l)) read
