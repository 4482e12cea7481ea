-- Laws of bytes that stand in a text at an index. Assumes nothing.
use Prim.Native.Nat.{ℕ, ◌+◌, ◌<◌}
use mathlib.Core.Path.{◌≡◌, sym, ap, ◌∙◌}
use mathlib.Core.Bool.{Bool, true, false}
use mathlib.Core.List.{List, ◌++◌}
use native.Mathlib.Omega.{arith}
use lib.ListN.{length, take, drop, length-take, length-drop, take-append-drop}
use lib.Seq.{take-append_seam}
use Rattle.line.specs.Line.{same_bytes}
use Rattle.line.proofs.Bytes.{same_self, same_then}

-- ---- the same bytes

module _ (b s : List ℕ) (at : ℕ) where
  module _ {r : Bool} (e : r ≡ same_bytes (take (length b) (drop at s)) b) where
    pub stands_then : r ≡ true → drop at s ≡ b ++ drop (length b) (drop at s)
    stands_then h =
        sym (take-append-drop (length b) (drop at s))
        ∙ ap (λ (l : List ℕ). l ++ drop (length b) (drop at s)) (same_then (take (length b) (drop at s)) b (sym e ∙ h))

    pub stands_not : r ≡ false → (after : List ℕ) → drop at s ≡ b ++ after → ⊥
    stands_not h after q =
        let y : same_bytes (take (length b) (drop at s)) b ≡ true = rw (q, take-append_seam) (same_self b) in
        let z : ◌≡◌ {A = ℕ} 0 1 = cc in
        omega arith

    -- behind them is an index
    pub stands_fits : {m : ℕ} → r ≡ true → at < m → length s < m → at + length b < m
    stands_fits h p q =
        let n : length (take (length b) (drop at s)) ≡ length b = ap length (same_then (take (length b) (drop at s)) b (sym e ∙ h)) in
        omega (arith, length-take (length b) (drop at s), length-drop at s)
