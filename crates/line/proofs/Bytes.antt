-- Laws of `same_bytes` of `specs/Line.antt`. Assumes nothing.
use Prim.Native.Nat.{ℕ}
use mathlib.Core.Path.{◌≡◌, refl, sym}
use mathlib.Core.List.{List, [], ◌∷◌}
use mathlib.Core.Bool.{Bool, true, false, ◌&&◌, true≢false}
use lib.Dec.{eqb}
use borrow.Author.Tests.{eq-eqb, eqb-true}
use Rattle.std.specs.Cmp.Lexicographic.{nat_list_eq_equiv}
use Rattle.line.specs.Line.{same_bytes}

pub same_self : (l : List ℕ) → same_bytes l l ≡ true
unfolding same_bytes
same_self [] = refl
same_self (b ∷ bs) = rw (eq-eqb b b refl) (same_self bs)

both : (a b : Bool) → (a && b) ≡ true → (a ≡ true) × (b ≡ true)
both true b h = (refl, h)
both false b h = absurd (true≢false (sym h))

pub same_then : (a b : List ℕ) → same_bytes a b ≡ true → a ≡ b
unfolding same_bytes
same_then [] [] h = refl
same_then [] (y ∷ ys) h = absurd (true≢false (sym h))
same_then (x ∷ xs) [] h = absurd (true≢false (sym h))
same_then (x ∷ xs) (y ∷ ys) h =
    let t = both (eqb x y) (same_bytes xs ys) h in
    rw (eqb-true x y t.0, same_then xs ys t.1)

pub same_symm : (a b : List ℕ) → same_bytes a b ≡ same_bytes b a
unfolding same_bytes
same_symm a b = nat_list_eq_equiv.symm a b
