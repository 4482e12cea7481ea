-- What is said of an f64, a value of IEEE 754's binary64: that it is a quotient of whole numbers exactly; that none is nearer to a quotient.
use Rattle.std.specs.Prelude.{ℕ, suc, ◌+◌, ◌-◌, ◌*◌, ◌≤◌, Bool, true, false, T, ℤ, pos, negsuc, Float}
use Rattle.std.specs.Float.{nan, inf, fin, binary64}
use Rattle.std.specs.Float.Ieee.{up, down, fits}
use Rattle.std.specs.Float.Ieee.Exact.{HasValue}

-- the value of x is num / den
abbrev pub Exactly : Float → (num : ℤ) (den : ℕ) → Type 0
Exactly x (pos n) den = HasValue x false n den
Exactly x (negsuc n) den = HasValue x true (suc n) den

-- how far m 2^e, negative where the sign is true, is from num / den; 2^e is up e / down e, and what is here is over down e and den
abbrev pub apart : (sign : Bool) (m : ℕ) (e : ℤ) (num den : ℕ) → ℕ
apart false m e num den = (m * up e * den - num * down e) + (num * down e - m * up e * den)
apart true m e num den = m * up e * den + num * down e

-- x is a number, and y is no nearer to num / den
abbrev pub NoFarther : (x y : Float) (num den : ℕ) → Type 0
NoFarther (fin s m e) (fin t n d) num den = apart s m e num den * down d ≤ apart t n d num den * down e
NoFarther (fin s m e) (inf t) num den = Unit {0}
NoFarther (fin s m e) nan num den = Unit {0}
NoFarther (inf s) y num den = ⊥
NoFarther nan y num den = ⊥

-- x is an f64, and no other is nearer to num / den
pub record Nearest (x : Float) (num den : ℕ) : Type 0 where
  pub held : T (fits binary64 x)
  pub least : (y : Float) → T (fits binary64 y) → NoFarther x y num den
