-- Laws of the lines that name a kind, in `specs/Words.antt`. Assumes nothing.
use Prim.Native.Nat.{ℕ, ◌≤◌, ◌-◌}
use native.Mathlib.Omega.{arith}
use mathlib.Core.Path.{◌≡◌, refl}
use mathlib.Core.Bool.{Bool, true}
use borrow.Author.Tests.{leb-true}
use lib.Dec.{leb}
use lib.ListN.{length, take, drop}
use Rattle.std.proofs.lemmas.List.{take_all}
use Rattle.event.specs.declared.Kind.{Kind}
use Rattle.event.specs.Kinds.{kinds, kind_at, place_of}
use Rattle.event.proofs.Laws.{passes, passed, kind_back, place_small}
use Rattle.trace.specs.Words.{word_of, kind_text}

-- kind= and a word: the shortest is pin
is_long : ℕ → Bool
is_long p = leb 8 (length (kind_text (kind_at p)))

longs : passes is_long (length kinds) ≡ true
unfolding passes is_long
longs = refl

pub kind_long : (k : Kind) → 8 ≤ length (kind_text k)
unfolding is_long
kind_long k = leb-true 8 (length (kind_text k)) (rw (kind_back k) at (passed is_long (length kinds) longs (place_of k) (place_small k)))

-- the longest are sample and period
is_short : ℕ → Bool
is_short p = leb (length (kind_text (kind_at p))) 11

shorts : passes is_short (length kinds) ≡ true
unfolding passes is_short
shorts = refl

pub kind_short : (k : Kind) → length (kind_text k) ≤ 11
unfolding is_short
kind_short k = leb-true (length (kind_text k)) 11 (rw (kind_back k) at (passed is_short (length kinds) shorts (place_of k) (place_small k)))

-- what stands behind kind= is the word
pub word_left : (k : Kind) → take (length (kind_text k) - 5) (drop 5 (kind_text k)) ≡ word_of k
word_left k = take_all (length (kind_text k) - 5) (word_of k) (omega arith)
