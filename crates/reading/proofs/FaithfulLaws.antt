-- A reading that is held with 1024 added stands for its t: the rules in signed numbers. Assumes nothing.
use Prim.Native.Nat.{ℕ, zero, suc, ◌+◌, ◌-◌, ◌*◌, ◌%◌, ◌<◌, ◌≤◌}
use mathlib.Core.Path.{◌≡◌, refl, sym, ap, ◌∙◌}
use mathlib.Core.Bool.{Bool, true, false, cond}
use native.Mathlib.Omega.{arith}
use borrow.Author.Tests.{ltb-true, ltb-false, lt-ltb, le-ltb}
use lib.Dec.{ltb}
use lib.IntN.{ℤ, pos, negsuc, ◌+ℤ◌, ◌-ℤ◌, ◌*ℤ◌, sub_ℕ, +ℤ_idr}
use lib.Signed.{lt_z}
use Rattle.integer.specs.Range.{eighths_of}
use Rattle.std.specs.Prelude.{Some, None}
use Rattle.reading.specs.Reading.{byte_of, remainder_of}
use Rattle.reading.specs.Limits.{tmin_edge_of, hysteresis_of}
use Rattle.reading.proofs.Laws.{lossless}
use Rattle.rules.specs.Temperatures.{whole_byte, remainder, degrees, hysteresis}
use Rattle.reading.specs.Faithful.{Faithful}

-- z is n - k
unfoldable pub Lifted : (k n : ℕ) → ℤ → Type 0
Lifted k n (pos m) = n ≡ k + m
Lifted k n (negsuc m) = n + suc m ≡ k

-- the order of integers is that of their lifts
same_test : (x y m n : ℕ) → (x < y → m < n) → (y ≤ x → n ≤ m) → ltb x y ≡ ltb m n
same_test x y m n f g = go (ltb x y) refl
  where
    go : (t : Bool) → ltb x y ≡ t → ltb x y ≡ ltb m n
    go true e = e ∙ sym (lt-ltb m n (f (ltb-true x y e)))
    go false e = e ∙ sym (le-ltb m n (g (ltb-false x y e)))

lifted_lt : (k m n : ℕ) (a b : ℤ) → Lifted k m a → Lifted k n b → ltb m n ≡ lt_z a b
unfolding Lifted
lifted_lt k m n (pos x) (pos y) p q = same_test m n x y (λ h. omega arith) (λ h. omega arith)
lifted_lt k m n (pos x) (negsuc y) p q = le-ltb m n (omega arith)
lifted_lt k m n (negsuc x) (pos y) p q = lt-ltb m n (omega arith)
lifted_lt k m n (negsuc x) (negsuc y) p q = same_test m n y x (λ h. omega arith) (λ h. omega arith)

-- a lift names one integer
lifted_one : (k n : ℕ) (a b : ℤ) → Lifted k n a → Lifted k n b → a ≡ b
unfolding Lifted
lifted_one k n (pos x) (pos y) p q = ap pos (omega arith)
lifted_one k n (pos x) (negsuc y) p q = absurd (omega arith)
lifted_one k n (negsuc x) (pos y) p q = absurd (omega arith)
lifted_one k n (negsuc x) (negsuc y) p q = ap negsuc (omega arith)

shift : (j k n : ℕ) (z : ℤ) → Lifted k n z → Lifted (k + j) (n + j) z
unfolding Lifted
shift j k n (pos m) p = omega arith
shift j k n (negsuc m) p = omega arith

move : (k n k' n' : ℕ) (z : ℤ) → k ≡ k' → n ≡ n' → Lifted k n z → Lifted k' n' z
move k n k' n' z e e' p = rw (← e, ← e') p

lift_sub : (k n a b : ℕ) → n + b ≡ k + a → Lifted k n (sub_ℕ a b)
unfolding Lifted
lift_sub k n a b p = go (ltb a b) refl
  where
    go : (t : Bool) → ltb a b ≡ t → Lifted k n (cond t (negsuc (b - suc a)) (pos (a - b)))
    go true e = omega (arith, ltb-true a b e)
    go false e = omega (arith, ltb-false a b e)

lifted_pos : (k m : ℕ) → Lifted k (k + m) (pos m)
unfolding Lifted
lifted_pos k m = refl

-- j less, eight times as much, and e more
pub less : (j k n : ℕ) (z : ℤ) → Lifted k n z → Lifted (k + j) n (z -ℤ pos j)
unfolding Lifted
less zero k n z p = rw +ℤ_idr (move k n (k + 0) n z (omega arith) refl p)
less (suc j) k n (pos m) p = lift_sub (k + suc j) n m (suc j) (omega arith)
less (suc j) k n (negsuc m) p = omega arith

negated : (x : ℕ) → 8 * suc x ≡ suc (8 * x + 7)
negated x = omega arith

times_eight : (k n : ℕ) (z : ℤ) → Lifted k n z → Lifted (8 * k) (8 * n) (pos 8 *ℤ z)
unfolding Lifted
times_eight k n (pos m) p = omega arith
times_eight k n (negsuc m) p = rw (negated m) (omega arith)

pub more : (e k n : ℕ) (z : ℤ) → Lifted k n z → Lifted k (n + e) (z +ℤ pos e)
unfolding Lifted
more e k n (pos m) p = omega arith
more e k n (negsuc m) p = lift_sub k (n + e) e (suc m) (omega arith)

-- a byte's number, and a reading's t
lift_byte : (b : ℕ) → b < 256 → Lifted 128 ((b + 128) % 256) (degrees b)
unfolding Lifted
lift_byte b h = go (ltb b 128) refl
  where
    go : (t : Bool) → ltb b 128 ≡ t → Lifted 128 ((b + 128) % 256) (cond t (pos b) (negsuc (255 - b)))
    go true e = omega (arith, ltb-true b 128 e)
    go false e = omega (arith, ltb-false b 128 e)

pub lift_reading : (t : ℤ) (r : ℕ) → eighths_of t ≡ Some r → Lifted 1024 r t × (r < 2048)
unfolding Lifted eighths_of
lift_reading (pos n) r e = go (ltb n 1024) refl e
  where
    go : (t : Bool) → ltb n 1024 ≡ t → cond t (Some (1024 + n)) None ≡ Some r → (r ≡ 1024 + n) × (r < 2048)
    go true h q = let s : 1024 + n ≡ r = cc in (omega arith, omega (arith, ltb-true n 1024 h))
    go false h q = let z : ◌≡◌ {A = ℕ} 0 1 = cc in absurd (omega arith)
lift_reading (negsuc n) r e = go (ltb n 1024) refl e
  where
    go : (t : Bool) → ltb n 1024 ≡ t → cond t (Some (1023 - n)) None ≡ Some r → (r + suc n ≡ 1024) × (r < 2048)
    go true h q = let s : 1023 - n ≡ r = cc in (omega (arith, ltb-true n 1024 h), omega arith)
    go false h q = let z : ◌≡◌ {A = ℕ} 0 1 = cc in absurd (omega arith)

-- The comparisons with an edge of z degrees, which is held as `edge`.
module _ (t : ℤ) (r : ℕ) (e : eighths_of t ≡ Some r) (z : ℤ) (base : ℕ) (at : Lifted 128 base z) where
  lift_edge : Lifted 1024 (8 * base) (pos 8 *ℤ z)
  lift_edge = times_eight 128 base z at

  above : ltb (8 * base) r ≡ lt_z (pos 8 *ℤ z) t
  above = lifted_lt 1024 (8 * base) r (pos 8 *ℤ z) t lift_edge (lift_reading t r e).0

  beneath : ltb r (8 * base) ≡ lt_z t (pos 8 *ℤ z)
  beneath = lifted_lt 1024 r (8 * base) t (pos 8 *ℤ z) (lift_reading t r e).0 lift_edge

  far_beneath : ltb (r + 40) (8 * base) ≡ lt_z t (pos 8 *ℤ (z -ℤ pos 5))
  far_beneath =
      lifted_lt 1064 (r + 40) (8 * base) t (pos 8 *ℤ (z -ℤ pos 5))
      (shift 40 1024 r t (lift_reading t r e).0)
      (times_eight 133 base (z -ℤ pos 5) (less 5 128 base z at))

  hysteresis_is : (on : Bool) → hysteresis_of on (8 * base) r ≡ hysteresis on z t
  hysteresis_is on = rw (above, far_beneath)

-- a reading's byte and remainder
whole_is : (t : ℤ) (r : ℕ) → Lifted 1024 r t → r < 2048 → byte_of r ≡ whole_byte t
unfolding Lifted
whole_is (pos n) r p h = omega arith
whole_is (negsuc n) r p h = omega arith

rest_is : (t : ℤ) (r : ℕ) → Lifted 1024 r t → remainder_of r ≡ remainder t
unfolding Lifted
rest_is (pos n) r p = omega arith
rest_is (negsuc n) r p = omega arith

pub faithful : (t : ℤ) (r : ℕ) → eighths_of t ≡ Some r → Faithful t r
faithful t r e =
    record {
      whole = whole_is t r (lift_reading t r e).0 (lift_reading t r e).1;
      rest = rest_is t r (lift_reading t r e).0;
      split = lifted_one 1024 r t _ (lift_reading t r e).0 made;
      latch = λ on limit h. hysteresis_is t r e (degrees limit) _ (lift_byte limit h) on;
      high = λ limit h. above t r e (degrees limit) _ (lift_byte limit h);
      low = λ limit h. beneath t r e (degrees limit) _ (lift_byte limit h);
      flag = λ on tmin. ap (λ (k : ℕ). hysteresis_of on k r) (edge_is tmin) ∙ hysteresis_is t r e (pos tmin) (128 + tmin) (plain tmin) on;
    }
  where
    plain : (tmin : ℕ) → Lifted 128 (128 + tmin) (pos tmin)
    plain tmin = lifted_pos 128 tmin

    edge_is : (tmin : ℕ) → tmin_edge_of tmin ≡ 8 * (128 + tmin)
    edge_is tmin = omega arith

    made : Lifted 1024 r ((pos 8 *ℤ degrees (byte_of r)) +ℤ pos (remainder_of r))
    made =
        move 1024 (8 * ((byte_of r + 128) % 256) + remainder_of r) 1024 r _ refl (lossless.reading r (lift_reading t r e).1)
        (more (remainder_of r) 1024 (8 * ((byte_of r + 128) % 256)) _
        (times_eight 128 ((byte_of r + 128) % 256) (degrees (byte_of r)) (lift_byte (byte_of r) (omega arith))))
