-- What a sample makes, held with 1024 added, stands for the reading of the rules. Assumes nothing.
use Prim.Native.Nat.{ℕ, ◌+◌, ◌-◌, ◌*◌, ◌%◌, ◌≤◌, min}
use mathlib.Core.Path.{◌≡◌, ap, ◌∙◌}
use mathlib.Core.Bool.{Bool, true, false, cond}
use native.Mathlib.Omega.{arith}
use borrow.Author.Tests.{ltb-true, ltb-false, lt-ltb}
use lib.Dec.{ltb}
use lib.IntN.{ℤ, pos, negsuc, ◌+ℤ◌, ◌-ℤ◌, ◌*ℤ◌}
use Rattle.integer.specs.Bits.{bit_of}
use Rattle.integer.specs.Range.{eighths_of}
use Rattle.std.specs.Prelude.{Some}
use Rattle.integer.proofs.BoolLaws.{by_cases}
use Rattle.part.specs.declared.ChannelId.TheVariants.{Local, Remote1, Remote2}
use Rattle.rules.specs.Offsets.{offset_of, clamped, measured_z}
use Rattle.rules.proofs.OffsetLaws.{sum_is}
use Rattle.reading.specs.Offset.{shifted_of, measured_of, FaithfulOffset}
use Rattle.reading.proofs.FaithfulLaws.{Lifted, less, more, lift_reading}

-- z is n - (1024 + j): held at -1024 and at high, it is what is left of n beyond j, and at most 1024 + high
clamp_held :
    (j n high : ℕ) (z : ℤ) → high ≤ 1023 → Lifted (1024 + j) n z → eighths_of (clamped (negsuc 1023) (pos high) z) ≡ Some (min (1024 + high) (n - j))
unfolding Lifted eighths_of
clamp_held j n high (pos m) h p =
    by_cases (ltb high m)
    (λ y. rw (y, lt-ltb high 1024 (omega arith)) (ap Some (omega (arith, ltb-true high m y))))
    (λ y. rw (y, lt-ltb m 1024 (omega (arith, ltb-false high m y))) (ap Some (omega (arith, ltb-false high m y))))
clamp_held j n high (negsuc m) h p =
    by_cases (ltb 1023 m)
    (λ y. rw y (ap Some (omega (arith, ltb-true 1023 m y))))
    (λ y. rw (y, lt-ltb m 1024 (omega (arith, ltb-false 1023 m y))) (ap Some (omega (arith, ltb-false 1023 m y))))

module _ (b : ℕ) (t : ℤ) (r high : ℕ) (h : high ≤ 1023) (e : eighths_of t ≡ Some r) where
  abbrev k : ℕ
  k = 8 * (b % 16)

  by_sign :
      (s : Bool) →
      eighths_of (clamped (negsuc 1023) (pos high) (cond s (t -ℤ pos k) (t +ℤ pos k))) ≡ Some (min (1024 + high) (cond s (r - k) (r + k)))
  by_sign true = clamp_held k r high (t -ℤ pos k) h (less k 1024 r t (lift_reading t r e).0)
  by_sign false =
      clamp_held 0 (r + k) high (t +ℤ pos k) h (more k 1024 r t (lift_reading t r e).0) ∙ ap (λ (n : ℕ). Some (min (1024 + high) n)) (omega arith)

  held_is : eighths_of (clamped (negsuc 1023) (pos high) (t +ℤ (pos 8 *ℤ offset_of b))) ≡ Some (min (1024 + high) (shifted_of b r))
  held_is = rw (sum_is (bit_of b 7) (b % 16) t) (by_sign (bit_of b 7))

pub faithful_offset : FaithfulOffset
unfolding measured_z measured_of
faithful_offset Local b t r e = held_is b t r 1022 (omega arith) e
faithful_offset Remote1 b t r e = held_is b t r 1023 (omega arith) e
faithful_offset Remote2 b t r e = held_is b t r 1023 (omega arith) e
