-- What a write that is no software reset leaves as it was, and the registers that a software reset leaves. Assumes nothing.
use Prim.Native.Nat.{ℕ, zero, suc, ◌+◌, ◌<◌}
use mathlib.Core.Path.{◌≡◌, sym, ap, ◌∙◌}
use mathlib.Core.Bool.{Bool, true, false, cond, not, ◌&&◌, ◌||◌, and-true, and-false}
use mathlib.Core.List.{◌∷◌}
use native.Mathlib.Omega.{arith}
use lib.Dec.{eqb}
use lib.IntN.{ℤ, pos}
use lib.ListN.{get_or}
use Rattle.integer.specs.Bits.{bit_of}
use Rattle.part.specs.declared.ChannelId.{ChannelId}
use Rattle.part.specs.declared.FanId.{FanId}
use Rattle.rules.specs.Stored.{Taken, stored_at, pulled_bit}
use Rattle.rules.specs.Temperatures.{temperature, latch, channel_on, high_bit, low_bit, therm_bit}
use Rattle.rules.specs.Targets.{flag}
use Rattle.rules.specs.Duties.{tach_on, judged, failed, failures, fault_bit}
use Rattle.rules.specs.Shows.{value, values_from}
use Rattle.rules.specs.PageWords.{power, write}
use Rattle.rules.specs.PageReplies.{power_image}
use Rattle.rules.specs.PageTemperatures.{reset}
use Rattle.rules.specs.PageStays.{ordinary}
use Rattle.rules.proofs.PowerLaws.{power_image_lem}
use Rattle.rules.proofs.QuietLaws.{shows_alike}

-- ---- an ordinary write

-- a bit that is cleared where its enable bit is 0
masked : (on was : Bool) → cond (not on) false was ≡ (was && on)
masked true was = sym (and-true was)
masked false was = sym (and-false was)

module _ (d : Taken) (w : ℤ) (a b : ℕ) (keeps : ordinary a b) where
  pub reading_left : (c : ChannelId) → temperature c (write w (pos a) (pos b) ∷ d) ≡ temperature c d
  unfolding temperature
  reading_left c = rw keeps

  pub flag_left : (c : ChannelId) → flag c (write w (pos a) (pos b) ∷ d) ≡ flag c d
  unfolding flag
  flag_left c = rw keeps

  pub latch_left : (c : ChannelId) → latch c (write w (pos a) (pos b) ∷ d) ≡ latch c d
  unfolding latch
  latch_left c = rw keeps

  pub high_masked : (c : ChannelId) → high_bit c (write w (pos a) (pos b) ∷ d) ≡ (high_bit c d && channel_on c (write w (pos a) (pos b) ∷ d))
  unfolding high_bit
  high_masked c = rw keeps (masked (channel_on c (write w (pos a) (pos b) ∷ d)) (high_bit c d))

  pub low_masked : (c : ChannelId) → low_bit c (write w (pos a) (pos b) ∷ d) ≡ (low_bit c d && channel_on c (write w (pos a) (pos b) ∷ d))
  unfolding low_bit
  low_masked c = rw keeps (masked (channel_on c (write w (pos a) (pos b) ∷ d)) (low_bit c d))

  pub therm_masked : (c : ChannelId) → therm_bit c (write w (pos a) (pos b) ∷ d) ≡ (therm_bit c d && channel_on c (write w (pos a) (pos b) ∷ d))
  unfolding therm_bit
  therm_masked c = rw keeps (masked (channel_on c (write w (pos a) (pos b) ∷ d)) (therm_bit c d))

  pub fault_left : (f : FanId) → fault_bit f (write w (pos a) (pos b) ∷ d) ≡ fault_bit f d
  unfolding fault_bit failed
  fault_left f = rw keeps

  pub pulled_left : pulled_bit (write w (pos a) (pos b) ∷ d) ≡ pulled_bit d
  unfolding pulled_bit
  pulled_left = rw keeps

  pub run_left : (f : FanId) → tach_on f (write w (pos a) (pos b) ∷ d) ≡ true → failures f (write w (pos a) (pos b) ∷ d) ≡ failures f d
  unfolding failures failed judged
  run_left f on = rw (on, keeps)

-- ---- the registers after a software reset

listed : (d : Taken) (n i a k : ℕ) → a < n → k ≡ i + a → get_or (values_from i n d) a 0 ≡ value k d
unfolding values_from
listed d zero i a k l q = absurd (omega arith)
listed d (suc n) i zero k l q = ap (λ j. value j d) (omega arith)
listed d (suc n) i (suc a) k l q = listed d n (suc i) a k (omega arith) (omega arith)

-- they are those after power, but the status bytes
pub reset_image :
    (d : Taken) (w : ℤ) (b a : ℕ) → bit_of b 7 ≡ true → a < 64 → (eqb a 0x02 || eqb a 0x03) ≡ false → value a (reset w b ∷ d) ≡ get_or (power_image 0 0) a 0
unfolding stored_at temperature
reset_image d w b a seven l q =
    let p = power (pos 44) (pos 0) (pos 0) in
    shows_alike a (reset w b ∷ d) (p ∷ d) q (rw seven) (λ c. rw seven)
    ∙ (sym (listed (p ∷ d) 64 0 a a l (omega arith)) ∙ ap (λ vs. get_or vs a 0) (power_image_lem d (pos 44) 0 0 (omega arith) (omega arith)))
