-- Signed 32-bit numbers that lie in a range. `pos n` is n and `negsuc n` is -(n + 1).
use Rattle.std.specs.Prelude.{ℕ, ◌+◌, ◌-◌, cond, ltb, ℤ, pos, negsuc, Option, Some, None}

-- 0 ≤ v < end: v
unfoldable pub below_of : ℤ → ℕ → Option ℕ
below_of (pos n) end = cond (ltb n end) (Some n) None
below_of (negsuc n) end = None

-- -1024 ≤ t < 1024, eighths of a degree (document 01, the sample's val): t + 1024
unfoldable pub eighths_of : ℤ → Option ℕ
eighths_of (pos n) = cond (ltb n 1024) (Some (1024 + n)) None
eighths_of (negsuc n) = cond (ltb n 1024) (Some (1023 - n)) None
