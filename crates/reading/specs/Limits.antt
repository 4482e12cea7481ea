-- The comparisons of a reading that is held with 1024 added, and so are the edges that it is compared with.
-- `Faithful` holds them to the rules, which are in signed numbers.
use Rattle.std.specs.Prelude.{ℕ, ◌+◌, ◌*◌, ◌%◌, Bool, true, false, cond, ltb}

-- 8 L, for the byte of a limit of L whole degrees
abbrev pub edge_of : (limit : ℕ) → ℕ
edge_of limit = 8 * ((limit + 128) % 256)

-- 8 Tmin, for Tmin in degrees
abbrev pub tmin_edge_of : (tmin : ℕ) → ℕ
tmin_edge_of tmin = 8 * tmin + 1024

-- on above the edge, off more than five degrees (40 eighths) below it, else kept
abbrev pub hysteresis_of : Bool → (edge reading : ℕ) → Bool
hysteresis_of on edge reading = cond (ltb edge reading) true (cond (ltb (reading + 40) edge) false on)

-- temperatures 2: the latch
abbrev pub latched_of : Bool → (limit reading : ℕ) → Bool
latched_of on limit reading = hysteresis_of on (edge_of limit) reading

-- duty 1: the run flag
abbrev pub running_of : Bool → (tmin reading : ℕ) → Bool
running_of on tmin reading = hysteresis_of on (tmin_edge_of tmin) reading

-- temperatures 3: above the high limit, below the low one
abbrev pub is_high : (limit reading : ℕ) → Bool
is_high limit reading = ltb (edge_of limit) reading

abbrev pub is_low : (limit reading : ℕ) → Bool
is_low limit reading = ltb reading (edge_of limit)
