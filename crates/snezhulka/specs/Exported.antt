-- What C callers get for a refusal, where they else get a length.
use Rattle.std.specs.Prelude.{ℕ}

-- the largest number of 64 bits
abbrev pub no_length : ℕ
no_length = 18446744073709551615
