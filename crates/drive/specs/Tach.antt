-- Document 01, "Tach counts".
use Rattle.std.specs.Prelude.{ℕ, ◌+◌, min, Bool, cond, ◌&&◌, ltb, eqb}

-- a count is judged only if the tach bit is 1, the duty is above 0 and the fan is not spinning up
abbrev pub judged_of : (tach : Bool) (duty left : ℕ) → Bool
judged_of tach duty left = tach && (ltb 0 duty && eqb left 0)

-- a judged count above the limit is a failure
abbrev pub failed_of : (judged : Bool) (limit count : ℕ) → Bool
failed_of judged limit count = judged && ltb limit count

-- the run of failures after a count: one longer, held at 5; ended by any other judged count
unfoldable pub run_of : (judged failed : Bool) (run : ℕ) → ℕ
run_of judged failed run = cond failed (min 5 (run + 1)) (cond judged 0 run)
