-- The words of a reason (T-03 of document 02) and of an age (T-07), as the program `why` prints them. Names are bytes.
use Rattle.std.specs.Prelude.{ℕ, Bool, true, false, List, [], ◌∷◌, ◌++◌}
use Rattle.decimal.specs.Decimal.{decimal_of}
use Rattle.part.specs.declared.FanId.{FanId}
use Rattle.part.specs.declared.FanId.TheVariants.{One, Two}
use Rattle.event.specs.declared.Ramp.{Ramp}
use Rattle.event.specs.declared.Reason.{Reason}
use Rattle.event.specs.declared.Reason.TheVariants as reason
use Rattle.rules.specs.Events.{channel_number, fan_number}

-- " up " and " down "
abbrev pub direction_word : (up : Bool) → List ℕ
direction_word true = 32 ∷ 117 ∷ 112 ∷ 32 ∷ []
direction_word false = 32 ∷ 100 ∷ 111 ∷ 119 ∷ 110 ∷ 32 ∷ []

-- ramp, the slots left, the direction, the target
unfoldable pub ramp_words : Ramp → List ℕ
unfolding decimal_of
ramp_words r = (114 ∷ 97 ∷ 109 ∷ 112 ∷ 32 ∷ []) ++ (decimal_of r.left ++ (direction_word r.up ++ decimal_of r.target))

-- disabled; pin; therm and the channel; zero; spin and the clocks left; the ramp; manual; demand and the channel
unfoldable pub reason_words : Reason → List ℕ
unfolding decimal_of ramp_words
reason_words reason.Disabled = 100 ∷ 105 ∷ 115 ∷ 97 ∷ 98 ∷ 108 ∷ 101 ∷ 100 ∷ []
reason_words reason.PinLow = 112 ∷ 105 ∷ 110 ∷ []
reason_words (reason.Therm c) = (116 ∷ 104 ∷ 101 ∷ 114 ∷ 109 ∷ 32 ∷ []) ++ decimal_of (channel_number c)
reason_words reason.NoTarget = 122 ∷ 101 ∷ 114 ∷ 111 ∷ []
reason_words (reason.SpinUp n) = (115 ∷ 112 ∷ 105 ∷ 110 ∷ 32 ∷ []) ++ decimal_of n
reason_words (reason.Ramp r) = ramp_words r
reason_words reason.Manual = 109 ∷ 97 ∷ 110 ∷ 117 ∷ 97 ∷ 108 ∷ []
reason_words (reason.Demand c) = (100 ∷ 101 ∷ 109 ∷ 97 ∷ 110 ∷ 100 ∷ 32 ∷ []) ++ decimal_of (channel_number c)

-- reason1= or reason2=, the words and a newline
unfoldable pub reason_line : FanId → Reason → List ℕ
unfolding decimal_of reason_words
reason_line f r = (114 ∷ 101 ∷ 97 ∷ 115 ∷ 111 ∷ 110 ∷ []) ++ (decimal_of (fan_number f) ++ ((61 ∷ []) ++ (reason_words r ++ (10 ∷ []))))

-- age1= or age2=, the clock events and a newline
unfoldable pub age_line : FanId → (clocks : ℕ) → List ℕ
unfolding decimal_of
age_line f n = (97 ∷ 103 ∷ 101 ∷ []) ++ (decimal_of (fan_number f) ++ ((61 ∷ []) ++ (decimal_of n ++ (10 ∷ []))))

-- both reasons, then both ages
unfoldable pub fan_lines : (one two : Reason) (age1 age2 : ℕ) → List ℕ
unfolding reason_line age_line
fan_lines one two age1 age2 = (reason_line One one ++ reason_line Two two) ++ (age_line One age1 ++ age_line Two age2)
