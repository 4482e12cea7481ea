-- The lines of a panel (T-06 of document 02), its figures made whole numbers by two functions. Names are bytes.
use Rattle.std.specs.Prelude.{ℕ, List, [], ◌∷◌, ◌++◌, ℤ, Float}
use Rattle.event.specs.declared.FanSpeed.{FanSpeed}
use Rattle.event.specs.declared.FanSpeed.TheVariants.{NotMeasured, Stalled, Speed}
use Rattle.event.specs.declared.Panel.{Panel}
use Rattle.trace.specs.Trace.{ended, number_text}

-- local=, remote1=, remote2=, fan1=, fan2=
abbrev pub local_name : List ℕ
local_name = 108 ∷ 111 ∷ 99 ∷ 97 ∷ 108 ∷ 61 ∷ []

abbrev pub remote1_name : List ℕ
remote1_name = 114 ∷ 101 ∷ 109 ∷ 111 ∷ 116 ∷ 101 ∷ 49 ∷ 61 ∷ []

abbrev pub remote2_name : List ℕ
remote2_name = 114 ∷ 101 ∷ 109 ∷ 111 ∷ 116 ∷ 101 ∷ 50 ∷ 61 ∷ []

abbrev pub fan1_name : List ℕ
fan1_name = 102 ∷ 97 ∷ 110 ∷ 49 ∷ 61 ∷ []

abbrev pub fan2_name : List ℕ
fan2_name = 102 ∷ 97 ∷ 110 ∷ 50 ∷ 61 ∷ []

-- none, stalled
abbrev pub none_word : List ℕ
none_word = 110 ∷ 111 ∷ 110 ∷ 101 ∷ []

abbrev pub stalled_word : List ℕ
stalled_word = 115 ∷ 116 ∷ 97 ∷ 108 ∷ 108 ∷ 101 ∷ 100 ∷ []

-- the line of a fan: a word, or its revolutions
unfoldable pub speed_line : (revolutions : Float → ℤ) (name : List ℕ) → FanSpeed → List ℕ
unfolding number_text
speed_line revolutions name NotMeasured = ended (name ++ none_word)
speed_line revolutions name Stalled = ended (name ++ stalled_word)
speed_line revolutions name (Speed x) = number_text name (revolutions x)

-- the five lines
unfoldable pub figure_lines : (tenths revolutions : Float → ℤ) → Panel → List ℕ
unfolding number_text speed_line
figure_lines tenths revolutions p =
    number_text local_name (tenths p.local)
    ++ (number_text remote1_name (tenths p.remote1)
    ++ (number_text remote2_name (tenths p.remote2)
    ++ (speed_line revolutions fan1_name p.fan1 ++ speed_line revolutions fan2_name p.fan2)))
