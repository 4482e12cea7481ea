-- Document 01, "Bench cards": a single list, and what each line of it says.
use Rattle.std.specs.Prelude.{ℕ, ◌<◌, ◌≡◌, Bool, true, false, List, [], ◌∷◌, ℤ, pos, negsuc, replicate}
use Rattle.std.specs.Int.Signed.{le_z}
use Rattle.rules.specs.Temperatures.{whole_byte, remainder, hysteresis}
use Rattle.rules.specs.Targets.{demand_z}
use Rattle.drive.specs.Ramp.{ramped}
use Rattle.drive.specs.Tach.{failed_of}

pub data Card : Type 0 where
  demands : (m tmin range t slots : ℕ) → Card
  runs : (tmin : ℕ) (was : Bool) (t : ℕ) (is : Bool) → Card
  latches : (limit : ℤ) (was : Bool) (t : ℕ) (is : Bool) → Card
  unreleased : (limit : ℤ) → Card
  shows : (t : ℤ) (byte rest : ℕ) → Card
  ramps : (from target rate periods duty : ℕ) → Card
  fails : (limit count : ℕ) (is : Bool) → Card
  unfailing : (limit : ℕ) → Card

abbrev pub cards : List Card
cards =
    demands 8 0 40 223 239 ∷ demands 8 0 40 224 240
    ∷ demands 11 0 40 127 239 ∷ demands 11 0 40 128 240
    ∷ demands 5 20 40 320 160 ∷ demands 5 0 80 320 160
    ∷ demands 5 0 80 160 120 ∷ demands 5 0 80 560 220
    ∷ runs 20 false 160 false ∷ runs 20 false 161 true ∷ runs 20 true 120 true ∷ runs 20 true 119 false
    ∷ latches (pos 100) false 800 false ∷ latches (pos 100) false 801 true ∷ latches (pos 100) true 760 true ∷ latches (pos 100) true 759 false
    ∷ unreleased (negsuc 122)
    ∷ shows (negsuc 0) 255 7 ∷ shows (negsuc 7) 255 0
    ∷ ramps 240 80 8 19 88 ∷ ramps 240 80 8 20 80 ∷ ramps 240 80 8 21 80
    ∷ fails 254 255 true ∷ fails 254 254 false ∷ unfailing 255
    ∷ []

abbrev pub Says : Card → Type 0
Says (demands m tmin range t slots) = demand_z true m tmin range (pos t) ≡ slots
Says (runs tmin was t is) = hysteresis was (pos tmin) (pos t) ≡ is
Says (latches limit was t is) = hysteresis was limit (pos t) ≡ is
Says (unreleased limit) = (t : ℤ) → le_z (negsuc 1023) t ≡ true → hysteresis true limit t ≡ true
Says (shows t byte rest) = (whole_byte t ≡ byte) × (remainder t ≡ rest)
Says (ramps from target rate periods duty) = ramped rate (replicate periods target) from ≡ duty
Says (fails limit count is) = failed_of true limit count ≡ is
Says (unfailing limit) = (count : ℕ) → count < 256 → failed_of true limit count ≡ false

-- the one statement: every card of a list holds
abbrev pub Hold : List Card → Type 0
Hold [] = Unit
Hold (c ∷ cs) = Says c × Hold cs
