-- T-06 speaks of something: lists of events, and the panel after each. An f64 is written as m times 2 ^ e, `negsuc n` being -(n + 1).
use Rattle.std.specs.Prelude.{◌≡◌, true, false, [], ◌∷◌, pos, negsuc, Float, Ok}
use Rattle.std.specs.Float.{fin}
use Rattle.part.specs.declared.ChannelId.TheVariants.{Local, Remote1, Remote2}
use Rattle.part.specs.declared.FanId.TheVariants.{One, Two}
use Rattle.event.specs.declared.FanSpeed.{FanSpeed}
use Rattle.event.specs.declared.FanSpeed.TheVariants.{NotMeasured, Stalled, Speed}
use Rattle.rules.specs.Replies.{History}
use Rattle.rules.specs.PageWords.{power, write, sampled, reported, counted}
use Rattle.gauge.specs.Gauges.{paneled_of}
use Rattle.history.specs.Agreement.{run}

-- what the program's panel is after a list
pub record Gauged (h : History) (local remote1 remote2 : Float) (fan1 fan2 : FanSpeed) : Type 0 where
  pub is : paneled_of (run h) ≡ Ok (record { local = local; remote1 = remote1; remote2 = remote2; fan1 = fan1; fan2 = fan2 })

-- power at address 44, and monitoring (0x00)
abbrev pub monitoring44 : History
monitoring44 = write (pos 44) (pos 0x00) (pos 0x91) ∷ power (pos 44) (pos 0) (pos 0) ∷ []

-- local at -1024 eighths, remote 1 at 161, remote 2 at -1; counts of 100 and 255
abbrev pub metered : History
metered =
    counted Two (pos 255) ∷ counted One (pos 100) ∷ sampled Remote2 (negsuc 0) ∷ sampled Remote1 (pos 161) ∷ sampled Local (negsuc 1023) ∷ monitoring44

-- then the range of fan 1 from 2 to 8 (0x20), and a count of 7 for fan 2 over the bus (0x09)
abbrev pub ranged_anew : History
ranged_anew = write (pos 44) (pos 0x09) (pos 7) ∷ write (pos 44) (pos 0x20) (pos 0xDD) ∷ metered

pub record PanelWitness : Type 0 where
  -- nothing measured: 0 degrees, no speed
  pub start : Gauged monitoring44 (fin false 0 (pos 0)) (fin false 0 (pos 0)) (fin false 0 (pos 0)) NotMeasured NotMeasured
  -- -128, 20.125 and -0.125 degrees; 3,375 revolutions; stalled
  pub figures : Gauged metered (fin true 1 (pos 7)) (fin false 161 (negsuc 2)) (fin true 1 (negsuc 2)) (Speed (fin false 3375 (pos 0))) Stalled
  -- 843.75 revolutions; 675,000 over 14, which no f64 is
  pub ranges :
      Gauged ranged_anew (fin true 1 (pos 7)) (fin false 161 (negsuc 2)) (fin true 1 (negsuc 2)) (Speed (fin false 3375 (negsuc 1)))
      (Speed (fin false 6626520970971429 (negsuc 36)))
  -- the diode of remote 1 in error: its last reading; a count that is refused: the one before it
  pub kept :
      Gauged (counted One (pos 256) ∷ reported Remote1 (pos 1) ∷ metered) (fin true 1 (pos 7)) (fin false 161 (negsuc 2)) (fin true 1 (negsuc 2))
      (Speed (fin false 3375 (pos 0))) Stalled
