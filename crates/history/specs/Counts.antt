-- The engine's counts are those taken from the list: the run of failures, the clocks left of a spin-up, the ramp steps, the stamps.
use Rattle.std.specs.Prelude.{min, ◌≡◌}
use Rattle.part.specs.declared.FanId.{FanId}
use Rattle.part.specs.declared.FanId.TheVariants.{One, Two}
use Rattle.rules.specs.Replies.{History, taken}
use Rattle.rules.specs.Duties.{left, spin, duty, failures}
use Rattle.rules.specs.Stamps.{stamp, fan_stamp}
use Rattle.fan.specs.declared.Fan.{Fan}
use Rattle.part.specs.Each.{of_fan}
use Rattle.device.specs.declared.Stamps.{Stamps}
use Rattle.keeper.specs.Keeping.{device_in, chip_in}
use Rattle.history.specs.Agreement.{run}

-- the engine's fan, and its stamps, after the list
abbrev pub fan_in : FanId → History → Fan
fan_in One h = (chip_in (run h)).fans.one
fan_in Two h = (chip_in (run h)).fans.two

abbrev pub stamps_in : History → Stamps
stamps_in h = (device_in (run h)).stamps

pub record Counts (h : History) : Type 0 where
  -- the failed measurements in a row, held at 5
  pub run : (f : FanId) → (fan_in f h).run ≡ min 5 (failures f (taken h))
  -- the clock events that its spin-up was given when it last began, less those accepted since
  pub clocks : (f : FanId) → (fan_in f h).drive.left ≡ left (spin f (taken h))
  -- the duty, to which each accepted period of a filtered fan adds or from which it takes one step of the ramp
  pub duty : (f : FanId) → (fan_in f h).drive.duty ≡ duty f (taken h)
  -- the stamps: the clock events accepted since power, and for each fan those when it last started, modulo 65,536 (T-07)
  pub stamp : (stamps_in h).now ≡ stamp (taken h)
  pub started : (f : FanId) → of_fan f (stamps_in h).starts ≡ fan_stamp f (taken h)
