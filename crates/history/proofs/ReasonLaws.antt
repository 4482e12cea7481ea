-- What is told of a fan of the keeper that the rules describe is what they tell. Assumes nothing.
use Prim.Native.Nat.{ℕ}
use mathlib.Core.Path.{◌≡◌, refl}
use lib.IntN.{ℤ}
use lib.Dec.{eqb}
use Rattle.integer.proofs.BoolLaws.{by_cases}
use Rattle.part.specs.declared.ChannelId.TheVariants.{Local, Remote1}
use Rattle.part.specs.declared.FanId.{FanId}
use Rattle.part.specs.declared.FanId.TheVariants.{One, Two}
use Rattle.rules.specs.Stored.{Taken, powered, pin_low}
use Rattle.rules.specs.Targets.{overridden}
use Rattle.rules.specs.Duties.{spin, duty}
use Rattle.rules.specs.Reasons.{lowest_with, asked, reason_for, why_for}
use Rattle.reason.specs.Reasoning.{asking_in, reason_under, reason_of, why_in, why_of}
use Rattle.part.specs.Each.{of_fan}
use Rattle.history.proofs.State.{port_by, channel_registers_by, registers_by, channel_by, channels_by, setting_by, drive_by, fan_by, chip_by}
use Rattle.history.proofs.State.{device_by, state_by}
use Rattle.history.proofs.FanLaws.{demand_is, setting_is}

module _ (f : FanId) (d : Taken) where
  asking_is : (target : ℕ) → asking_in f target (registers_by d) (channels_by d) ≡ lowest_with (eqb (asked f Local d) target) (eqb (asked f Remote1 d) target)
  unfolding asking_in registers_by channel_registers_by channels_by channel_by
  asking_is target = rw (demand_is f d Local, demand_is f d Remote1)

  -- where the pin is high, what overrides a fan is the latch
  under_is : reason_under f (setting_by f d) (drive_by (spin f d)) (chip_by d) ≡ reason_for f d
  unfolding reason_under reason_for setting_by chip_by port_by duty overridden
  under_is = by_cases (pin_low d) (λ low. rw low) (λ high. rw (high, asking_is) (unfold registers_by channels_by channel_by in refl))

drive_is : (f : FanId) (d : Taken) → (of_fan f (chip_by d).fans).drive ≡ drive_by (spin f d)
unfolding chip_by fan_by
drive_is One d = refl
drive_is Two d = refl

reason_is : (f : FanId) (d : Taken) → reason_of f (chip_by d) ≡ reason_for f d
unfolding reason_of
reason_is f d = rw (drive_is f d) (unfold chip_by port_by in rw (setting_is f d) (under_is f d))

pub why_is : (d : Taken) (fan : ℤ) → why_of (state_by d) fan ≡ why_for fan d
unfolding why_of why_in why_for state_by device_by
why_is d fan = by_cases (powered d) (λ on. rw (on, reason_is One d, reason_is Two d)) (λ off. rw off)
