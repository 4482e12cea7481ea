-- The engine's counts are those of the list. Assumes nothing.
use mathlib.Core.Path.{◌≡◌, refl, ap, ◌∙◌}
use Rattle.part.specs.declared.FanId.{FanId}
use Rattle.part.specs.declared.FanId.TheVariants.{One, Two}
use Rattle.rules.specs.Stored.{Taken}
use Rattle.rules.specs.Replies.{History, taken}
use Rattle.rules.specs.Duties.{duty}
use Rattle.rules.specs.Stamps.{fan_stamp}
use Rattle.fan.specs.declared.Fan.{Fan}
use Rattle.chip.specs.declared.Chip.{Chip}
use Rattle.part.specs.Each.{of_fan}
use Rattle.device.specs.declared.Device.{Device}
use Rattle.history.specs.Counts.{fan_in, Counts}
use Rattle.history.proofs.State.{fan_by, chip_by, stamps_by, device_by}
use Rattle.history.proofs.Agree.{device_run, chip_run}

fan_is : (f : FanId) (h : History) → fan_in f h ≡ fan_by f (taken h)
unfolding chip_by
fan_is One h = ap (λ (c : Chip). c.fans.one) (chip_run h)
fan_is Two h = ap (λ (c : Chip). c.fans.two) (chip_run h)

started_is : (f : FanId) (d : Taken) → of_fan f (device_by d).stamps.starts ≡ fan_stamp f d
unfolding device_by stamps_by
started_is One d = refl
started_is Two d = refl

pub counts : (h : History) → Counts h
unfolding fan_by duty
counts h =
    record {
      run = λ f. ap (λ (x : Fan). x.run) (fan_is f h);
      clocks = λ f. ap (λ (x : Fan). x.drive.left) (fan_is f h);
      duty = λ f. ap (λ (x : Fan). x.drive.duty) (fan_is f h);
      stamp = ap (λ (x : Device). x.stamps.now) (device_run h) ∙ (unfold device_by stamps_by in refl);
      started = λ f. ap (λ (x : Device). of_fan f x.stamps.starts) (device_run h) ∙ started_is f (taken h);
    }
