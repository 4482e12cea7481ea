-- T-03 of document 02, of a keeper as it stands: why a fan has its duty.
use Rattle.std.specs.Prelude.{ℕ, cond, not, ◌&&◌, eqb, ltb, ℤ, Result, Ok, Err}
use Rattle.part.specs.declared.ChannelId.{ChannelId}
use Rattle.part.specs.declared.ChannelId.TheVariants.{Local, Remote1}
use Rattle.part.specs.declared.FanId.{FanId}
use Rattle.part.specs.declared.FanId.TheVariants.{One, Two}
use Rattle.event.specs.declared.Refusal.TheVariants.{NoPower, NoSuchPart}
use Rattle.event.specs.declared.Reason.{Reason}
use Rattle.event.specs.declared.Reason.TheVariants as reason
use Rattle.event.specs.declared.Refusal.{Refusal}
use Rattle.rules.specs.Fields.{assignment, automatic}
use Rattle.rules.specs.Events.{is_number, fan_number}
use Rattle.rules.specs.Targets.{assigned_by, demand_if}
use Rattle.rules.specs.Reasons.{lowest_with, ramp_to}
use Rattle.drive.specs.declared.Drive.{Drive}
use Rattle.drive.specs.declared.Setting.{Setting}
use Rattle.part.specs.Each.{of_channel, of_fan}
use Rattle.stored.specs.declared.Registers.{Registers}
use Rattle.channel.specs.declared.Channel.{Channel}
use Rattle.part.specs.declared.PerChannel.{PerChannel}
use Rattle.fan.specs.Fans.{channel_demand, setting_of}
use Rattle.chip.specs.declared.Chip.{Chip}
use Rattle.keeper.specs.declared.Keeper.{Keeper}
use Rattle.keeper.specs.declared.Keeper.TheVariants.{Off, On}

-- the lowest channel whose latch is on, where one is
abbrev pub latched_in : PerChannel Channel → ChannelId
latched_in cs = lowest_with cs.local.latch cs.remote1.latch

-- what a channel asks of a fan; the lowest channel that asks for a target, where one does
abbrev pub asked_in : FanId → ChannelId → Registers → Channel → ℕ
asked_in f c s ch = demand_if (assigned_by (assignment s.config1) f c) (channel_demand f s.speeds (of_channel c s.channels) ch)

unfoldable pub asking_in : FanId → (target : ℕ) → Registers → PerChannel Channel → ChannelId
asking_in f target s cs = lowest_with (eqb (asked_in f Local s cs.local) target) (eqb (asked_in f Remote1 s cs.remote1) target)

-- why a fan has its duty, by what is asked of it and by its duty and spin-up: the first that holds
unfoldable pub reason_under : FanId → Setting → Drive → Chip → Reason
reason_under f s w k =
    cond (not s.enabled) reason.Disabled
    (cond k.port.pin_low reason.PinLow
    (cond s.overridden (reason.Therm (latched_in k.channels))
    (cond (eqb s.target 0) reason.NoTarget
    (cond (ltb 0 w.left) (reason.SpinUp w.left)
    (cond (s.filtered && not (eqb w.duty s.target)) (reason.Ramp (ramp_to s.target w.duty))
    (cond (not (automatic k.registers.config1)) reason.Manual
    (reason.Demand (asking_in f s.target k.registers k.channels))))))))

unfoldable pub reason_of : FanId → Chip → Reason
reason_of f k = reason_under f (setting_of f k.port.pin_low k.registers k.channels) (of_fan f k.fans).drive k

-- 1 before power, 3 for a number that is no fan's
unfoldable pub why_in : (fan : ℤ) → Chip → Result Reason Refusal
why_in n k =
    cond (is_number n (fan_number One)) (Ok (reason_of One k))
    (cond (is_number n (fan_number Two)) (Ok (reason_of Two k)) (Err NoSuchPart))

unfoldable pub why_of : Keeper → (fan : ℤ) → Result Reason Refusal
why_of Off n = Err NoPower
why_of (On d) n = why_in n d.chip
