-- T-03 of document 02: why a fan has its duty, over the accepted events. The first of eight reasons that holds.
use Rattle.std.specs.Prelude.{ℕ, ◌-◌, Bool, cond, not, ◌&&◌, List, [], ◌∷◌, eqb, ltb, ℤ, Result, Ok, Err}
use Rattle.integer.specs.Bits.{flag_of}
use Rattle.part.specs.declared.ChannelId.{ChannelId}
use Rattle.part.specs.declared.ChannelId.TheVariants.{Local, Remote1, Remote2}
use Rattle.part.specs.declared.FanId.{FanId}
use Rattle.part.specs.declared.FanId.TheVariants.{One, Two}
use Rattle.event.specs.Answers.{refusal_number}
use Rattle.event.specs.declared.Refusal.TheVariants.{NoPower, NoSuchPart}
use Rattle.event.specs.declared.Ramp.{Ramp}
use Rattle.event.specs.declared.Reason.{Reason}
use Rattle.event.specs.declared.Reason.TheVariants as reason
use Rattle.event.specs.declared.Refusal.{Refusal}
use Rattle.rules.specs.Registers.{config1, behaviour}
use Rattle.rules.specs.Fields.{assignment, automatic, therm_drives_fans}
use Rattle.rules.specs.Events.{is_number, channel_number, fan_number}
use Rattle.rules.specs.Stored.{Taken, powered, stored_at, pin_low}
use Rattle.rules.specs.Temperatures.{latch, therm_asserted}
use Rattle.rules.specs.Targets.{demand, assigned_by, demand_if, target}
use Rattle.rules.specs.Duties.{enabled, filtered, left, spin, duty}

-- ---- the number of a reason, its place in the ticket's order, and its values

abbrev pub reason_number : Reason → ℕ
reason_number reason.Disabled = 1
reason_number reason.PinLow = 2
reason_number (reason.Therm c) = 3
reason_number reason.NoTarget = 4
reason_number (reason.SpinUp n) = 5
reason_number (reason.Ramp r) = 6
reason_number reason.Manual = 7
reason_number (reason.Demand c) = 8

-- the channel; the clocks left; the slots left, 1 for up or 0 for down, the target
abbrev pub reason_values : Reason → List ℕ
reason_values reason.Disabled = []
reason_values reason.PinLow = []
reason_values (reason.Therm c) = channel_number c ∷ []
reason_values reason.NoTarget = []
reason_values (reason.SpinUp n) = n ∷ []
reason_values (reason.Ramp r) = r.left ∷ flag_of r.up ∷ r.target ∷ []
reason_values reason.Manual = []
reason_values (reason.Demand c) = channel_number c ∷ []

-- the number of the reply: 0 where there is a reason
abbrev pub why_number : Result Reason Refusal → ℕ
why_number (Ok r) = 0
why_number (Err r) = refusal_number r

-- ---- the reason

-- the lowest channel of which a test holds, where it holds of one
abbrev pub lowest_with : (local remote1 : Bool) → ChannelId
lowest_with local remote1 = cond local Local (cond remote1 Remote1 Remote2)

-- what a channel asks of a fan: an assigned one its demand
abbrev pub asked : FanId → ChannelId → Taken → ℕ
asked f c d = demand_if (assigned_by (assignment (stored_at config1 d)) f c) (demand f c d)

-- the distance from the target, and on which side of it the duty is
abbrev pub ramp_to : (target duty : ℕ) → Ramp
ramp_to target duty = record { left = cond (ltb duty target) (target - duty) (duty - target); up = ltb duty target; target = target }

-- the first that holds, in the ticket's order
unfoldable pub reason_for : FanId → Taken → Reason
reason_for f d =
    cond (not (enabled f d)) reason.Disabled
    (cond (pin_low d) reason.PinLow
    (cond (therm_drives_fans (stored_at behaviour d) && therm_asserted d) (reason.Therm (lowest_with (latch Local d) (latch Remote1 d)))
    (cond (eqb (target f d) 0) reason.NoTarget
    (cond (ltb 0 (left (spin f d))) (reason.SpinUp (left (spin f d)))
    (cond (filtered f d && not (eqb (duty f d) (target f d))) (reason.Ramp (ramp_to (target f d) (duty f d)))
    (cond (not (automatic (stored_at config1 d))) reason.Manual
    (reason.Demand (lowest_with (eqb (asked f Local d) (target f d)) (eqb (asked f Remote1 d) (target f d))))))))))

-- what is told of the fan of a number: 1 before power, 3 for a number that is no fan's, else the reason
unfoldable pub why_for : (fan : ℤ) → Taken → Result Reason Refusal
why_for n d =
    cond (powered d)
    (cond (is_number n (fan_number One)) (Ok (reason_for One d))
    (cond (is_number n (fan_number Two)) (Ok (reason_for Two d)) (Err NoSuchPart)))
    (Err NoPower)
