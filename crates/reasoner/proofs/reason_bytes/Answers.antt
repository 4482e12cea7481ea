use Rattle.reasoner.proofs.Laws.{disabled_is, pin_low_is, therm_is, no_target_is, spin_up_is, ramp_is, manual_is, demand_is}
use Rattle.reasoner.proofs.reason_bytes.Goals as goal

pub returns-in-Disabled : goal.returns-in-Disabled
returns-in-Disabled c = search disabled_is

pub returns-in-PinLow : goal.returns-in-PinLow
returns-in-PinLow c = search pin_low_is

pub returns-in-Therm : goal.returns-in-Therm
returns-in-Therm c = search therm_is

pub returns-in-NoTarget : goal.returns-in-NoTarget
returns-in-NoTarget c = search no_target_is

pub returns-in-SpinUp : goal.returns-in-SpinUp
returns-in-SpinUp c = search spin_up_is

pub returns-in-Ramp : goal.returns-in-Ramp
returns-in-Ramp c = search ramp_is

pub returns-in-Manual : goal.returns-in-Manual
returns-in-Manual c = search manual_is

pub returns-in-Demand : goal.returns-in-Demand
returns-in-Demand c = search demand_is
