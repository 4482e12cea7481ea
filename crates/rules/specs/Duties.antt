-- Document 01, "Duty in slots", rules 5 to 7, and "Tach counts", over the accepted events: what a fan does.
use Rattle.std.specs.Prelude.{ℕ, suc, ◌+◌, ◌-◌, min, max, Bool, true, false, cond, not, ◌&&◌, ◌||◌, [], ◌∷◌, ltb, eqb, get_or}
use Rattle.part.specs.declared.FanId.{FanId}
use Rattle.event.specs.Kinds.{is_kind}
use Rattle.event.specs.declared.Event.{Event}
use Rattle.event.specs.declared.Kind.TheVariants as kind
use Rattle.rules.specs.Registers.{config2, status_at, tach_limit_at, characteristics_at, filter}
use Rattle.rules.specs.Fields.{output_enabled, tach_enabled, spin_up_code, filter_enabled, rate_code}
use Rattle.rules.specs.Events.{byte_given, measures, periods, reads, restarts}
use Rattle.rules.specs.Stored.{Taken, stored_at, pointer}
use Rattle.rules.specs.Targets.{target, overridden}

-- ---- what the registers say of a fan

abbrev pub enabled : FanId → Taken → Bool
enabled f d = output_enabled f (stored_at config2 d)

abbrev pub tach_on : FanId → Taken → Bool
tach_on f d = tach_enabled f (stored_at config2 d)

abbrev pub filtered : FanId → Taken → Bool
filtered f d = filter_enabled f (stored_at filter d)

-- rule 5: the ramp rate, 1, 2, 4, 8
unfoldable pub rate_of : (filter : ℕ) → ℕ
rate_of byte = get_or (1 ∷ 2 ∷ 4 ∷ []) (rate_code byte) 8

abbrev pub rate : Taken → ℕ
rate d = rate_of (stored_at filter d)

-- rule 6: the clock events of a spin-up (Table 9 of 000, in tenths of a second)
unfoldable pub spin_up_of : (characteristics : ℕ) → ℕ
spin_up_of byte = get_or (2 ∷ 4 ∷ 6 ∷ 8 ∷ 10 ∷ 20 ∷ 40 ∷ []) (spin_up_code byte) 80

abbrev pub spin_up_clocks : FanId → Taken → ℕ
spin_up_clocks f d = spin_up_of (stored_at (characteristics_at f) d)

-- ---- duty and spin-up

-- the duty; the clock events that the spin-up was given when it last began, and those accepted since
pub record Spin : Type 0 where
  pub duty : ℕ
  pub given : ℕ
  pub since : ℕ

abbrev pub left : Spin → ℕ
left w = w.given - w.since

abbrev pub at_rest : Spin
at_rest = record { duty = 0; given = 0; since = 0 }

-- temperatures 9: duties count as 0 before power and reset; w is the fan before the event from here on
abbrev pub prior : Event → Spin → Spin
prior e w = cond (restarts e) at_rest w

-- tach counts: judged only if the tach bit is 1, the duty is above 0 and the fan is not spinning up; a failure if above the limit
abbrev pub judged_in : FanId → Event → Taken → Spin → Bool
judged_in f e d w = measures f e && (tach_on f (e ∷ d) && (ltb 0 w.duty && eqb (left w) 0))

abbrev pub failed_in : FanId → Event → Taken → Spin → Bool
failed_in f e d w = judged_in f e d w && ltb (stored_at (tach_limit_at f) (e ∷ d)) (byte_given e)

-- rule 6: a spin-up starts at a failed measurement, and where the duty is 0 before and the fan is to turn after the event
abbrev pub spin_up_starts : FanId → Event → Taken → Spin → Bool
spin_up_starts f e d w = failed_in f e d w || (eqb w.duty 0 && (enabled f (e ∷ d) && (ltb 0 (target f (e ∷ d)) || overridden (e ∷ d))))

-- rule 6: it lasts the clock events of its setting at the start; an event that starts it does not also count it down
abbrev pub given_after : FanId → Event → Taken → Spin → ℕ
given_after f e d w = cond (spin_up_starts f e d w) (spin_up_clocks f (e ∷ d)) w.given

abbrev pub since_after : FanId → Event → Taken → Spin → ℕ
since_after f e d w = cond (spin_up_starts f e d w) 0 (cond (is_kind kind.Clock e) (suc w.since) w.since)

-- rule 5: nearer to the target by an amount, never past it
unfoldable pub nearer : (amount target duty : ℕ) → ℕ
nearer amount target duty = cond (ltb duty target) (min (duty + amount) target) (max (duty - amount) target)

-- rule 5: the first that applies
unfoldable pub duty_after : FanId → Event → Taken → (spinning : Bool) (was : ℕ) → ℕ
duty_after f e d spinning was =
    cond (enabled f (e ∷ d))
    (cond (overridden (e ∷ d)) 240
    (cond (eqb (target f (e ∷ d)) 0) 0
    (cond spinning 240
    (cond (filtered f (e ∷ d)) (cond (periods f e) (nearer (rate (e ∷ d)) (target f (e ∷ d)) was) was) (target f (e ∷ d))))))
    0

-- rule 6: a spin-up ends early when the duty becomes 0
abbrev pub spin_at : (duty given since : ℕ) → Spin
spin_at duty given since = cond (eqb duty 0) at_rest (record { duty = duty; given = given; since = since })

unfoldable pub spin_after : FanId → Event → Taken → Spin → Spin
spin_after f e d w =
    spin_at (duty_after f e d (ltb 0 (given_after f e d w - since_after f e d w)) w.duty) (given_after f e d w) (since_after f e d w)

unfoldable pub spin : FanId → Taken → Spin
spin f [] = at_rest
spin f (e ∷ d) = spin_after f e d (prior e (spin f d))

unfoldable pub duty : FanId → Taken → ℕ
duty f d = (spin f d).duty

-- ---- tach counts

-- the event is a judged count, a failed measurement, of the fan
unfoldable pub judged : FanId → Event → Taken → Bool
judged f e d = judged_in f e d (prior e (spin f d))

unfoldable pub failed : FanId → Event → Taken → Bool
failed f e d = failed_in f e d (prior e (spin f d))

-- the failures in a row, counted without end where document 01 holds at 5; any other judged count, a restart and a tach bit of 0 end the run
unfoldable pub failures : FanId → Taken → ℕ
failures f [] = 0
failures f (e ∷ d) =
    cond (tach_on f (e ∷ d))
    (cond (failed f e d) (suc (failures f d))
    (cond (restarts e || judged f e d) 0 (failures f d)))
    0

-- the fault bit; a read clears it (temperatures 5), as it does the alarm bit
unfoldable pub fault_bit : FanId → Taken → Bool
fault_bit f [] = false
fault_bit f (e ∷ d) =
    cond (failed f e d) true
    (cond (restarts e || reads (status_at f) (pointer d) e) false (fault_bit f d))

-- ---- rule 7: at alarm speed while enabled and overridden; entering that state sets the alarm bit

unfoldable pub at_alarm : FanId → Taken → Bool
at_alarm f d = enabled f d && overridden d

-- temperatures 9: alarm states count as off before power and reset
unfoldable pub alarm_bit : FanId → Taken → Bool
alarm_bit f [] = false
alarm_bit f (e ∷ d) =
    cond (at_alarm f (e ∷ d) && not (cond (restarts e) false (at_alarm f d))) true
    (cond (restarts e || reads (status_at f) (pointer d) e) false (alarm_bit f d))
