-- The page, "Duty in slots" and "Tach counts", of registers, outputs and events with their numbers.
use Rattle.std.specs.Prelude.{ℕ, suc, ◌+◌, ◌-◌, ◌*◌, ◌/◌, ◌<◌, ◌≤◌, min, ◌≡◌, Bool, true, false, cond, ◌&&◌, ◌||◌, ◌∷◌, eqb, ltb, leb, ℤ, pos, negsuc, ◌-ℤ◌}
use Rattle.std.specs.Prelude.{◌*ℤ◌}
use Rattle.std.specs.Int.Signed.{lt_z}
use Rattle.integer.specs.Bits.{bit_of, flag_of}
use Rattle.part.specs.declared.ChannelId.{ChannelId}
use Rattle.part.specs.declared.FanId.{FanId}
use Rattle.part.specs.declared.FanId.TheVariants.{One, Two}
use Rattle.event.specs.Kinds.{is_kind}
use Rattle.event.specs.declared.Event.{Event}
use Rattle.event.specs.declared.Kind.TheVariants as kind
use Rattle.rules.specs.Stored.{pin_low}
use Rattle.rules.specs.Replies.{History, taken}
use Rattle.rules.specs.Temperatures.{temperature}
use Rattle.rules.specs.Targets.{flag, target, overridden}
use Rattle.rules.specs.Duties.{left, spin, failures}
use Rattle.rules.specs.PageWords.{write, sampled, counted, turned, tenth, Accepted, register, bit, out, duty_out, by_fan, output_bit, tach_bit}
use Rattle.rules.specs.PageWords.{filter_bit, alarm_status, fault_status, tmin_figure, range_figure, control, spin_up_figure, rate_figure, minimum_code}
use Rattle.rules.specs.PageWords.{error_status, reading_figure, is_assigned}

-- the run flag of a channel; the target and the clocks left of the spin-up of a fan; override; the run of failures
abbrev pub running : ChannelId → History → Bool
running c h = flag c (taken h)

abbrev pub aim : FanId → History → ℕ
aim f h = target f (taken h)

abbrev pub clocks_left : FanId → History → ℕ
clocks_left f h = left (spin f (taken h))

abbrev pub forced : History → Bool
forced h = overridden (taken h)

abbrev pub failure_run : FanId → History → ℕ
failure_run f h = failures f (taken h)

-- the reading of a channel in eighths: what it is stands in PageStays
abbrev pub eighths_read : ChannelId → History → ℤ
eighths_read c h = temperature c (taken h)

-- 2: "max(0, ..)"
abbrev pub excess : ℤ → ℕ
excess (pos n) = n
excess (negsuc n) = 0

-- 2: the demand of a channel on a fan; T-05: 240 while its diode is in error
abbrev pub demanded : FanId → ChannelId → History → ℕ
demanded f c h =
    cond (error_status c h) 240
    (cond (running c h)
    (min 240 (16 * minimum_code f h + 20 * excess (eighths_read c h -ℤ pos (8 * tmin_figure (control c h))) / range_figure (control c h)))
    0)

-- 6: a fan whose duty is 0 is to turn after the event: enabled, and its target above 0 or overridden
abbrev pub to_turn : FanId → History → Bool
to_turn f h = output_bit f h && (ltb 0 (aim f h) || forced h)

-- a count is judged, before which the fan is as after h: tach bit 1, duty above 0, not spinning up
abbrev pub judged_after : FanId → History → Bool
judged_after f h = tach_bit f h && (ltb 0 (duty_out f h) && eqb (clocks_left f h) 0)

pub record PageDuties (h : History) : Type 0 where
  -- 1, t being the reading of the sample (T-01): "A sample turns a channel's run flag on if t > 8 Tmin, off if t < 8(Tmin - 5), else keeps it."
  pub flag_on :
      (c : ChannelId) (t : ℤ) → Accepted (sampled c t) h → lt_z (pos 8 *ℤ pos (tmin_figure (control c h))) (reading_figure c t h) ≡ true →
      running c (sampled c t ∷ h) ≡ true
  pub flag_off :
      (c : ChannelId) (t : ℤ) → Accepted (sampled c t) h → lt_z (pos 8 *ℤ pos (tmin_figure (control c h))) (reading_figure c t h) ≡ false →
      lt_z (reading_figure c t h) (pos 8 *ℤ (pos (tmin_figure (control c h)) -ℤ pos 5)) ≡ true → running c (sampled c t ∷ h) ≡ false
  pub flag_kept :
      (c : ChannelId) (t : ℤ) → Accepted (sampled c t) h → lt_z (pos 8 *ℤ pos (tmin_figure (control c h))) (reading_figure c t h) ≡ false →
      lt_z (reading_figure c t h) (pos 8 *ℤ (pos (tmin_figure (control c h)) -ℤ pos 5)) ≡ false → running c (sampled c t ∷ h) ≡ running c h
  -- 1: "A register write does not touch it"; nor does any other event but power and reset
  pub flag_stays :
      (c : ChannelId) (e : Event) → Accepted e h → is_kind kind.Sample e ≡ false → is_kind kind.Power e ≡ false → is_kind kind.Write e ≡ false →
      running c (e ∷ h) ≡ running c h
  pub flag_by_write :
      (c : ChannelId) (w : ℤ) (a b : ℕ) → Accepted (write w (pos a) (pos b)) h → (eqb a 0x01 && bit_of b 7) ≡ false →
      running c (write w (pos a) (pos b) ∷ h) ≡ running c h
  -- 3: automatic: "the largest demand among the assigned channels"; manual: 16m
  pub largest : (f : FanId) (c : ChannelId) → bit 0x00 7 h ≡ true → is_assigned f c h ≡ true → demanded f c h ≤ aim f h
  pub nothing :
      (f : FanId) (bound : ℕ) → bit 0x00 7 h ≡ true → ((c : ChannelId) → is_assigned f c h ≡ true → demanded f c h ≤ bound) → aim f h ≤ bound
  pub manual : (f : FanId) → bit 0x00 7 h ≡ false → aim f h ≡ 16 * minimum_code f h
  -- 4: "Override: pin low, or bit 7 of 0x3F is 1 and a latch is on."
  pub override : forced h ≡ (pin_low (taken h) || (bit 0x3F 7 h && eqb (out h).therm 1))
  -- 5: the first that applies: disabled, overridden, target 0, spinning up, filter off
  pub disabled : (f : FanId) → output_bit f h ≡ false → duty_out f h ≡ 0
  pub full : (f : FanId) → output_bit f h ≡ true → forced h ≡ true → duty_out f h ≡ 240
  pub none : (f : FanId) → output_bit f h ≡ true → forced h ≡ false → aim f h ≡ 0 → duty_out f h ≡ 0
  pub spinning : (f : FanId) → output_bit f h ≡ true → forced h ≡ false → 0 < aim f h → 0 < clocks_left f h → duty_out f h ≡ 240
  pub unfiltered :
      (f : FanId) → output_bit f h ≡ true → forced h ≡ false → 0 < aim f h → clocks_left f h ≡ 0 → filter_bit f h ≡ false → duty_out f h ≡ aim f h
  -- 5: "filter on, as it was", but at this fan's period
  pub still :
      (f : FanId) (e : Event) → Accepted e h → is_kind kind.Period e ≡ false → is_kind kind.Power e ≡ false → is_kind kind.Write e ≡ false →
      output_bit f (e ∷ h) ≡ true → forced (e ∷ h) ≡ false → 0 < aim f (e ∷ h) → clocks_left f (e ∷ h) ≡ 0 → filter_bit f (e ∷ h) ≡ true →
      duty_out f (e ∷ h) ≡ duty_out f h
  pub still_by_write :
      (f : FanId) (w : ℤ) (a b : ℕ) → Accepted (write w (pos a) (pos b)) h → (eqb a 0x01 && bit_of b 7) ≡ false →
      output_bit f (write w (pos a) (pos b) ∷ h) ≡ true → forced (write w (pos a) (pos b) ∷ h) ≡ false → 0 < aim f (write w (pos a) (pos b) ∷ h) →
      clocks_left f (write w (pos a) (pos b) ∷ h) ≡ 0 → filter_bit f (write w (pos a) (pos b) ∷ h) ≡ true →
      duty_out f (write w (pos a) (pos b) ∷ h) ≡ duty_out f h
  -- 5: "nearer to the target by the ramp rate, never past it"
  pub upward :
      (f : FanId) → Accepted (turned f) h → output_bit f h ≡ true → forced h ≡ false → 0 < aim f h → clocks_left f (turned f ∷ h) ≡ 0 → filter_bit f h ≡ true →
      duty_out f h ≤ aim f h → duty_out f (turned f ∷ h) ≡ min (aim f h) (duty_out f h + rate_figure h)
  pub downward :
      (f : FanId) → Accepted (turned f) h → output_bit f h ≡ true → forced h ≡ false → 0 < aim f h → clocks_left f (turned f ∷ h) ≡ 0 → filter_bit f h ≡ true →
      aim f h ≤ duty_out f h → duty_out f (turned f ∷ h) ≡ aim f h + (duty_out f h - aim f h - rate_figure h)
  pub other_fan :
      (f g : FanId) → (f ≡ g → ⊥) → Accepted (turned g) h → output_bit f h ≡ true → forced h ≡ false → 0 < aim f h → clocks_left f (turned g ∷ h) ≡ 0 →
      filter_bit f h ≡ true → duty_out f (turned g ∷ h) ≡ duty_out f h
  -- 6: "Spin-up starts at an event before which the duty is 0 and after which the fan is enabled and its target is above 0 or it is overridden";
  -- "It lasts the clock events of its setting at the start"; "An event that starts it does not also count it down."
  pub starts : (f : FanId) (e : Event) → Accepted e h → duty_out f h ≡ 0 → to_turn f (e ∷ h) ≡ true → clocks_left f (e ∷ h) ≡ spin_up_figure f (e ∷ h)
  -- 6: a clock counts it down; no other event does, but a start anew, the duty becoming 0, power and reset
  pub ticks : (f : FanId) → Accepted tenth h → 0 < duty_out f h → clocks_left f (tenth ∷ h) ≡ clocks_left f h - 1
  pub waits :
      (f : FanId) (e : Event) → Accepted e h → is_kind kind.Clock e ≡ false → is_kind kind.Tach e ≡ false → is_kind kind.Power e ≡ false →
      is_kind kind.Write e ≡ false →
      0 < duty_out f h → 0 < duty_out f (e ∷ h) → clocks_left f (e ∷ h) ≡ clocks_left f h
  pub waits_by_write :
      (f : FanId) (w : ℤ) (a b : ℕ) → Accepted (write w (pos a) (pos b)) h → (eqb a 0x01 && bit_of b 7) ≡ false →
      0 < duty_out f h → 0 < duty_out f (write w (pos a) (pos b) ∷ h) → clocks_left f (write w (pos a) (pos b) ∷ h) ≡ clocks_left f h
  -- 6: "ends early when duty becomes 0"
  pub ends : (f : FanId) → duty_out f h ≡ 0 → clocks_left f h ≡ 0
  -- 7: "A fan is at alarm speed while enabled and overridden. Entering that state sets its alarm bit; staying there does not."
  pub alarms :
      (f : FanId) (e : Event) → Accepted e h → (output_bit f h && forced h) ≡ false → (output_bit f (e ∷ h) && forced (e ∷ h)) ≡ true →
      alarm_status f (e ∷ h) ≡ true
  pub stays_alarmed :
      (f : FanId) (e : Event) → Accepted e h → is_kind kind.Power e ≡ false → is_kind kind.Write e ≡ false → is_kind kind.Read e ≡ false →
      (output_bit f h && forced h) ≡ true → alarm_status f (e ∷ h) ≡ alarm_status f h

pub record PageTach (h : History) : Type 0 where
  -- "A count is stored in the fan's speed register."
  pub stored : (f : FanId) (n : ℕ) → Accepted (counted f (pos n)) h → register (by_fan 0x08 0x09 f) (counted f (pos n) ∷ h) ≡ n
  -- "A judged count above the tach limit is a failure: fault bit set, spin-up begun anew, run of failures one longer"
  pub failure :
      (f : FanId) (n : ℕ) → Accepted (counted f (pos n)) h → judged_after f h ≡ true → register (by_fan 0x10 0x11 f) h < n →
      (fault_status f (counted f (pos n) ∷ h) ≡ true) × (failure_run f (counted f (pos n) ∷ h) ≡ suc (failure_run f h))
      × (clocks_left f (counted f (pos n) ∷ h) ≡ spin_up_figure f h) × (duty_out f (counted f (pos n) ∷ h) ≡ 240)
  -- no other event but a read, power and reset moves the fault bit
  pub fault_stays :
      (f : FanId) (e : Event) → Accepted e h → is_kind kind.Tach e ≡ false → is_kind kind.Read e ≡ false → is_kind kind.Power e ≡ false →
      is_kind kind.Write e ≡ false →
      fault_status f (e ∷ h) ≡ fault_status f h
  -- "Any other judged count ends the run"
  pub success :
      (f : FanId) (n : ℕ) → Accepted (counted f (pos n)) h → judged_after f h ≡ true → n ≤ register (by_fan 0x10 0x11 f) h →
      (failure_run f (counted f (pos n) ∷ h) ≡ 0) × (fault_status f (counted f (pos n) ∷ h) ≡ fault_status f h)
      × (duty_out f (counted f (pos n) ∷ h) ≡ duty_out f h)
  -- "An unjudged count changes the register only."
  pub unjudged :
      (f : FanId) (n a : ℕ) → Accepted (counted f (pos n)) h → judged_after f h ≡ false →
      ((eqb a (by_fan 0x08 0x09 f) ≡ false → register a (counted f (pos n) ∷ h) ≡ register a h)
      × (failure_run f (counted f (pos n) ∷ h) ≡ cond (tach_bit f h) (failure_run f h) 0)) × (out (counted f (pos n) ∷ h) ≡ out h)
  -- "as does clearing the tach bit"
  pub untracked : (f : FanId) → tach_bit f h ≡ false → failure_run f h ≡ 0
  -- a run moves by nothing but a count of its fan, the tach bit, power and reset
  pub run_stays :
      (f : FanId) (e : Event) → Accepted e h → is_kind kind.Tach e ≡ false → is_kind kind.Power e ≡ false → is_kind kind.Write e ≡ false →
      failure_run f (e ∷ h) ≡ failure_run f h
  -- "FAN_FAULT is asserted while bit 4 of 0x00 is 1 and either run is 5" (held there)
  pub fault : (out h).fault ≡ flag_of (bit 0x00 4 h && (leb 5 (failure_run One h) || leb 5 (failure_run Two h)))
