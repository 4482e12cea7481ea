-- The agreement holds of every list. Assumes nothing.
use Prim.Native.Nat.{ℕ, zero, suc, ◌<◌}
use mathlib.Core.Path.{◌≡◌, refl, sym, ap, ◌∙◌}
use mathlib.Core.Bool.{Bool, true, false, cond, not, ◌&&◌, true≢false}
use mathlib.Core.List.{List, [], ◌∷◌}
use native.Mathlib.Omega.{arith}
use lib.Dec.{eqb}
use borrow.Author.Tests.{eqb-true}
use Rattle.integer.proofs.BoolLaws.{by_cases}
use Rattle.integer.specs.Range.{eighths_of}
use Rattle.part.specs.declared.FanId.TheVariants.{One, Two}
use Rattle.event.specs.Kinds.{is_kind, place_of, kind_of}
use Rattle.event.specs.declared.Event.{Event}
use Rattle.event.specs.declared.Kind.TheVariants as kind
use Rattle.std.specs.Prelude.{Ok}
use Rattle.rules.specs.Stored.{Taken, powered, own_address, stored_at, pointer, pin_low, diode_error, pulled_bit}
use Rattle.rules.specs.Replies.{reply_to, accepts, History, taken}
use Rattle.rules.specs.Replies as replies
use Rattle.rules.specs.Temperatures.{temperature, latch, therm_asserted, high_bit, low_bit, therm_bit}
use Rattle.rules.specs.Targets.{flag, overridden}
use Rattle.rules.specs.Duties.{spin, duty, failures, at_alarm, alarm_bit, fault_bit}
use Rattle.rules.specs.Shows as shows
use Rattle.rules.specs.Stamps.{clocks, stamp, fan_stamp}
use Rattle.input.specs.Inputs.{input_of}
use Rattle.judge.specs.Judged.{lowest_in}
use Rattle.judge.specs.declared.Standing.{Standing}
use Rattle.judge.proofs.RightLaws.{right}
use Rattle.chip.specs.Chips.{chip_with, chip_under, chip_after}
use Rattle.device.specs.Devices.{device_after}
use Rattle.device.specs.declared.Device.{Device}
use Rattle.keeper.specs.Keeping as keeping
use Rattle.keeper.specs.Keeping.{is_on, device_in, standing_of, outcome_of, shown_by, stamp_by}
use Rattle.keeper.specs.declared.Keeper.{Keeper}
use Rattle.keeper.specs.declared.Outcome.{Outcome}
use Rattle.reason.specs.Reasoning.{why_of}
use Rattle.reason.specs.Aging.{explanation_of, aged_of}
use Rattle.gauge.specs.Gauges.{paneled_of}
use Rattle.history.specs.Agreement.{run, Agreement}
use Rattle.history.proofs.State.{port_by, channel_registers_by, fan_registers_by, registers_by, context_by, channel_by, channels_by, fan_by, chip_by}
use Rattle.history.proofs.State.{stamps_by, device_by, state_by}
use Rattle.rules.proofs.TakenLaws.{Took, none, more, took, went, on_after, off_none, own_small}
use Rattle.rules.proofs.StoredLaws.{byte}
use Rattle.history.proofs.AcceptedLaws.{restart_is}
use Rattle.history.proofs.StepLaws.{where_on, port_is, registers_is, channels_is}
use Rattle.history.proofs.FanLaws.{fan_is}
use Rattle.history.proofs.ValueLaws.{value_is, due_is, shown_on, status_is}
use Rattle.history.proofs.ReasonLaws.{why_is}
use Rattle.history.proofs.PanelLaws.{panel_is}
use Rattle.history.proofs.StampLaws.{stamps_is, stamp_is, age_is, explanation_is}

-- ---- one event

module _ (e : Event) (d : Taken) (fine : replies.out_of_range e ≡ false) (small : (a : ℕ) → stored_at a (e ∷ d) < 256) where
  with_is : chip_with (port_by (e ∷ d)) (context_by e d) (channels_by (e ∷ d)) (chip_by d) ≡ chip_by (e ∷ d)
  unfolding chip_with chip_by port_by
  with_is = rw (fan_is e d fine One, fan_is e d fine Two)

  chip_is : chip_after (input_of e) (chip_by d) ≡ chip_by (e ∷ d)
  unfolding chip_after chip_under chip_by port_by
  chip_is = rw (registers_is e d fine, channels_is e d fine small, port_is e d fine) with_is

  -- INT's line and the stamps too
  device_is : device_after (input_of e) (device_by d) ≡ device_by (e ∷ d)
  unfolding device_after device_by shows.silenced
  device_is =
      rw (
        chip_is,
        stamps_is e d fine,
        restart_is e fine,
        status_is One d,
        status_is Two d,
        status_is One (e ∷ d),
        status_is Two (e ∷ d),
        due_is d,
      )

-- ---- the keeper

-- a keeper that never had power has the device of the empty list
device_in_lem : {d : Taken} → Took d → device_in (state_by d) ≡ device_by d
device_in_lem none =
    (unfold state_by device_by shows.silenced stamps_by stamp clocks fan_stamp powered chip_by port_by registers_by channel_registers_by fan_registers_by
    channels_by channel_by fan_by own_address stored_at pointer pin_low diode_error pulled_bit temperature latch flag high_bit low_bit therm_bit eighths_of
    spin failures at_alarm overridden therm_asserted alarm_bit fault_bit in refl)
device_in_lem (more {e = e} {d = d} go t) = (unfold state_by in rw (on_after e d go))

is_on_lem : (d : Taken) → is_on (state_by d) ≡ powered d
unfolding state_by
is_on_lem d = by_cases (powered d) (λ p. rw p) (λ p. rw p)

-- the reply is that of the rules
reply_is : (e : Event) {d : Taken} → Took d → lowest_in (standing_of (state_by d)) (input_of e) ≡ reply_to e d
unfolding reply_to device_by chip_by port_by registers_by channels_by channel_by
reply_is e {d} t = ap (λ (s : Standing). lowest_in s (input_of e)) standing_is ∙ right _ e (omega (arith, own_small t))
  where
    standing_is : standing_of (state_by d) ≡ keeping.standing_with (powered d) (device_by d).chip
    standing_is =
        ap (λ (x : Device). keeping.standing_with (is_on (state_by d)) x.chip) (device_in_lem t)
        ∙ ap (λ (on : Bool). keeping.standing_with on (device_by d).chip) (is_on_lem d)

-- a read is accepted only with power
read_on : (e : Event) (d : Taken) → accepts (reply_to e d) ≡ true → is_kind kind.Read e ≡ true → powered d ≡ true
read_on e d go r = with_power (powered d) (place_of (kind_of e)) (eqb-true (place_of (kind_of e)) 3 r) (went e d go).power
  where
    with_power : (on : Bool) (k : ℕ) → k ≡ 3 → (not on && not (eqb k 0)) ≡ false → on ≡ true
    with_power true k q z = refl
    with_power false k q z = absurd (true≢false (rw q at z))

data_is : (e : Event) {d : Taken} → Took d → accepts (reply_to e d) ≡ true
    → keeping.data_for (chip_by d) (input_of e) ≡ cond (is_kind kind.Read e) (shows.value (pointer d) d) 0
unfolding chip_by port_by
data_is e {d} t go = where_on (is_kind kind.Read e) 0 (λ r. value_is t (read_on e d go r) (pointer d))

moved : (e : Event) {d : Taken} → Took d → accepts (reply_to e d) ≡ true → device_after (input_of e) (device_by d) ≡ device_by (e ∷ d)
moved e {d} t go = let fine = (went e d go).range in device_is e d fine (λ a. byte a (more go t))

zero_shown : shows.shown [] ≡ record { int = 0; therm = 0; fault = 0; duty1 = 0; duty2 = 0 }
unfolding shows.shown shows.int_asserted shows.int_due shows.fault_asserted therm_asserted stored_at latch duty spin
zero_shown = refl

shows_is : {d : Taken} → Took d → shown_by (state_by d) ≡ shows.shown d
unfolding shown_by state_by device_by
shows_is {d} t = by_cases (powered d) (λ on. rw on (shown_on d)) (λ off. rw off (sym (ap shows.shown (off_none t off) ∙ zero_shown)))

-- what an event is answered, what is shown after it, and the keeper then
step_is : (e : Event) {d : Taken} → Took d → outcome_of (state_by d) e ≡ cond (accepts (reply_to e d))
    (record { keeper = state_by (e ∷ d); answer = Ok (cond (is_kind kind.Read e) (shows.value (pointer d) d) 0); shown = shows.shown (e ∷ d) })
    (record { keeper = state_by d; answer = reply_to e d; shown = shows.shown d })
unfolding outcome_of device_by
step_is e {d} t =
    rw (reply_is e t, device_in_lem t)
    (by_cases (accepts (reply_to e d))
    (λ go. rw (go, data_is e t go, moved e t go, shown_on (e ∷ d)) (unfold state_by in rw (on_after e d go)))
    (λ bad. rw (bad, shows_is t)))

-- ---- every list

pub agree : (h : History) → run h ≡ state_by (taken h)
unfolding run taken state_by powered
agree [] = refl
agree (e ∷ h) =
    ap (λ (k : Keeper). (outcome_of k e).keeper) (agree h) ∙ ap (λ (a : Outcome). a.keeper) (step_is e (took h))
    ∙ by_cases (accepts (reply_to e (taken h))) (λ go. rw go) (λ bad. rw bad)

pub device_run : (h : History) → device_in (run h) ≡ device_by (taken h)
device_run h = ap device_in (agree h) ∙ device_in_lem (took h)

pub chip_run : (h : History) → keeping.chip_in (run h) ≡ chip_by (taken h)
unfolding device_by
chip_run h = ap (λ (x : Device). x.chip) (device_run h)

module _ (e : Event) (h : History) where
  answer_is : (outcome_of (state_by (taken h)) e).answer ≡ shows.answer e h
  unfolding shows.answer
  answer_is =
      ap (λ (a : Outcome). a.answer) (step_is e (took h))
      ∙ by_cases (accepts (reply_to e (taken h))) (λ go. rw go) (λ bad. rw bad)

  output_is : (outcome_of (state_by (taken h)) e).shown ≡ shows.shown (taken (e ∷ h))
  unfolding taken
  output_is =
      ap (λ (a : Outcome). a.shown) (step_is e (took h))
      ∙ by_cases (accepts (reply_to e (taken h))) (λ go. rw go) (λ bad. rw bad)

values_is : {d : Taken} → Took d → powered d ≡ true → (a n : ℕ) → keeping.image_from a n (chip_by d) ≡ shows.values_from a n d
unfolding keeping.image_from shows.values_from
values_is t on a zero = refl
values_is t on a (suc n) = rw (value_is t on a, values_is t on (suc a) n)

image_is : (d : Taken) (buffer : List ℕ) → keeping.image_answer (state_by d) buffer ≡ shows.image_reply buffer d
unfolding keeping.image_answer state_by device_by shows.image_reply
image_is d buffer = by_cases (powered d) (λ on. rw on) (λ off. rw off)

buffer_is : {d : Taken} → Took d → (buffer : List ℕ) → keeping.image_buffer (state_by d) buffer ≡ shows.image_held buffer d
unfolding keeping.image_buffer state_by device_by shows.image_held
buffer_is {d} t buffer = by_cases (powered d) (λ on. rw on (rw (values_is t on 0 64))) (λ off. rw off)

pub agreement : (h : History) → Agreement h
agreement h =
    record {
      answers = λ e. ap (λ (k : Keeper). (outcome_of k e).answer) (agree h) ∙ answer_is e h;
      outputs = λ e. ap (λ (k : Keeper). (outcome_of k e).shown) (agree h) ∙ output_is e h;
      shows = ap shown_by (agree h) ∙ shows_is (took h);
      image = λ buffer. ap (λ (k : Keeper). keeping.image_answer k buffer) (agree h) ∙ image_is (taken h) buffer;
      buffer = λ buffer. ap (λ (k : Keeper). keeping.image_buffer k buffer) (agree h) ∙ buffer_is (took h) buffer;
      why = λ fan. ap (λ (k : Keeper). why_of k fan) (agree h) ∙ why_is (taken h) fan;
      panel = ap paneled_of (agree h) ∙ panel_is (taken h);
      stamp = ap stamp_by (agree h) ∙ stamp_is (took h);
      age = λ fan. ap (λ (k : Keeper). aged_of k fan) (agree h) ∙ age_is (taken h) fan;
      explanation = λ fan. ap (λ (k : Keeper). explanation_of k fan) (agree h) ∙ explanation_is (taken h) fan;
    }
