-- How long a report can be. Assumes nothing.
use Prim.Native.Nat.{ℕ, zero, suc, ◌+◌, ◌-◌, ◌*◌, ◌≤◌, ◌<◌}
use mathlib.Core.Path.{◌≡◌, refl, sym}
use mathlib.Core.Bool.{Bool, true, false, true≢false}
use mathlib.Core.List.{List, [], ◌∷◌}
use native.Mathlib.Omega.{arith}
use native.Mathlib.Nat.{sub-zero}
use lib.Dec.{leb}
use lib.ListN.{length, length-append}
use Rattle.integer.proofs.BoolLaws.{by_cases}
use Rattle.integer.specs.Bits.{flag_of}
use Rattle.event.specs.Kinds.{is_kind}
use Rattle.event.specs.Answers.{number_of, data_of}
use Rattle.event.specs.declared.Refusal.{Refusal}
use Rattle.std.specs.Prelude.{Result, Ok, Err}
use Rattle.event.specs.declared.Event.{Event}
use Rattle.event.specs.declared.Kind.TheVariants as kind
use Rattle.event.proofs.Laws.{number_small}
use Rattle.part.specs.declared.FanId.TheVariants.{One, Two}
use Rattle.decimal.proofs.Laws.{decimal_width}
use Rattle.trace.specs.Trace.{event_at}
use Rattle.trace.specs.declared.Misread.{Misread}
use Rattle.trace.proofs.Onward.{onward, wrong_place}
use Rattle.report.specs.Report.{entry_text}
use Rattle.report.proofs.LengthLaws.{reply_length, pin_length, duty_length, entry_length, malformed_length}
use Rattle.rules.specs.Replies.{History, taken, reply_to, accepts}
use Rattle.rules.specs.Stored.{pointer}
use Rattle.rules.specs.Temperatures.{therm_asserted}
use Rattle.rules.specs.Shows.{answer, int_asserted, fault_asserted, shown}
use Rattle.history.proofs.BoundsLaws.{bounds}
use Rattle.player.specs.Report.{lines, report_from, report_of, Bounded}

-- ---- the lines of an event

refusal_data : (a : Result ℕ Refusal) → accepts a ≡ false → data_of a ≡ 0
refusal_data (Ok d) e = absurd (true≢false e)
refusal_data (Err r) e = refl

flag_small : (b : Bool) → flag_of b < 1000
flag_small true = omega arith
flag_small false = omega arith

data_small : (e : Event) (h : History) → data_of (answer e h) < 1000
unfolding answer
data_small e h =
    by_cases (accepts (reply_to e (taken h)))
    (λ y. rw y (by_cases (is_kind kind.Read e) (λ r. rw r (omega (arith, (bounds h).byte (pointer (taken h))))) (λ r. rw r (omega arith))))
    (λ n. rw n (omega (arith, refusal_data (reply_to e (taken h)) n)))

entry_small : (e : Event) (h : History) → length (entry_text (answer e h) (shown (taken (e ∷ h)))) ≤ 68
unfolding shown
entry_small e h =
    let a = answer e h in
    let s = shown (taken (e ∷ h)) in
    let number = decimal_width 2 (number_of a) (number_small a) in
    let read = decimal_width 2 (data_of a) (data_small e h) in
    let int = decimal_width 2 s.int (flag_small (int_asserted (taken (e ∷ h)))) in
    let therm = decimal_width 2 s.therm (flag_small (therm_asserted (taken (e ∷ h)))) in
    let fault = decimal_width 2 s.fault (flag_small (fault_asserted (taken (e ∷ h)))) in
    let duty1 = decimal_width 2 s.duty1 (omega (arith, (bounds (e ∷ h)).slots One)) in
    let duty2 = decimal_width 2 s.duty2 (omega (arith, (bounds (e ∷ h)).slots Two)) in
    omega (arith, entry_length a s, reply_length a, pin_length s, duty_length s)

-- ---- the report

module _ (s : List ℕ) (short : length s ≤ 65536) where
  from_small : (k at line : ℕ) (h : History) → at ≤ length s → line ≤ at + 1 → length (report_from k s at line h) ≤ 3 * (length s - at) + 26
  unfolding report_from
  from_small zero at line h within l = omega arith
  from_small (suc k) at line h within l =
      by_cases (leb (length s) at)
      (λ t. rw t (omega arith))
      (λ f. rw f (go (event_at s at) refl (λ e next n w. from_small k next (line + 4) (e ∷ h) w n)))
    where
      go : (r : Result (Event × ℕ) Misread) → r ≡ event_at s at
          → ((e : Event) (next : ℕ) → line + 4 ≤ next + 1 → next ≤ length s → length (report_from k s next (line + 4) (e ∷ h)) ≤ 3 * (length s - next) + 26)
          → length (lines r line h (λ next x. report_from k s next (line + 4) x)) ≤ 3 * (length s - at) + 26
      go (Ok (e, next)) q ih =
          let o = onward s at q refl in
          let rest = ih e next (omega (arith, o)) o.1 in
          omega (arith, o, rest, entry_small e h, length-append (entry_text (answer e h) (shown (taken (e ∷ h)))) (report_from k s next (line + 4) (e ∷ h)))
      go (Err m) q ih =
          let w = wrong_place s at (sym q) in
          omega (arith, malformed_length (line + m.line), decimal_width 4 (line + m.line) (omega (arith, w.0)))

pub bounded : Bounded
unfolding report_of
bounded text short = rw sub-zero at (from_small text short (length text) 0 1 [] (omega arith) (omega arith))
