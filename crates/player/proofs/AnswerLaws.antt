-- The report by stepping is the report by the rules; what the replay then answers. Assumes nothing.
use Prim.Native.Nat.{ℕ, zero, suc, ◌+◌, ◌*◌, ◌≤◌, ◌<◌}
use mathlib.Core.Path.{◌≡◌, refl, sym, ap, ◌∙◌}
use mathlib.Core.List.{List, [], ◌∷◌}
use mathlib.Core.Bool.{cond}
use native.Mathlib.Omega.{arith}
use native.Mathlib.Nat.{zero-add}
use lib.Dec.{leb}
use lib.ListN.{length}
use lib.Seq.{sets}
use borrow.Author.Tests.{lt-ltb, le-ltb, le-leb, lt-leb}
use Rattle.event.specs.declared.Event.{Event}
use Rattle.event.specs.declared.Refusal.TheVariants.{WrongSize}
use Rattle.buffer.specs.Put.{put_of, held_of}
use Rattle.std.specs.Prelude.{Ok, Err, Result}
use Rattle.trace.specs.Trace.{event_at}
use Rattle.trace.specs.declared.Misread.{Misread}
use Rattle.report.specs.Report.{entry_text}
use Rattle.rules.specs.Replies.{History, taken}
use Rattle.rules.specs.Shows.{answer, shown}
use Rattle.keeper.specs.Keeping.{outcome_of}
use Rattle.history.specs.Agreement.{run}
use Rattle.history.proofs.Agree.{agreement}
use Rattle.player.proofs.SizeLaws.{bounded}
use Rattle.player.proofs.PlayedLaws.{entry_by}
use Rattle.player.specs.Report.{lines, report_from, report_of, replay_answer, replay_buffer}
use Rattle.player.specs.Played.{lines_by, played_from, played_of}

-- ---- stepping and rules

pub entry_is : (e : Event) (h : History) → entry_by (outcome_of (run h) e) ≡ entry_text (answer e h) (shown (taken (e ∷ h)))
entry_is e h = rw ((agreement h).answers e, (agreement h).outputs e)

played_is : (k : ℕ) (text : List ℕ) (at line : ℕ) (h : History) → played_from k text at line (run h) ≡ report_from k text at line h
unfolding played_from report_from run
played_is zero text at line h = refl
played_is (suc k) text at line h = go (event_at text at) (λ next e. played_is k text next (line + 4) (e ∷ h))
  where
    go : (r : Result (Event × ℕ) Misread)
        → ((next : ℕ) (e : Event) → played_from k text next (line + 4) (run (e ∷ h)) ≡ report_from k text next (line + 4) (e ∷ h))
        → cond (leb (length text) at) [] (lines_by r line (run h) (λ next x. played_from k text next (line + 4) x))
        ≡ cond (leb (length text) at) [] (lines r line h (λ next x. report_from k text next (line + 4) x))
    go (Ok (e, next)) ih = rw (entry_is e h, ih next e)
    go (Err w) ih = refl

pub report_is : (text : List ℕ) → played_of text ≡ report_of text
unfolding played_of report_of run
report_is text = played_is (length text) text 0 1 []

-- ---- the answer

module _ (text d : List ℕ) where
  pub too_long : 65536 < length text → Err WrongSize ≡ replay_answer text d
  unfolding replay_answer
  too_long h = rw (lt-ltb 65536 (length text) h)

  pub too_long_held : 65536 < length text → d ≡ replay_buffer text d
  unfolding replay_buffer
  too_long_held h = rw (lt-ltb 65536 (length text) h)

  module _ (h : length text ≤ 65536) {report : List ℕ} (is : report ≡ played_of text) where
    size : 0 + length (report_of text) ≡ length report
    size = zero-add (length (report_of text)) ∙ ap length (sym (is ∙ report_is text))

    module _ {n : ℕ} (e : n ≡ length report) (l : length d < n) where
      pub too_short_lem : Err WrongSize ≡ replay_answer text d
      unfolding replay_answer put_of
      too_short_lem = rw (le-ltb 65536 (length text) h, size, ← e, lt-leb n (length d) l)

      pub too_short_held : d ≡ replay_buffer text d
      unfolding replay_buffer held_of
      too_short_held = rw (le-ltb 65536 (length text) h, size, ← e, lt-leb n (length d) l)

    -- the report has room: it was measured, or the buffer has room for the longest
    pub measured_room : {n : ℕ} → n ≡ length report → n ≤ length d → length report ≤ length d
    measured_room e l = rw (← e) l

    pub sure_room : 3 * length text + 26 ≤ length d → length report ≤ length d
    sure_room l = omega (arith, bounded text h, ap length (is ∙ report_is text))

    module _ (room : length report ≤ length d) where
      pub answered : {o : ℕ} → o ≡ length report → Ok o ≡ replay_answer text d
      unfolding replay_answer put_of
      answered e = rw (le-ltb 65536 (length text) h, size, le-leb (length report) (length d) room, e)

      pub answered_held : {d' : List ℕ} → d' ≡ sets d 0 report → d' ≡ replay_buffer text d
      unfolding replay_buffer held_of
      answered_held e = rw (le-ltb 65536 (length text) h, size, le-leb (length report) (length d) room) (e ∙ ap (sets d 0) (is ∙ report_is text))
