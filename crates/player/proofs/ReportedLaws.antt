-- The report of a text by its events, event by event. Assumes nothing.
use Prim.Native.Nat.{ℕ, zero, suc, ◌+◌, ◌-◌, ◌*◌}
use mathlib.Core.Path.{◌≡◌, refl, sym, ap, ◌∙◌}
use mathlib.Core.List.{List, [], ◌∷◌, ◌++◌, append-nil, append_assoc}
use mathlib.Core.Bool.{Bool, true, false, cond}
use native.Mathlib.Omega.{arith}
use lib.Dec.{leb}
use lib.ListN.{length, take, drop, take-append-drop}
use lib.Seq.{take-add, length-take-le}
use borrow.Author.Tests.{leb-false}
use Rattle.rules.specs.Replies.{History, taken}
use Rattle.rules.specs.Shows.{answer, shown}
use Rattle.event.specs.declared.Event.{Event}
use Rattle.trace.specs.Trace.{event_at}
use Rattle.trace.specs.Whole.{Whole, Events, WrongLine, whole_by, events_from, events_of, whole_text_of}
use Rattle.trace.specs.declared.Misread.{Misread}
use Rattle.std.specs.Prelude.{Result, Ok, Err}
use Rattle.trace.proofs.Onward.{onward}
use Rattle.trace.proofs.Canonical.{canonical}
use Rattle.report.specs.Report.{entry_text, malformed_text}
use Rattle.player.specs.Report.{lines, report_from, report_of}
use Rattle.player.specs.Reported.{entries_of, Stops, Reported}

module _ (s : List ℕ) where
  -- what is to be shown of the text, by what its events are
  abbrev Told : Whole → Type 0
  Told (Events h) = report_of s ≡ entries_of h
  Told WrongLine = Stops s

  -- the text up to the end of the next event is that of the events with it
  further : (at : ℕ) (h : History) → take at s ≡ whole_text_of h → {e : Event} {next : ℕ} → Ok (e, next) ≡ event_at s at
      → take next s ≡ whole_text_of (e ∷ h)
  unfolding whole_text_of
  further at h t {e} {next} x =
      let n : next ≡ at + (next - at) = omega (arith, onward s at x refl) in
      ap (λ (m : ℕ). take m s) n ∙ take-add at (next - at) s ∙ rw (t, canonical s at (sym x))

  -- the lines of the next event stand behind those of the events before
  longer : (h : History) (e : Event) (rest : List ℕ) → report_of s ≡ entries_of h ++ (entry_text (answer e h) (shown (taken (e ∷ h))) ++ rest)
      → report_of s ≡ entries_of (e ∷ h) ++ rest
  unfolding entries_of
  longer h e rest r = r ∙ sym (append_assoc (entries_of h) (entry_text (answer e h) (shown (taken (e ∷ h)))) rest)

  -- a line of the next event is wrong or missing
  stops : (at line : ℕ) (h : History) → take at s ≡ whole_text_of h → line ≡ 1 + 4 * length h → leb (length s) at ≡ false
      → {w : Misread} → Err w ≡ event_at s at → report_of s ≡ entries_of h ++ malformed_text (line + w.line) → Stops s
  stops at line h t n b {w} x r =
      let l : length (whole_text_of h) ≡ at = rw (← t) (length-take-le at s (omega (arith, leb-false (length s) at b))) in
      record {
        before = h;
        rest = drop at s;
        line = w.line;
        start = w.start;
        begins = rw (← t) (sym (take-append-drop at s));
        wrong = rw l (sym x);
        report = r ∙ ap (λ (m : ℕ). entries_of h ++ malformed_text m) (omega arith);
      }

  -- from an index on, after the events h, whose lines are there
  told_from : (k at line : ℕ) (h : History) → take at s ≡ whole_text_of h → line ≡ 1 + 4 * length h
      → report_of s ≡ entries_of h ++ report_from k s at line h → Told (events_from k s at h)
  unfolding events_from report_from
  told_from zero at line h t n r = r ∙ append-nil (entries_of h)
  told_from (suc k) at line h t n r = go (leb (length s) at) refl (event_at s at) refl r
      (λ next e. told_from k next (line + 4) (e ∷ h))
    where
      go : (b : Bool) → leb (length s) at ≡ b → (x : Result (Event × ℕ) Misread) → x ≡ event_at s at
          → report_of s ≡ entries_of h ++ cond b [] (lines x line h (λ next h'. report_from k s next (line + 4) h'))
          → ((next : ℕ) (e : Event) → take next s ≡ whole_text_of (e ∷ h) → line + 4 ≡ 1 + 4 * length (e ∷ h)
          → report_of s ≡ entries_of (e ∷ h) ++ report_from k s next (line + 4) (e ∷ h) → Told (events_from k s next (e ∷ h)))
          → Told (cond b (Events h) (whole_by x h (λ next h'. events_from k s next h')))
      go true b x q r ih = r ∙ append-nil (entries_of h)
      go false b (Ok (e, next)) q r ih =
          ih next e (further at h t q) (omega arith) (longer h e (report_from k s next (line + 4) (e ∷ h)) r)
      go false b (Err w) q r ih = stops at line h t n b q r

  told : Told (events_of s)
  unfolding events_of report_of whole_text_of entries_of
  told = told_from (length s) 0 1 [] refl refl refl

pub reported : (text : List ℕ) → Reported text
reported text = record { events = λ h q. rw q at (told text); malformed = λ q. rw q at (told text) }
