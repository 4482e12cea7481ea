-- What is printed of a text, by the keeper that it leaves, and by what it was written of. Assumes nothing.
use Prim.Native.Nat.{ℕ, ◌≤◌, ◌<◌}
use mathlib.Core.Path.{◌≡◌, refl, sym, ap, ◌∙◌}
use mathlib.Core.List.{List}
use native.Mathlib.Omega.{arith}
use lib.Dec.{ltb}
use lib.ListN.{length}
use borrow.Author.Tests.{lt-ltb, le-ltb}
use Rattle.integer.proofs.BoolLaws.{by_cases}
use Rattle.decimal.specs.Decimal.{decimal_of}
use Rattle.event.specs.Answers.{refusal_number}
use Rattle.event.specs.declared.Refusal.{Refusal}
use Rattle.event.specs.declared.Refusal.TheVariants as refusal
use Rattle.rules.specs.Replies.{History}
use Rattle.trace.specs.Whole.{Whole, Events, WrongLine, events_of, whole_text_of}
use Rattle.trace.proofs.WholeLaws.{written, only_written}
use Rattle.report.specs.Report.{field_text, answer_text}
use Rattle.keeper.specs.declared.Keeper as keeper
use Rattle.history.specs.Agreement.{run}
use Rattle.std.specs.Prelude.{Option, Result, Ok, Err, ok_or}
use Rattle.runner.specs.Reached.{reached_by, last_by}
use Rattle.runner.specs.Lines.{whole_lines, lines_after, LinesOf}

-- ---- what `after_last` returns

module _ (text : List ℕ) where
  pub last_long : 65536 < length text → Err refusal.WrongSize ≡ last_by text
  unfolding last_by
  last_long l = rw (lt-ltb 65536 (length text) l)

  module _ (short : length text ≤ 65536) {r : Option keeper.Keeper} (ran : r ≡ reached_by (events_of text)) where
    pub last_judged : {l : Result keeper.Keeper Refusal} → l ≡ ok_or r refusal.Malformed → l ≡ last_by text
    unfolding last_by
    last_judged q = rw (le-ltb 65536 (length text) short, ← ran) q

-- ---- lines by the keeper

module _ (lines : History → List ℕ) (text : List ℕ) where
  judged : length text ≤ 65536 → lines_after lines text ≡ whole_lines lines (events_of text)
  unfolding lines_after
  judged short = rw (le-ltb 65536 (length text) short)

  -- of each text: it is too long, or malformed, or leaves the keeper of its events
  pub by_last : (P : Result keeper.Keeper Refusal → List ℕ → Type 0) → P (Err refusal.WrongSize) (answer_text (refusal_number refusal.WrongSize))
      → P (Err refusal.Malformed) (answer_text (refusal_number refusal.Malformed)) → ((h : History) → P (Ok (run h)) (lines h))
      → P (last_by text) (lines_after lines text)
  unfolding last_by lines_after
  by_last P long wrong kept = by_cases (ltb 65536 (length text)) (λ l. rw l long) (λ s. rw s (go (events_of text)))
    where
      go : (w : Whole) → P (ok_or (reached_by w) refusal.Malformed) (whole_lines lines w)
      go (Events h) = (unfold reached_by whole_lines in kept h)
      go WrongLine = (unfold reached_by whole_lines in wrong)

  module _ {l : Result keeper.Keeper Refusal} (is : l ≡ last_by text) where
    pub refused_lines : {r : Refusal} → l ≡ Err r → answer_text (refusal_number r) ≡ lines_after lines text
    refused_lines {r} q =
        by_last (λ x t. x ≡ Err r → answer_text (refusal_number r) ≡ t)
        (λ e. let s : refusal.WrongSize ≡ r = cc in rw (← s))
        (λ e. let s : refusal.Malformed ≡ r = cc in rw (← s))
        (λ h e. cc) (sym is ∙ q)

    pub kept_lines : {k : keeper.Keeper} {t : List ℕ} → l ≡ Ok k → ((h : History) → k ≡ run h → t ≡ lines h) → t ≡ lines_after lines text
    kept_lines {k} {t} q each =
        by_last (λ x u. x ≡ Ok k → t ≡ u)
        (λ e. cc)
        (λ e. cc)
        (λ h e. let s : run h ≡ k = cc in each h (sym s)) (sym is ∙ q)

-- ---- lines by what the text was written of

-- a text of no list of events has a wrong line
no_events : (text : List ℕ) → ((h : History) → text ≡ whole_text_of h → ⊥) → events_of text ≡ WrongLine
no_events text none = go (events_of text) refl
  where
    go : (w : Whole) → events_of text ≡ w → w ≡ WrongLine
    go (Events h) q = absurd (none h (only_written text q))
    go WrongLine q = refl

pub lines_of : (lines : History → List ℕ) (text : List ℕ) → LinesOf lines text
unfolding lines_after whole_lines answer_text field_text decimal_of
lines_of lines text =
    record {
      long = λ l. rw (lt-ltb 65536 (length text) l);
      wrong = λ short none. judged lines text short ∙ ap (whole_lines lines) (no_events text none);
      events = λ h t. judged lines text t.short ∙ ap (whole_lines lines) (ap events_of t.whole ∙ written h t.numbers);
    }

-- no line is longer than so many bytes
pub lines_within : (lines : History → List ℕ) (n : ℕ) → 10 ≤ n → ((h : History) → length (lines h) ≤ n) → (text : List ℕ) → length (lines_after lines text) ≤ n
unfolding answer_text field_text decimal_of
lines_within lines n ten each text =
    by_last lines text (λ l t. length t ≤ n) (omega arith) (omega arith) each
