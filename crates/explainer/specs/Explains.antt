-- What the program `why` prints, a second time: of a text by what it was written of, in bytes, and in the page's words of what is told.
use Rattle.std.specs.Prelude.{ℕ, ◌<◌, ◌≤◌, ◌≡◌, false, List, [], ◌∷◌, ◌++◌, length, Ok}
use Rattle.decimal.specs.Decimal.{decimal_of}
use Rattle.part.specs.declared.FanId.TheVariants.{One, Two}
use Rattle.event.specs.declared.Reason.{Reason}
use Rattle.rules.specs.Replies.{History}
use Rattle.rules.specs.PageReplies.{power_on}
use Rattle.rules.specs.PageReasons.{told_of}
use Rattle.rules.specs.PageStamps.{aged_fan}
use Rattle.trace.specs.Whole.{whole_text_of}
use Rattle.runner.specs.Lines.{TraceOf}
use Rattle.explainer.specs.Words.{reason_line}
use Rattle.explainer.specs.Explained.{explained}

pub record Explains (text : List ℕ) : Type 0 where
  -- answer=11: more than 65,536 bytes, whatever they are
  pub long : 65536 < length text → explained text ≡ 97 ∷ 110 ∷ 115 ∷ 119 ∷ 101 ∷ 114 ∷ 61 ∷ 49 ∷ 49 ∷ 10 ∷ []
  -- answer=10: the text of no list of events
  pub wrong :
      length text ≤ 65536 → ((h : History) → text ≡ whole_text_of h → ⊥) → explained text ≡ 97 ∷ 110 ∷ 115 ∷ 119 ∷ 101 ∷ 114 ∷ 61 ∷ 49 ∷ 48 ∷ 10 ∷ []
  -- answer=1: events that bring no power
  pub off : (h : History) → TraceOf h text → power_on h ≡ false → explained text ≡ 97 ∷ 110 ∷ 115 ∷ 119 ∷ 101 ∷ 114 ∷ 61 ∷ 49 ∷ 10 ∷ []
  -- else a line for each fan, with what is told of it after the last event; then age1= and age2=, with the clock events that are told (T-07)
  pub lines :
      (h : History) (one two : Reason) (m n : ℕ) → TraceOf h text → told_of One h ≡ Ok one → told_of Two h ≡ Ok two →
      aged_fan One h ≡ Ok m → aged_fan Two h ≡ Ok n →
      explained text
      ≡ (reason_line One one ++ reason_line Two two)
      ++ ((97 ∷ 103 ∷ 101 ∷ 49 ∷ 61 ∷ (decimal_of m ++ (10 ∷ []))) ++ (97 ∷ 103 ∷ 101 ∷ 50 ∷ 61 ∷ (decimal_of n ++ (10 ∷ []))))
