-- Document 01, "Trace text and report": the wrong line as a reader of the text counts it, newline by newline.
use Rattle.std.specs.Prelude.{ℕ, zero, suc, ◌+◌, ◌<◌, ◌≡◌, List, [], length, drop, Err}
use Rattle.line.specs.Line.{first_line}
use Rattle.trace.specs.Trace.{event_at}
use Rattle.rewriter.specs.Rewritten.{copy_end}
use Rattle.rewriter.specs.Wrong.{wrong_line}

-- what stands behind the first line and its newline, and behind n lines
abbrev pub behind_line : List ℕ → List ℕ
behind_line text = drop (length (first_line text) + 1) text

unfoldable pub behind_lines : (n : ℕ) → List ℕ → List ℕ
behind_lines zero text = text
behind_lines (suc n) text = behind_line (behind_lines n text)

pub record Handed (text : List ℕ) : Type 0 where
  -- where the whole events end before the text does, and line i of the next four is wrong, line i from there is handed back
  pub wrong :
      (i start : ℕ) → copy_end text (length text) < length text → event_at text (copy_end text (length text)) ≡ Err (record { line = i; start = start }) →
      wrong_line text ≡ first_line (behind_lines i (drop (copy_end text (length text)) text))
  -- and where they end with the text, none is
  pub none : copy_end text (length text) ≡ length text → wrong_line text ≡ []
