-- What the program `panel` prints, a second time: of a text by what it was written of, in bytes and in whole numbers, by registers.
use Rattle.std.specs.Prelude.{◌≡◌, ℕ, suc, ◌+◌, ◌*◌, ◌/◌, ◌<◌, ◌≤◌, true, false, cond, List, [], ◌∷◌, ◌++◌, length, ℤ, pos, negsuc, ◌+ℤ◌, ◌*ℤ◌, neg_ℤ, ◌==◌}
use Rattle.std.specs.Prelude.{◌≢◌, int_le, int_lt}
use Rattle.decimal.specs.Decimal.{decimal_of, text_of}
use Rattle.part.specs.declared.ChannelId.{ChannelId}
use Rattle.part.specs.declared.ChannelId.TheVariants.{Local, Remote1, Remote2}
use Rattle.part.specs.declared.FanId.{FanId}
use Rattle.part.specs.declared.FanId.TheVariants.{One, Two}
use Rattle.rules.specs.Replies.{History}
use Rattle.rules.specs.PageWords.{register}
use Rattle.rules.specs.PageReplies.{power_on}
use Rattle.rules.specs.PageReasons.{eighths_by}
use Rattle.rules.specs.PagePanel.{count_figure, divisor_figure}
use Rattle.trace.specs.Whole.{whole_text_of}
use Rattle.runner.specs.Lines.{TraceOf}
use Rattle.display.specs.Displayed.{displayed}

-- t eighths in whole tenths, rounded down
unfoldable pub tenths_figure : (t : ℤ) → ℤ
tenths_figure (pos n) = pos (10 * n / 8)
tenths_figure (negsuc n) = neg_ℤ (pos ((10 * suc n + 7) / 8))

-- the decimal of a channel's tenths, by the reading that the registers give back
unfoldable pub tenths_shown : ChannelId → History → List ℕ
unfolding text_of tenths_figure
tenths_shown c h = text_of (tenths_figure (eighths_by c (λ a. register a h)))

-- none at count 0, stalled at 255, else 675,000 over count and divisor, rounded down
unfoldable pub speed_shown : FanId → History → List ℕ
unfolding decimal_of
speed_shown f h =
    cond (count_figure f h == 0) (110 ∷ 111 ∷ 110 ∷ 101 ∷ [])
    (cond (count_figure f h == 255) (115 ∷ 116 ∷ 97 ∷ 108 ∷ 108 ∷ 101 ∷ 100 ∷ [])
    (decimal_of (675000 / (count_figure f h * divisor_figure f h))))

-- local=, remote1=, remote2=, fan1= and fan2=, a line each
unfoldable pub shown_lines : History → List ℕ
unfolding tenths_shown speed_shown
shown_lines h =
    (((108 ∷ 111 ∷ 99 ∷ 97 ∷ 108 ∷ 61 ∷ []) ++ tenths_shown Local h) ++ (10 ∷ []))
    ++ ((((114 ∷ 101 ∷ 109 ∷ 111 ∷ 116 ∷ 101 ∷ 49 ∷ 61 ∷ []) ++ tenths_shown Remote1 h) ++ (10 ∷ []))
    ++ ((((114 ∷ 101 ∷ 109 ∷ 111 ∷ 116 ∷ 101 ∷ 50 ∷ 61 ∷ []) ++ tenths_shown Remote2 h) ++ (10 ∷ []))
    ++ ((((102 ∷ 97 ∷ 110 ∷ 49 ∷ 61 ∷ []) ++ speed_shown One h) ++ (10 ∷ []))
    ++ (((102 ∷ 97 ∷ 110 ∷ 50 ∷ 61 ∷ []) ++ speed_shown Two h) ++ (10 ∷ [])))))

pub record Displays (text : List ℕ) : Type 0 where
  -- answer=11: more than 65,536 bytes, whatever they are
  pub long : 65536 < length text → displayed text ≡ 97 ∷ 110 ∷ 115 ∷ 119 ∷ 101 ∷ 114 ∷ 61 ∷ 49 ∷ 49 ∷ 10 ∷ []
  -- answer=10: the text of no list of events
  pub wrong :
      length text ≤ 65536 → ((h : History) → text ≢ whole_text_of h) → displayed text ≡ 97 ∷ 110 ∷ 115 ∷ 119 ∷ 101 ∷ 114 ∷ 61 ∷ 49 ∷ 48 ∷ 10 ∷ []
  -- answer=1: events that bring no power
  pub off : (h : History) → TraceOf h text → power_on h ≡ false → displayed text ≡ 97 ∷ 110 ∷ 115 ∷ 119 ∷ 101 ∷ 114 ∷ 61 ∷ 49 ∷ 10 ∷ []
  -- else the five lines, as the registers stand after the last event
  pub lines : (h : History) → TraceOf h text → power_on h ≡ true → displayed text ≡ shown_lines h
  -- "rounded down": z tenths of t eighths have 8 z ≤ 10 t < 8 (z + 1)
  pub down : (t : ℤ) → (int_le (pos 8 *ℤ tenths_figure t) (pos 10 *ℤ t) ≡ true) × (int_lt (pos 10 *ℤ t) (pos 8 *ℤ (tenths_figure t +ℤ pos 1)) ≡ true)
