-- The lines as they are worked out, as they are defined, and in whole numbers by registers: the same. Assumes nothing.
use Rattle.std.proofs.Common.{◌≡◌, ℕ, zero, suc, ◌+◌, ◌*◌, ◌/◌, ◌<◌, ◌≤◌, true, eqb, List, ◌++◌, ℤ, pos, negsuc, ◌+ℤ◌, ◌*ℤ◌, neg_ℤ, sym, ap, ◌∙◌, mul-le-mul}
use Rattle.std.proofs.Common.{mul-pos, arith, lt-ltb, le-leb}
use lib.Ieee.{Float}
use lib.Signed.{le_z, lt_z}
use borrow.Author.Tests.{eqb-false}
use Rattle.integer.proofs.BoolLaws.{by_cases}
use Rattle.decimal.specs.Decimal.{decimal_of, text_of}
use Rattle.part.specs.declared.ChannelId.{ChannelId}
use Rattle.part.specs.declared.ChannelId.TheVariants.{Local, Remote1, Remote2}
use Rattle.part.specs.declared.FanId.{FanId}
use Rattle.part.specs.declared.FanId.TheVariants.{One, Two}
use Rattle.rules.specs.Registers.{speed_at, characteristics_at}
use Rattle.rules.specs.Events.{from_to, lies}
use Rattle.rules.specs.Stored.{powered, stored_at}
use Rattle.rules.specs.Replies.{History, taken}
use Rattle.rules.specs.Temperatures.{temperature}
use Rattle.rules.specs.Panels.{quotient_of, degrees_of, divisor_of, speed_of, speed_for, figures, panel_for}
use Rattle.rules.proofs.TakenLaws.{took}
use Rattle.rules.proofs.StoredLaws.{byte}
use Rattle.rules.proofs.ReadingLaws.{in_bytes, reads_back}
use Rattle.rules.proofs.FloatLaws.{divisor_within}
use Rattle.rules.proofs.PagePanelLaws.{count_is, divisor_is}
use Rattle.trace.specs.Trace.{ended, number_text}
use Rattle.report.specs.Report.{field_text, answer_text}
use Rattle.runner.proofs.LinesLaws.{lines_of}
use Rattle.display.specs.Lines.{local_name, remote1_name, remote2_name, fan1_name, fan2_name, speed_line, figure_lines}
use Rattle.display.specs.Displayed.{floor_of, paneled_text, panel_lines}
use Rattle.display.specs.Worked.{revolutions_of, tenths_of, worked_told}
use Rattle.display.specs.Displays.{tenths_figure, tenths_shown, speed_shown, shown_lines, Displays}
use Rattle.display.proofs.FloorLaws.{tenths_worked, tenths_floor, turns_worked, turns_floor}

five : {a a' b b' c c' d d' e e' : List ℕ} → a ≡ a' → b ≡ b' → c ≡ c' → d ≡ d' → e ≡ e' → a ++ (b ++ (c ++ (d ++ e))) ≡ a' ++ (b' ++ (c' ++ (d' ++ e')))
five p q r s t = rw (p, q, r, s, t)

-- ---- functions that give the whole numbers of a panel's figures give its lines

module _ (tenths revolutions : Float → ℤ)
    (by-tenths : (t : ℤ) → lies (from_to (negsuc 1023) (pos 1023)) t ≡ true → tenths (degrees_of t) ≡ tenths_figure t)
    (by-turns : (n : ℕ) → 0 < n → n ≤ 2032 → revolutions (quotient_of (pos 675000) n) ≡ pos (675000 / n)) (h : History) where
  tenths_line : (name : List ℕ) (c : ChannelId) → number_text name (tenths (degrees_of (temperature c (taken h)))) ≡ ended (name ++ tenths_shown c h)
  unfolding number_text tenths_shown
  tenths_line name c =
      ap (λ (z : ℤ). ended (name ++ text_of z)) (by-tenths (temperature c (taken h)) (in_bytes c (taken h)) ∙ ap tenths_figure (reads_back (took h) c))

  speed_line_lem : (name : List ℕ) (f : FanId) → speed_line revolutions name (speed_for f (taken h)) ≡ ended (name ++ speed_shown f h)
  unfolding speed_line speed_of speed_shown number_text text_of
  speed_line_lem name f =
      let n = stored_at (speed_at f) (taken h) in
      let d = stored_at (characteristics_at f) (taken h) in
      rw (count_is h f, divisor_is h f)
      (by_cases (eqb n 0)
      (λ z. rw z)
      (λ z. by_cases (eqb n 255)
      (λ s. rw (z, s))
      (λ s.
      let p : 0 < n = omega (arith, eqb-false n 0 z) in
      let q : n ≤ 254 = omega (arith, eqb-false n 255 s, byte (speed_at f) (took h)) in
      rw (z, s) (rw (by-turns (n * divisor_of d) (mul-pos p (divisor_within d).0) (mul-le-mul q (divisor_within d).1))))))

  lines_are : figure_lines tenths revolutions (figures (taken h)) ≡ shown_lines h
  unfolding figure_lines figures shown_lines
  lines_are =
      five (tenths_line local_name Local) (tenths_line remote1_name Remote1) (tenths_line remote2_name Remote2) (speed_line_lem fan1_name One)
      (speed_line_lem fan2_name Two)

module _ (h : History) where
  worked_lines : figure_lines tenths_of revolutions_of (figures (taken h)) ≡ shown_lines h
  worked_lines = lines_are tenths_of revolutions_of tenths_worked turns_worked h

  floor_lines : figure_lines (floor_of 10) (floor_of 1) (figures (taken h)) ≡ shown_lines h
  floor_lines = lines_are (floor_of 10) (floor_of 1) tenths_floor turns_floor h

  pub worked_is : worked_told (panel_for (taken h)) ≡ panel_lines h
  unfolding worked_told paneled_text panel_for
  worked_is = by_cases (powered (taken h)) (λ on. rw on (worked_lines ∙ sym floor_lines)) (λ off. rw off)

-- ---- rounded down: 8 z ≤ 10 t < 8 (z + 1)

abbrev Down : (t z : ℤ) → Type 0
Down t z = (le_z (pos 8 *ℤ z) (pos 10 *ℤ t) ≡ true) × (lt_z (pos 10 *ℤ t) (pos 8 *ℤ (z +ℤ pos 1)) ≡ true)

above : (n k : ℕ) → 8 * k ≤ 10 * n → 10 * n < 8 * (k + 1) → Down (pos n) (pos k)
above n k a b = (le-leb (8 * k) (10 * n) a, lt-ltb (10 * n) (8 * (k + 1)) b)

ten : (n : ℕ) → 10 * suc n ≡ suc (9 + 10 * n)
ten n = omega arith

eight : (k : ℕ) → 8 * suc k ≡ suc (7 + 8 * k)
eight k = omega arith

below_first : (n k : ℕ) → 10 * suc n ≤ 8 * suc k → le_z (pos 8 *ℤ negsuc k) (pos 10 *ℤ negsuc n) ≡ true
below_first n k a = rw (ten n, eight k) (le-leb (9 + 10 * n) (7 + 8 * k) (omega arith))

one_up : (j : ℕ) → negsuc (suc j) +ℤ pos 1 ≡ negsuc j
one_up j = rw (lt-ltb 1 (suc (suc j)) (omega arith)) (ap negsuc (omega arith))

below_next : (n k : ℕ) → 8 * k < 10 * suc n → lt_z (pos 10 *ℤ negsuc n) (pos 8 *ℤ (negsuc k +ℤ pos 1)) ≡ true
below_next n zero b = rw (ten n)
below_next n (suc j) b = rw (one_up j, ten n, eight j) (lt-ltb (7 + 8 * j) (9 + 10 * n) (omega arith))

below : (n m : ℕ) → 10 * suc n ≤ 8 * m → 8 * m < 10 * suc n + 8 → Down (negsuc n) (neg_ℤ (pos m))
below n zero a b = absurd (omega arith)
below n (suc k) a b = (below_first n k a, below_next n k (omega arith))

down : (t : ℤ) → Down t (tenths_figure t)
unfolding tenths_figure
down (pos n) = above n (10 * n / 8) (omega arith) (omega arith)
down (negsuc n) = below n ((10 * suc n + 7) / 8) (omega arith) (omega arith)

-- ---- of a text

pub displays : (text : List ℕ) → Displays text
unfolding paneled_text panel_for answer_text field_text decimal_of
displays text =
    let page = lines_of panel_lines text in
    record {
      long = page.long;
      wrong = page.wrong;
      off = λ h t no. page.events h t ∙ rw no;
      lines = λ h t on. page.events h t ∙ rw on (floor_lines h);
      down = down;
    }
