-- The page, T-01: every sentence holds after every list of events. Assumes nothing.
use Prim.Native.Nat.{ℕ, zero, suc, ◌-◌, ◌*◌, ◌%◌}
use mathlib.Core.Path.{◌≡◌, refl, sym, ◌∙◌}
use mathlib.Core.Bool.{true, false, true≢false}
use mathlib.Core.List.{◌∷◌}
use native.Mathlib.Omega.{arith}
use lib.Dec.{ltb}
use lib.IntN.{ℤ, pos, negsuc, ◌+ℤ◌, ◌-ℤ◌, +ℤ_idr}
use lib.Signed.{le_z, lt_z}
use borrow.Author.Tests.{ltb-true, leb-true, eqb-false, le-leb, lt-leb}
use Rattle.integer.specs.Bits.{bit_of}
use Rattle.integer.proofs.BoolLaws.{by_cases, both}
use Rattle.part.specs.declared.ChannelId.{ChannelId}
use Rattle.part.specs.declared.ChannelId.TheVariants.{Local, Remote1, Remote2}
use Rattle.rules.specs.Registers.{exists_at, reset_at}
use Rattle.rules.specs.Events.{from_to, lies}
use Rattle.rules.specs.Stored.{Taken, stored_at}
use Rattle.rules.specs.Replies.{is_odd, History, taken}
use Rattle.rules.specs.Shows.{byte_at, value}
use Rattle.rules.specs.PageWords.{power, sampled, Accepted, by_channel, offset_byte, eight_offsets, top, reading_figure}
use Rattle.rules.specs.PageTemperatures.{reset}
use Rattle.rules.specs.PageOffsets.{reading_in, offset_written, PageOffsets}
use Rattle.rules.proofs.EventLaws.{val_lies}
use Rattle.rules.proofs.TakenLaws.{took, went, accepted_is}
use Rattle.rules.proofs.ReadingLaws.{reads_back}
use Rattle.rules.proofs.FanWordsLaws.{demanded_is}
use Rattle.rules.proofs.CalmLaws.{demand_same, target_same}
use Rattle.rules.proofs.PageTemperaturesLaws.{page_temperatures}
use Rattle.rules.proofs.PageStaysLaws.{page_stays}
use Rattle.rules.proofs.OffsetWriteLaws as written

-- ---- the order of sums

plus_above : (k : ℕ) (t : ℤ) → le_z (negsuc 1023) t ≡ true → le_z (negsuc 1023) (t +ℤ pos k) ≡ true
plus_above k (pos n) y = refl
plus_above k (negsuc n) y =
    by_cases (ltb k (suc n))
    (λ l. rw l (le-leb (suc n - suc k) 1023 (omega (arith, leb-true n 1023 y))))
    (λ l. rw l)

minus_below : (k high : ℕ) (t : ℤ) → le_z t (pos high) ≡ true → le_z (t -ℤ pos k) (pos high) ≡ true
minus_below zero high t y = rw (+ℤ_idr t) y
minus_below (suc k) high (pos n) y =
    by_cases (ltb n (suc k))
    (λ l. rw l)
    (λ l. rw l (le-leb (n - suc k) high (omega (arith, leb-true n high y))))
minus_below (suc k) high (negsuc n) y = refl

not_below_lem : (a b : ℤ) → lt_z a b ≡ true → le_z b a ≡ false
not_below_lem (pos a) (pos b) y = lt-leb b a (ltb-true a b y)
not_below_lem (pos a) (negsuc b) y = absurd (true≢false (sym y))
not_below_lem (negsuc a) (pos b) y = refl
not_below_lem (negsuc a) (negsuc b) y = lt-leb a b (ltb-true b a y)

-- 1023 is odd
even_below : (t : ℤ) → le_z t (pos 1023) ≡ true → is_odd t ≡ false → le_z t (pos 1022) ≡ true
even_below (pos n) l y = le-leb n 1022 (omega (arith, leb-true n 1023 l, eqb-false (n % 2) 1 y))
even_below (negsuc n) l y = refl

-- ---- a sample

module _ (h : History) (t : ℤ) where
  ranged : (c : ChannelId) → Accepted (sampled c t) h → lies (from_to (negsuc 1023) (pos 1023)) t ≡ true
  ranged Local go = val_lies (sampled Local t) (went (sampled Local t) (taken h) go).range 4 refl
  ranged Remote1 go = val_lies (sampled Remote1 t) (went (sampled Remote1 t) (taken h) go).range 4 refl
  ranged Remote2 go = val_lies (sampled Remote2 t) (went (sampled Remote2 t) (taken h) go).range 4 refl

  above : (c : ChannelId) → Accepted (sampled c t) h → le_z (negsuc 1023) t ≡ true
  above c go = (both (le_z (negsuc 1023) t) (le_z t (pos 1023)) (ranged c go)).0

  subtracted_below : (c : ChannelId) (k : ℕ) → Accepted (sampled c t) h → le_z (t -ℤ pos k) (top c) ≡ true
  subtracted_below Local k go =
      minus_below k 1022 t (even_below t (both (le_z (negsuc 1023) t) _ (ranged Local go)).1 (went (sampled Local t) (taken h) go).even)
  subtracted_below Remote1 k go = minus_below k 1023 t (both (le_z (negsuc 1023) t) _ (ranged Remote1 go)).1
  subtracted_below Remote2 k go = minus_below k 1023 t (both (le_z (negsuc 1023) t) _ (ranged Remote2 go)).1

  top_above : (c : ChannelId) → le_z (negsuc 1023) (top c) ≡ true
  top_above Local = refl
  top_above Remote1 = refl
  top_above Remote2 = refl

  module _ (c : ChannelId) (go : Accepted (sampled c t) h) where
    shown : reading_in c (sampled c t ∷ h) ≡ reading_figure c t h
    shown = sym ((page_temperatures h).reading c t go)

    module _ (plus : bit_of (offset_byte c h) 7 ≡ false) where
      added : le_z (t +ℤ eight_offsets c h) (top c) ≡ true → reading_in c (sampled c t ∷ h) ≡ t +ℤ eight_offsets c h
      added l = shown ∙ rw (plus, l, plus_above (8 * (offset_byte c h % 16)) t (above c go))

      held_above_lem : lt_z (top c) (t +ℤ eight_offsets c h) ≡ true → reading_in c (sampled c t ∷ h) ≡ top c
      held_above_lem l = shown ∙ rw (plus, not_below_lem (top c) (t +ℤ eight_offsets c h) l, top_above c)

    module _ (minus : bit_of (offset_byte c h) 7 ≡ true) where
      subtracted : le_z (negsuc 1023) (t -ℤ eight_offsets c h) ≡ true → reading_in c (sampled c t ∷ h) ≡ t -ℤ eight_offsets c h
      subtracted l = shown ∙ rw (minus, subtracted_below c (8 * (offset_byte c h % 16)) go, l)

      held_below_lem : lt_z (t -ℤ eight_offsets c h) (negsuc 1023) ≡ true → reading_in c (sampled c t ∷ h) ≡ negsuc 1023
      held_below_lem l = shown ∙ rw (minus, subtracted_below c (8 * (offset_byte c h % 16)) go, not_below_lem (t -ℤ eight_offsets c h) (negsuc 1023) l)

-- ---- power and reset

module _ (d : Taken) where
  power_zero : (c : ChannelId) (w x y : ℤ) → value (by_channel 0x0D 0x0E 0x0F c) (power w x y ∷ d) ≡ 0
  unfolding value byte_at exists_at stored_at reset_at
  power_zero Local w x y = refl
  power_zero Remote1 w x y = refl
  power_zero Remote2 w x y = refl

  reset_zero : (c : ChannelId) (w : ℤ) (b : ℕ) → bit_of b 7 ≡ true → value (by_channel 0x0D 0x0E 0x0F c) (reset w b ∷ d) ≡ 0
  unfolding value byte_at exists_at stored_at reset_at
  reset_zero Local w b seven = rw seven
  reset_zero Remote1 w b seven = rw seven
  reset_zero Remote2 w b seven = rw seven

pub page_offsets : (h : History) → PageOffsets h
page_offsets h =
    let d = taken h in
    record {
      added = λ c t go plus l. added h t c go plus l;
      subtracted = λ c t go minus l. subtracted h t c go minus l;
      held_above = λ c t go plus l. held_above_lem h t c go plus l;
      held_below = λ c t go minus l. held_below_lem h t c go minus l;
      same = reads_back (took h);
      written = λ c w b go. rw (accepted_is (offset_written c w b) h go) (written.shown_same d c w b, written.value_same d c w b);
      channel_left = λ c x w b go. let u = written.settled d c w b in
          rw (accepted_is (offset_written c w b) h go) (u.reading x, u.latch x, u.flag x);
      demand_left = λ c x f w b go. let e = offset_written c w b in
          demanded_is (e ∷ h) (e ∷ d) (accepted_is e h go) f x
          ∙ (demand_same e d (written.settled d c w b) f x (written.errors d c w b x) ∙ sym (demanded_is h d refl f x));
      fan_left = λ c f w b go. let e = offset_written c w b in
          rw (accepted_is e h go)
          (target_same e d (written.settled d c w b) (written.errors d c w b) f, written.clocks_left_lem d c w b f, written.run_same d c w b f);
      zero_by_power = λ c w x y go. (
        sym (reads_back (took (power w x y ∷ h)) c) ∙ (page_stays h).unread_after_power c w x y go,
        rw (accepted_is (power w x y) h go) (power_zero d c w x y),
      );
      zero_by_reset = λ c w b go seven. (
        sym (reads_back (took (reset w b ∷ h)) c) ∙ (page_stays h).unread_after_reset c w b go seven,
        rw (accepted_is (reset w b) h go) (reset_zero d c w b seven),
      );
    }
