-- The page of the panel holds after every list. Assumes nothing.
use Prim.Native.Nat.{ℕ, ◌*◌, ◌/◌, ◌<◌}
use mathlib.Core.Path.{◌≡◌, refl, sym, ap, ◌∙◌}
use mathlib.Core.List.{List, [], ◌∷◌}
use native.Mathlib.Omega.{arith}
use native.Mathlib.Nat.{mul-pos}
use lib.IntN.{ℤ}
use lib.ListN.{get_or}
use borrow.Author.Rules.{rules}
use borrow.Author.Tests.{ne_eqb}
use Rattle.integer.proofs.BoolLaws.{by_cases}
use Rattle.part.specs.declared.ChannelId.{ChannelId}
use Rattle.part.specs.declared.ChannelId.TheVariants.{Local, Remote1, Remote2}
use Rattle.part.specs.declared.FanId.{FanId}
use Rattle.part.specs.declared.FanId.TheVariants.{One, Two}
use Rattle.event.specs.declared.Panel as panel
use Rattle.event.specs.declared.Refusal.{Refusal}
use Rattle.std.specs.Prelude.{Result, Ok, Err}
use Rattle.rules.specs.Registers.{speed_at, characteristics_at, exists_at}
use Rattle.rules.specs.Stored.{powered, stored_at}
use Rattle.rules.specs.Replies.{History, taken}
use Rattle.rules.specs.Temperatures.{temperature}
use Rattle.rules.specs.Shows.{byte_at, value}
use Rattle.rules.specs.Panels.{quotient_of, degrees_of, divisor_of, speed_of, speed_for, figures, panel_for, panel_number}
use Rattle.rules.specs.Floats.{Exactly}
use Rattle.rules.specs.PageWords.{sampled, Accepted, register, reading_figure}
use Rattle.rules.specs.PageReasons.{eighths_by}
use Rattle.rules.specs.PagePanel.{paneled, degrees_on, speed_on, count_figure, divisor_figure, Turns, PagePanel}
use Rattle.rules.proofs.TakenLaws.{took, refused_is, accepted_is}
use Rattle.rules.proofs.StoredLaws.{byte}
use Rattle.rules.proofs.OffsetLaws.{figure_is}
use Rattle.rules.proofs.ReadingLaws.{last_reading_lem, in_bytes, reads_back}
use Rattle.rules.proofs.FanWordsLaws.{at_each, characteristics_is}
use Rattle.rules.proofs.FloatLaws.{exact, divisor_within}
use Rattle.rules.proofs.NearestLaws.{nearest_quotient}

-- ---- the panel that is told

figures_in : Result panel.Panel Refusal → panel.Panel
figures_in (Ok p) = p
figures_in (Err r) = figures []

module _ (h : History) {p : panel.Panel} (told : paneled h ≡ Ok p) where
  figures_are : p ≡ figures (taken h)
  unfolding figures_in panel_for
  figures_are =
      by_cases (powered (taken h))
      (λ on. ap figures_in (sym told) ∙ rw on)
      (λ off. let z : 1 ≡ 0 = ap panel_number (rw off at told) in absurd (omega (arith, z)))

  degrees_are : (c : ChannelId) → degrees_on c p ≡ degrees_of (temperature c (taken h))
  unfolding figures
  degrees_are Local = rw figures_are
  degrees_are Remote1 = rw figures_are
  degrees_are Remote2 = rw figures_are

  speeds_are : (f : FanId) → speed_on f p ≡ speed_for f (taken h)
  unfolding figures
  speeds_are One = rw figures_are
  speeds_are Two = rw figures_are

-- ---- temperatures

module _ (h : History) (c : ChannelId) {p : panel.Panel} (told : paneled h ≡ Ok p) where
  held : Exactly (degrees_on c p) (temperature c (taken h)) 8
  held = rw (degrees_are h told c) (exact (temperature c (taken h)) (in_bytes c (taken h)))

  degrees_back : Exactly (degrees_on c p) (eighths_by c (λ a. register a h)) 8
  degrees_back = rw (← reads_back (took h) c) held

sampled_held : (h : History) (c : ChannelId) (t : ℤ) {p : panel.Panel} → Accepted (sampled c t) h → paneled (sampled c t ∷ h) ≡ Ok p →
    Exactly (degrees_on c p) (reading_figure c t h) 8
sampled_held h c t go told =
    let q : temperature c (taken (sampled c t ∷ h)) ≡ reading_figure c t h =
    ap (temperature c) (accepted_is (sampled c t) h go) ∙ last_reading_lem (taken h) t c ∙ figure_is c t h in
    rw (← q) (held (sampled c t ∷ h) c told)

-- ---- speeds

pub count_is : (h : History) (f : FanId) → count_figure f h ≡ stored_at (speed_at f) (taken h)
unfolding value byte_at exists_at
count_is h One = refl
count_is h Two = refl

abbrev Alike : ℕ → Type 0
Alike code = let rest : List ℕ = 2 ∷ 4 ∷ [] in get_or (1 ∷ 2 ∷ 4 ∷ 8 ∷ []) code 0 ≡ get_or (1 ∷ rest) code 8

by_table : (b : ℕ) → b < 256 → get_or (1 ∷ 2 ∷ 4 ∷ 8 ∷ []) (b / 64) 0 ≡ divisor_of b
unfolding divisor_of
by_table b h = at_each 4 Alike (search rules) (b / 64) (omega arith)

module _ (h : History) (f : FanId) where
  pub divisor_is : divisor_figure f h ≡ divisor_of (stored_at (characteristics_at f) (taken h))
  divisor_is = rw (characteristics_is h (taken h) refl f) (by_table _ (byte (characteristics_at f) (took h)))

  turns : 0 < count_figure f h → count_figure f h < 255 → Turns (count_figure f h * divisor_figure f h) (speed_for f (taken h))
  unfolding Turns speed_of quotient_of
  turns low high =
      let n = stored_at (speed_at f) (taken h) in
      let p : 0 < n = rw (count_is h f) at low in
      let q : n < 255 = rw (count_is h f) at high in
      let z : n ≡ 0 → ⊥ = λ e. omega arith in
      let s : n ≡ 255 → ⊥ = λ e. omega arith in
      rw (count_is h f, divisor_is, ne_eqb n 0 z, ne_eqb n 255 s)
      (nearest_quotient 675000 _ (mul-pos p (divisor_within (stored_at (characteristics_at f) (taken h))).0) (omega arith))

pub page_panel : (h : History) → PagePanel h
page_panel h =
    record {
      no_power = λ off. (unfold panel_for in rw off);
      given = λ on. (unfold panel_for in rw on);
      temperature = λ c p told. degrees_back h c told;
      sample = λ c t p go told. sampled_held h c t go told;
      not_measured = λ f p told z. speeds_are h told f ∙ (unfold speed_of in rw (← count_is h f, z));
      stalled = λ f p told z. speeds_are h told f ∙ (unfold speed_of in rw (← count_is h f, z));
      speed = λ f p told low high. rw (speeds_are h told f) (turns h f low high);
      refused = λ e bad. ap panel_for (refused_is e h bad);
    }
