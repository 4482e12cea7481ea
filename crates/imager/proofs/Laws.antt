-- The keeper after a list of events, and its image. Assumes nothing.
use Prim.Native.Nat.{ℕ, ◌-◌, ◌/◌, ◌%◌, ◌≤◌, ◌<◌}
use mathlib.Core.Path.{◌≡◌, sym, ◌∙◌}
use mathlib.Core.List.{List}
use native.Mathlib.Omega.{arith}
use lib.Dec.{eqb}
use lib.IntN.{ℤ}
use lib.ListN.{length}
use borrow.Author.Tests.{eq-eqb, ne_eqb}
use Rattle.integer.proofs.BoolLaws.{by_cases}
use Rattle.event.specs.declared.Event.{Event}
use Rattle.std.specs.Prelude.{Option, Some, None, Result, Ok, Err, ok_or}
use Rattle.event.specs.declared.Refusal.{Refusal}
use Rattle.event.specs.declared.Refusal.TheVariants.{Malformed, WrongSize}
use Rattle.rules.specs.Replies.{History, taken}
use Rattle.rules.specs.Shows.{image_reply, image_held}
use Rattle.keeper.specs.Keeping.{image_answer, image_buffer}
use Rattle.keeper.specs.declared.Keeper as keeper
use Rattle.history.specs.Agreement.{run}
use Rattle.history.proofs.Agree.{agreement}
use Rattle.stepper.specs.Steps.{event_numbered, event_count_from, first_events}
use Rattle.stepper.proofs.Laws.{none_count, end_count}
use Rattle.imager.specs.Image.{all_events, kept_by, after_by, by_events, image_after, image_left}

-- ---- event by event, up to one that is none, or the end

module _ (s : List ℤ) (end i : ℕ) (count : event_count_from (end - i) i s ≡ event_count_from end 0 s) where
  pub none_kept : {t : Option Event} → t ≡ event_numbered s i → t ≡ None → i < end → None ≡ kept_by end s
  unfolding kept_by
  none_kept is a below = rw (← none_count s end i count is a below, ne_eqb i end (λ e. omega arith))

  pub all_kept : {k : keeper.Keeper} → i ≤ end → end ≤ i → k ≡ run (first_events i s) → Some k ≡ kept_by end s
  unfolding kept_by
  all_kept h h' e =
      let n : i ≡ end = omega arith in
      rw (← end_count s end i count h', eq-eqb i end n, e, n)

-- ---- what `after_all` returns

module _ (s : List ℤ) where
  pub after_uneven : 0 < length s % 4 → Err WrongSize ≡ after_by s
  unfolding after_by
  after_uneven h = rw (ne_eqb (length s % 4) 0 (λ e. omega arith))

  module _ (even : length s % 4 ≤ 0) {r : Option keeper.Keeper} (e : r ≡ kept_by (length s / 4) s) where
    pub after_whole : {a : Result keeper.Keeper Refusal} → a ≡ ok_or r Malformed → a ≡ after_by s
    unfolding after_by
    after_whole q = rw (eq-eqb (length s % 4) 0 (omega arith), ← e) q

-- ---- what follows from a list, by the keeper that it leaves

module _ {A : Type 0} (refused : Refusal → A) (of : History → A) (s : List ℤ) where
  -- of each list: it is no whole events, or has a kind that is none, or leaves the keeper of its events
  by_after : (P : Result keeper.Keeper Refusal → A → Type 0) → P (Err WrongSize) (refused WrongSize) → P (Err Malformed) (refused Malformed)
      → ((h : History) → P (Ok (run h)) (of h)) → P (after_by s) (by_events refused of s)
  unfolding after_by kept_by
  by_after P size kind kept =
      by_cases (eqb (length s % 4) 0)
      (λ w. by_cases (all_events (length s / 4) s) (λ a. rw (w, a) (kept (first_events (length s / 4) s))) (λ a. rw (w, a) kind))
      (λ w. rw w size)

  module _ {a : Result keeper.Keeper Refusal} (is : a ≡ after_by s) where
    pub refused_then : {r : Refusal} → a ≡ Err r → refused r ≡ by_events refused of s
    refused_then {r} q =
        by_after (λ x y. x ≡ Err r → refused r ≡ y)
        (λ e. let t : WrongSize ≡ r = cc in rw (← t))
        (λ e. let t : Malformed ≡ r = cc in rw (← t))
        (λ h e. cc) (sym is ∙ q)

    pub kept_then : {k : keeper.Keeper} {x : A} → a ≡ Ok k → ((h : History) → k ≡ run h → x ≡ of h) → x ≡ by_events refused of s
    kept_then {k} {x} q each =
        by_after (λ b y. b ≡ Ok k → x ≡ y)
        (λ e. cc)
        (λ e. cc)
        (λ h e. let t : run h ≡ k = cc in each h (sym t)) (sym is ∙ q)

-- ---- the image

module _ (s : List ℤ) (d : List ℕ) {a : Result keeper.Keeper Refusal} (is : a ≡ after_by s) where
  module _ {r : Refusal} (q : a ≡ Err r) where
    pub refused_answer : Err r ≡ image_after s d
    unfolding image_after
    refused_answer = refused_then Err (λ h. image_reply d (taken h)) s is q

    pub refused_left : d ≡ image_left s d
    unfolding image_left
    refused_left = refused_then (λ r. d) (λ h. image_held d (taken h)) s is q

  module _ {k : keeper.Keeper} (q : a ≡ Ok k) where
    pub all_answer : {x : Result ℕ Refusal} → x ≡ image_answer k d → x ≡ image_after s d
    unfolding image_after
    all_answer e = kept_then Err (λ h. image_reply d (taken h)) s is q (λ h same. rw (e, same, (agreement h).image d))

    pub all_left : {d' : List ℕ} → d' ≡ image_buffer k d → d' ≡ image_left s d
    unfolding image_left
    all_left e = kept_then (λ r. d) (λ h. image_held d (taken h)) s is q (λ h same. rw (e, same, (agreement h).buffer d))
