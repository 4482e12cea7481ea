-- Demand 1 holds of every keeper and every event. Assumes nothing.
use Prim.Native.Nat.{ℕ, zero, suc, ◌<◌, ◌≤◌}
use mathlib.Core.Path.{◌≡◌, refl, sym, ◌∙◌}
use mathlib.Core.Bool.{Bool, true, false, cond, true≢false}
use mathlib.Core.List.{List}
use native.Mathlib.Omega.{arith}
use lib.Dec.{eqb, ltb}
use lib.ListN.{length, get_or, get_or-eq_default}
use borrow.Author.Tests.{ltb-true, eqb-true, eqb-false, ne_eqb, lt-ltb, le-ltb}
use Rattle.integer.proofs.BoolLaws.{by_cases}
use Rattle.event.specs.Answers.{number_of, data_of}
use Rattle.event.specs.declared.Refusal.{Refusal}
use Rattle.std.specs.Prelude.{Result, Ok}
use Rattle.event.specs.declared.Event.{Event}
use Rattle.rules.specs.Replies.{lowest, accepts}
use Rattle.judge.proofs.RightLaws.{right}
use Rattle.keeper.specs.Keeping.{is_on, standing_of, outcome_of, shown_by, image_answer, image_buffer}
use Rattle.keeper.specs.declared.Keeper.{Keeper}
use Rattle.keeper.specs.declared.Keeper.TheVariants.{Off, On}
use Rattle.history.specs.Demand1.{conditions, Applies, number, image_number, Demand1}

-- ---- the reply

abbrev test : Keeper → Event → ℕ → Bool
test k e n = get_or (conditions k e) n false

abbrev reply_of : Keeper → Event → Result ℕ Refusal
reply_of k e = lowest (is_on k) (standing_of k).address (standing_of k).monitoring (standing_of k).error1 (standing_of k).error2 e

-- of the numbers from m up, the answer has the lowest that applies, or 0 where none does; where it is not 0, the data is 0
record Lowest (k : Keeper) (e : Event) (m : ℕ) (a : Result ℕ Refusal) : Type 0 where
  given : 0 < number_of a → Applies k e (number_of a)
  lowest : (n : ℕ) → m ≤ n → Applies k e n → 0 < number_of a × number_of a ≤ n
  empty : 0 < number_of a → data_of a ≡ 0

module _ (k : Keeper) (e : Event) where
  untested : (n : ℕ) → test k e n ≡ false → Applies k e n → ⊥
  untested n f p = true≢false (sym p ∙ f)

  last : Lowest k e 14 (Ok 0)
  last =
      record {
        given = λ h. absurd (omega arith);
        lowest = λ n l p. absurd (untested n (get_or-eq_default (conditions k e) false l) p);
        empty = λ h. refl;
      }

  -- the test of an answer's number, before those of higher numbers
  before : (a r : Result ℕ Refusal) {m : ℕ} {t : Bool} → m ≡ number_of a → t ≡ test k e m → ltb 0 m ≡ true → data_of a ≡ 0 → Lowest k e (suc m) r
      → Lowest k e m (cond t a r)
  before a r {m} {t} qm qt h d rest =
      by_cases t
      (λ y. rw y (record { given = λ g. rw (← qm) (sym qt ∙ y); lowest = λ n l p. rw (← qm) (ltb-true 0 m h, l); empty = λ g. d }))
      (λ y. rw y (record {
        given = rest.given;
        lowest = λ n l p.
            by_cases (eqb n m)
            (λ q. absurd (untested n (rw (eqb-true n m q) (sym qt ∙ y)) p))
            (λ q. rest.lowest n (omega (arith, eqb-false n m q)) p);
        empty = rest.empty;
      }))

  -- a number that no event gets
  past : (a : Result ℕ Refusal) (m : ℕ) → test k e m ≡ false → Lowest k e (suc m) a → Lowest k e m a
  past a m f rest =
      record {
        given = rest.given;
        lowest = λ n l p.
            by_cases (eqb n m)
            (λ q. absurd (untested n (rw (eqb-true n m q) f) p))
            (λ q. rest.lowest n (omega (arith, eqb-false n m q)) p);
        empty = rest.empty;
      }

  -- 10, 11 and 12
  gap : (a : Result ℕ Refusal) → Lowest k e 13 a → Lowest k e 10 a
  gap a rest = past a 10 refl (past a 11 refl (past a 12 refl rest))

  chosen : Lowest k e 1 (reply_of k e)
  unfolding lowest
  chosen = search (before, gap, last) depth 70

-- ---- the register image

image_off_lem : (k : Keeper) (buffer : List ℕ) → is_on k ≡ false → image_number k buffer ≡ 1
unfolding image_answer
image_off_lem Off buffer y = refl
image_off_lem (On c) buffer y = absurd (true≢false y)

image_short_lem : (k : Keeper) (buffer : List ℕ) → is_on k ≡ true → length buffer < 64 → image_number k buffer ≡ 11
unfolding image_answer
image_short_lem Off buffer y h = absurd (true≢false (sym y))
image_short_lem (On c) buffer y h = rw (lt-ltb (length buffer) 64 h)

image_done_lem : (k : Keeper) (buffer : List ℕ) → is_on k ≡ true → 64 ≤ length buffer → image_number k buffer ≡ 0
unfolding image_answer
image_done_lem Off buffer y h = absurd (true≢false (sym y))
image_done_lem (On c) buffer y h = rw (le-ltb (length buffer) 64 h)

image_kept_lem : (k : Keeper) (buffer : List ℕ) → 0 < image_number k buffer → image_buffer k buffer ≡ buffer
unfolding image_answer image_buffer
image_kept_lem Off buffer h = refl
image_kept_lem (On c) buffer h = by_cases (ltb (length buffer) 64) (λ y. rw y) (λ y. absurd (not_zero (rw y at h)))
  where
    not_zero : 0 < 0 → ⊥
    not_zero z = omega arith

-- ---- the answer

module _ (k : Keeper) (e : Event) (own : (standing_of k).address < 256) where
  -- an event that is accepted has number 0
  accepted_is : accepts (reply_of k e) ≡ true → number k e ≡ 0
  unfolding outcome_of
  accepted_is t = rw (right (standing_of k) e own, t)

  -- a refusal is the reply, and leaves the keeper
  refused_is : accepts (reply_of k e) ≡ false → outcome_of k e ≡ record { keeper = k; answer = reply_of k e; shown = shown_by k }
  unfolding outcome_of
  refused_is t = rw (right (standing_of k) e own, t)

  number_is : number k e ≡ number_of (reply_of k e)
  number_is =
      by_cases (accepts (reply_of k e))
      (λ t. accepted_is t ∙ sym (eqb-true (number_of (reply_of k e)) 0 t))
      (λ t. rw (refused_is t))

  positive : (n : ℕ) → Applies k e n → 1 ≤ n
  positive zero p = absurd (untested k e zero refl p)
  positive (suc n) p = omega arith

  refusal : 0 < number k e → ((outcome_of k e).keeper ≡ k) × (data_of (outcome_of k e).answer ≡ 0) × ((outcome_of k e).shown ≡ shown_by k)
  refusal h =
      let g : 0 < number_of (reply_of k e) = rw number_is at h in
      rw (refused_is (ne_eqb (number_of (reply_of k e)) 0 (λ z. omega arith))) (refl, (chosen k e).empty g, refl)

  pub demand1 : Demand1 k e
  demand1 =
      record {
        given = rw number_is (chosen k e).given;
        lowest = λ n p. rw number_is ((chosen k e).lowest n (positive n p) p);
        refused = refusal;
        image_off = image_off_lem k;
        image_short = image_short_lem k;
        image_done = image_done_lem k;
        image_kept = image_kept_lem k;
      }
