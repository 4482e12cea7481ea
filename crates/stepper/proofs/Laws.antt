-- Events from numbers, and what is taken and put of them one by one. Assumes nothing.
use Prim.Native.Nat.{ℕ, zero, suc, ◌+◌, ◌-◌, ◌*◌, ◌/◌, ◌%◌, ◌≤◌, ◌<◌}
use mathlib.Core.Path.{◌≡◌, refl, sym, ap, ◌∙◌}
use mathlib.Core.List.{List, [], ◌∷◌, ◌++◌}
use mathlib.Core.Bool.{true, false, cond, and-false}
use native.Mathlib.Omega.{arith}
use native.Mathlib.Nat.{add-zero, zero-add, sub-zero, mul-zero, mul-suc, mul-le-mul_left, mul-div-le, lt-mul-div-succ}
use native.Mathlib.Numerals.{add-one}
use lib.IntN.{ℤ, pos}
use lib.ListN.{length, get_or, take, drop, set, length-append}
use Rattle.std.proofs.lemmas.List.{get_or-take, get_or-drop}
use Rattle.std.specs.Simd.{first_chunks}
use lib.Seq.{sets, length-sets, drop-drop}
use borrow.Author.Tests.{ne_eqb, eq-eqb, lt-ltb, le-ltb, le-leb, lt-leb}
use mir.Syntax.{w32, w64}
use mir.Val.{Fits, SFits, to_z, of_z}
use mir.ValLaws.{to_z-of_z}
use Rattle.integer.specs.Range.{below_of}
use Rattle.event.specs.declared.Refusal.{Refusal}
use Rattle.std.specs.Prelude.{Option, Some, None, Result, Ok, Err}
use Rattle.event.specs.Kinds.{kinds, kind_at, event_of}
use Rattle.event.specs.declared.Kind.{Kind}
use Rattle.event.specs.declared.Event as event
use Rattle.event.specs.declared.Numbers.{Numbers}
use Rattle.event.specs.Answers.{number_of, data_of}
use Rattle.event.specs.declared.Shown.{Shown}
use Rattle.event.specs.declared.Refusal.TheVariants.{WrongSize}
use Rattle.rules.specs.Replies.{History}
use Rattle.keeper.specs.Keeping.{outcome_of}
use Rattle.keeper.specs.declared.Keeper.{Keeper}
use Rattle.keeper.specs.declared.Keeper.TheVariants.{Off}
use Rattle.keeper.specs.declared.Outcome.{Outcome}
use Rattle.history.specs.Agreement.{run}
use Rattle.history.proofs.Agree.{agreement}
use Rattle.stepper.specs.Steps.{event_from, event_numbered, is_event, event_count_from, event_count, first_events}
use Rattle.stepper.specs.Steps.{bytes_of, well_sized, bytes_answer, bytes_buffer, outcome_bytes, outcome_after}

-- ---- an event from four numbers

module _ (v : ℤ) (n : Numbers) (f : SFits w32 v) {r : Option ℕ} (e : r ≡ below_of (to_z w32 (of_z w32 v)) (length kinds)) where
  pub is_event_lem : {p : ℕ} {k : Kind} {x : event.Event} → r ≡ Some p → k ≡ kind_at p → x ≡ event_of k n → Some x ≡ event_from v n
  unfolding event_from
  is_event_lem q hk hx = rw (hx, hk, ← to_z-of_z w32 v f, ← e, q)

  pub is_none : r ≡ None → None ≡ event_from v n
  unfolding event_from
  is_none q = rw (← to_z-of_z w32 v f, ← e, q)

pub no_numbers : (s : List ℤ) (i : ℕ) → length s / 4 ≤ i → None ≡ event_numbered s i
unfolding event_numbered
no_numbers s i h = rw (le-ltb i (length s / 4) h)

-- the chunk at an index of a list cut into chunks
chunk_at : {A : Type 0} (n k : ℕ) (l : List A) (i : ℕ) (d : List A) → i < k → get_or (first_chunks n k l) i d ≡ take n (drop (n * i) l)
chunk_at n zero l i d h = absurd (omega arith)
chunk_at n (suc k) l zero d h = rw (mul-zero n)
chunk_at n (suc k) l (suc i) d h =
    let past : n + n * i ≡ n * i + n = omega arith in
    chunk_at n k (drop n l) i d (omega arith) ∙ rw (drop-drop, mul-suc n i, past)

module _ (s : List ℤ) (i : ℕ) {f : List ℤ} (h : i < length s / 4) (is : f ≡ get_or (first_chunks 4 (length s / 4) s) i []) where
  number_at : (j : ℕ) → j < 4 → get_or f j (pos 0) ≡ get_or s (4 * i + j) (pos 0)
  number_at j below =
      ap (λ (l : List ℤ). get_or l j (pos 0)) (is ∙ chunk_at 4 (length s / 4) s i [] h)
      ∙ get_or-take 4 (drop (4 * i) s) j (pos 0) below ∙ get_or-drop (4 * i) s j (pos 0)

  module _ (kind_fits : SFits w32 (get_or f 0 (pos 0))) (who-fits : SFits w32 (get_or f 1 (pos 0)))
      (arg-fits : SFits w32 (get_or f 2 (pos 0))) (val-fits : SFits w32 (get_or f 3 (pos 0))) where
    pub is_at : {t : Option event.Event}
        → t ≡ event_from (to_z w32 (of_z w32 (get_or f 0 (pos 0)))) (record {
          who = to_z w32 (of_z w32 (get_or f 1 (pos 0)));
          arg = to_z w32 (of_z w32 (get_or f 2 (pos 0)));
          val = to_z w32 (of_z w32 (get_or f 3 (pos 0)));
        })
        → t ≡ event_numbered s i
    unfolding event_numbered
    is_at e =
        e ∙ rw (to_z-of_z w32 _ kind_fits, to_z-of_z w32 _ who-fits, to_z-of_z w32 _ arg-fits, to_z-of_z w32 _ val-fits, lt-ltb i (length s / 4) h)
        (let k = number_at 0 (omega arith) in let w = number_at 1 (omega arith) in let a = number_at 2 (omega arith) in let v = number_at 3 (omega arith) in
        rw (k, w, a, v, add-zero))

-- ---- what is put of an outcome

pub put_is : (a : Result ℕ Refusal) (s : Shown) (d : List ℕ) (at : ℕ) {d' : List ℕ} {n b : ℕ} → n ≡ number_of a → b ≡ data_of a
    → d' ≡ sets d at (n ∷ b ∷ s.int ∷ s.therm ∷ s.fault ∷ s.duty1 ∷ s.duty2 ∷ []) → d' ≡ sets d at (outcome_bytes a s)
put_is a s d at hn hd e = rw (hn, hd) at e

-- runs of stores, one behind the other
pub sets_append : {A : Type 0} (a b l : List A) (i : ℕ) → sets l i (a ++ b) ≡ sets (sets l i a) (i + length a) b
sets_append [] b l i = rw add-zero
sets_append (x ∷ a) b l i = sets_append a b (set l i x) (suc i) ∙ ap (λ (k : ℕ). sets (sets (set l i x) (suc i) a) k b) (omega arith)

-- ---- event by event: k is the keeper after the first i events of s, and d is d0 with what is put of each, so many bytes

pub room_fits : {A : Type 0} {i end : ℕ} (width : ℕ) (d : List A) → i < end → width * end ≤ length d → Fits w64 (length d) → Fits w64 (width * i)
room_fits {i = i} {end} width d below h f =
    let m : width * i ≤ width * end = mul-le-mul_left width (omega arith) in
    omega (arith, f)

pub put_room : {A : Type 0} {i end : ℕ} (width : ℕ) (d : List A) → i < end → width * end ≤ length d → width * i + width ≤ length d
put_room {i = i} {end} width d below h =
    let m : width * (i + 1) ≤ width * end = mul-le-mul_left width (omega arith) in
    omega arith

module _ (s : List ℤ) (end i : ℕ) (count : event_count_from (end - i) i s ≡ event_count_from end 0 s) where
  one_more : {t : Option event.Event} → t ≡ event_numbered s i → i < end →
      event_count_from (end - i) i s ≡ cond (is_event t) (event_count_from (end - suc i) (suc i) s) i
  unfolding event_count_from
  one_more is below =
      let n : end - i ≡ suc (end - suc i) = omega arith in
      ap (λ (left : ℕ). event_count_from left i s) n ∙ rw (← is)

  pub next_count : {t : Option event.Event} {x : event.Event} → t ≡ event_numbered s i → t ≡ Some x → i < end
      → event_count_from (end - (i + 1)) (i + 1) s ≡ event_count_from end 0 s
  next_count is a below = rw (add-one i) (sym (one_more is below ∙ rw a) ∙ count)

  pub none_count : {t : Option event.Event} → t ≡ event_numbered s i → t ≡ None → i < end → i ≡ event_count_from end 0 s
  none_count is a below = sym (one_more is below ∙ rw a) ∙ count

  pub end_count : end ≤ i → i ≡ event_count_from end 0 s
  unfolding event_count_from
  end_count h = let n : end - i ≡ 0 = omega arith in sym (ap (λ (left : ℕ). event_count_from left i s) n) ∙ count

module _ (s : List ℤ) (i : ℕ) {t : Option event.Event} {x : event.Event} (is : t ≡ event_numbered s i) (a : t ≡ Some x) where
  module _ {k : Keeper} (before : k ≡ run (first_events i s)) {o : Outcome} (ho : o ≡ outcome_of k x) where
    pub next_keeper : o.keeper ≡ run (first_events (i + 1) s)
    unfolding first_events run
    next_keeper = rw (ho, before, add-one i, ← is, a)

  module _ {A : Type 0} (each : event.Event → History → List A) where
    next_bytes : bytes_of each (i + 1) s ≡ bytes_of each i s ++ each x (first_events i s)
    unfolding bytes_of
    next_bytes = rw (add-one i, ← is, a)

    module _ (width : ℕ) (long : length (bytes_of each i s) ≡ width * i) where
      pub next_long : ((e : event.Event) (h : History) → length (each e h) ≡ width) → length (bytes_of each (i + 1) s) ≡ width * (i + 1)
      next_long size =
          ap length next_bytes ∙ length-append (bytes_of each i s) (each x (first_events i s)) ∙ rw (long, size, add-one i, mul-suc width i)

      pub next_held : (d0 d : List A) {d' bytes : List A} → d ≡ sets d0 0 (bytes_of each i s) → bytes ≡ each x (first_events i s)
          → d' ≡ sets d (width * i) bytes → d' ≡ sets d0 0 (bytes_of each (i + 1) s)
      next_held d0 d held here e = rw (next_bytes, sets_append, ← held, long, zero-add, ← here) e

pub held_is : {A : Type 0} (each : event.Event → History → List A) (s : List ℤ) (d0 d : List A) (end i : ℕ) → i ≡ event_count_from end 0 s
    → d ≡ sets d0 0 (bytes_of each i s) → d ≡ sets d0 0 (bytes_of each (event_count_from end 0 s) s)
held_is each s d0 d end i n h = rw (← n) h

pub start_keeper : (s : List ℤ) {k : Keeper} → k ≡ Off → k ≡ run (first_events 0 s)
unfolding first_events run
start_keeper s e = e

module _ {A : Type 0} (each : event.Event → History → List A) (s : List ℤ) where
  pub start_held : (d : List A) → d ≡ sets d 0 (bytes_of each 0 s)
  unfolding bytes_of
  start_held d = refl

  pub start_long : (width : ℕ) → length (bytes_of each 0 s) ≡ width * 0
  unfolding bytes_of
  start_long width = sym (mul-zero width)

pub start_count : (s : List ℤ) (end : ℕ) → event_count_from (end - 0) 0 s ≡ event_count_from end 0 s
start_count s end = rw sub-zero

pub same_size : {A : Type 0} (d0 d t : List A) (at : ℕ) {d' : List A} → length d ≡ length d0 → d' ≡ sets d at t → length d' ≡ length d0
same_size d0 d t at h e = ap length e ∙ length-sets d at t ∙ h

-- an outcome is what the rules say of the event, in seven bytes
module _ (x : event.Event) (h : History) where
  pub outcome_is : {k : Keeper} {o : Outcome} → k ≡ run h → o ≡ outcome_of k x → outcome_bytes o.answer o.shown ≡ outcome_after x h
  outcome_is before ho = rw (ho, before, (agreement h).answers x, (agreement h).outputs x)

  pub outcome_long : length (outcome_after x h) ≡ 7
  outcome_long = refl

-- ---- the answer

module _ {A : Type 0} (width : ℕ) (s : List ℤ) (d : List A) where
  uneven : 0 < length s % 4 → well_sized width s d ≡ false
  uneven h = rw (ne_eqb (length s % 4) 0 (λ e. omega arith))

  too_short_lem : 0 < width → length d / width < length s / 4 → well_sized width s d ≡ false
  too_short_lem some h =
      let over : length d < width * (length d / width + 1) = lt-mul-div-succ (length d) some in
      let most : width * (length d / width + 1) ≤ width * (length s / 4) = mul-le-mul_left width (omega arith) in
      rw (lt-leb (width * (length s / 4)) (length d) (omega arith), and-false)

  well_sized_lem : length s % 4 ≤ 0 → width * (length s / 4) ≤ length d → well_sized width s d ≡ true
  well_sized_lem even room = rw (eq-eqb (length s % 4) 0 (omega arith), le-leb (width * (length s / 4)) (length d) room)

  enough : length s / 4 ≤ length d / width → width * (length s / 4) ≤ length d
  enough h =
      let within : width * (length s / 4) ≤ width * (length d / width) = mul-le-mul_left width h in
      let most : width * (length d / width) ≤ length d = mul-div-le (length d) width in
      omega arith

  refused : well_sized width s d ≡ false → Err WrongSize ≡ bytes_answer width s d
  unfolding bytes_answer
  refused e = rw e

  pub uneven_refused : 0 < length s % 4 → Err WrongSize ≡ bytes_answer width s d
  uneven_refused h = refused (uneven h)

  pub short_refused : 0 < width → length d / width < length s / 4 → Err WrongSize ≡ bytes_answer width s d
  short_refused some h = refused (too_short_lem some h)

  pub answered : {n : ℕ} → length s % 4 ≤ 0 → length s / 4 ≤ length d / width → n ≡ event_count_from (length s / 4) 0 s
      → Ok (width * n) ≡ bytes_answer width s d
  unfolding bytes_answer event_count
  answered even room e = rw (well_sized_lem even (enough room), e)

  pub all_fits : {n : ℕ} → length s / 4 ≤ length d / width → n ≤ length s / 4 → Fits w64 (length d) → Fits w64 (width * n)
  all_fits {n} room h f =
      let some : width * n ≤ width * (length s / 4) = mul-le-mul_left width h in
      let all : width * (length s / 4) ≤ length d = enough room in
      omega (arith, f)

  module _ (each : event.Event → History → List A) where
    refused_held : well_sized width s d ≡ false → d ≡ bytes_buffer width each s d
    unfolding bytes_buffer
    refused_held e = rw e

    pub uneven_held : 0 < length s % 4 → d ≡ bytes_buffer width each s d
    uneven_held h = refused_held (uneven h)

    pub short_held : 0 < width → length d / width < length s / 4 → d ≡ bytes_buffer width each s d
    short_held some h = refused_held (too_short_lem some h)

    pub answered_held : {d' : List A} → length s % 4 ≤ 0 → length s / 4 ≤ length d / width
        → d' ≡ sets d 0 (bytes_of each (event_count_from (length s / 4) 0 s) s) → d' ≡ bytes_buffer width each s d
    unfolding bytes_buffer event_count
    answered_held even room e = rw (well_sized_lem even (enough room)) e
