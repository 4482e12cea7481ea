-- What the program prints has room, whatever the text. Assumes nothing.
use Prim.Native.Nat.{ℕ, ◌+◌, ◌≤◌}
use mathlib.Core.Path.{◌≡◌, refl, sym, ap, ◌∙◌}
use mathlib.Core.Bool.{Bool, true, false}
use mathlib.Core.List.{List}
use native.Mathlib.Omega.{arith}
use native.Mathlib.Nat.{zero-add}
use lib.Dec.{ltb}
use lib.ListN.{length}
use lib.Seq.{sets}
use borrow.Author.Tests.{ltb-false}
use Rattle.event.specs.declared.Refusal.{Refusal}
use Rattle.event.specs.declared.Refusal.TheVariants.{WrongSize}
use Rattle.buffer.specs.Put.{put_of, held_of}
use Rattle.std.specs.Result.{result_unwrap_or}
use Rattle.event.specs.Answers.{refusal_number}
use Rattle.std.specs.Prelude.{Result, Ok, Err}
use Rattle.buffer.proofs.WholeLaws.{end_there, held_there, never_refused}
use Rattle.report.specs.Report.{answer_text}
use Rattle.player.proofs.SizeLaws.{bounded}
use Rattle.player.specs.Report.{report_of, replay_answer, replay_buffer, printed_of}

-- ---- the number of a refusal

abbrev refusal : List ℕ
refusal = answer_text (refusal_number WrongSize)

refusal_length : length refusal ≡ 10
unfolding answer_text
refusal_length = refl

printed_short : (text : List ℕ) → ltb 65536 (length text) ≡ false → printed_of text ≡ report_of text
unfolding printed_of
printed_short text short = rw short

printed_long : (text : List ℕ) → ltb 65536 (length text) ≡ true → printed_of text ≡ refusal
unfolding printed_of
printed_long text long = rw long

module _ (text d : List ℕ) (room : 196634 ≤ length d) where
  -- ---- a text that is short enough

  module _ (short : ltb 65536 (length text) ≡ false) where
    fits : 0 + length (report_of text) ≤ length d
    fits = let h = ltb-false 65536 (length text) short in omega (arith, bounded text h)

    answer_short : replay_answer text d ≡ put_of d 0 (report_of text)
    unfolding replay_answer
    answer_short = rw short

    held_short : replay_buffer text d ≡ sets d 0 (printed_of text)
    unfolding replay_buffer
    held_short = rw (short, printed_short text short) (held_there d (report_of text) 0 fits refl)

  -- ---- one that is too long

  module _ (long : ltb 65536 (length text) ≡ true) where
    answer_long : replay_answer text d ≡ Err WrongSize
    unfolding replay_answer
    answer_long = rw long

    held_long : replay_buffer text d ≡ d
    unfolding replay_buffer
    held_long = rw long

  -- ---- the report was put

  module _ {p : Result ℕ Refusal} {e : ℕ} (q : p ≡ replay_answer text d) (r : p ≡ Ok e) where
    short_then : (b : Bool) → ltb 65536 (length text) ≡ b → ltb 65536 (length text) ≡ false
    short_then false h = h
    short_then true h =
        let c : Err WrongSize ≡ Ok e = sym (answer_long h) ∙ sym q ∙ r in
        let z : ◌≡◌ {A = ℕ} 0 1 = cc in
        absurd (omega arith)

    abbrev short : ltb 65536 (length text) ≡ false
    short = short_then (ltb 65536 (length text)) refl

    pub end_is : e ≡ length (printed_of text)
    end_is =
        end_there d (report_of text) 0 (fits short) 0 (q ∙ answer_short short) (sym (ap (λ (x : Result ℕ Refusal). result_unwrap_or x 0) r))
        ∙ zero-add (length (report_of text))
        ∙ ap length (sym (printed_short text short))

    module _ {d' : List ℕ} (h : d' ≡ replay_buffer text d) where
      pub held_is : d' ≡ sets d 0 (printed_of text)
      held_is = h ∙ held_short short

  -- ---- it was refused, and its number put

  module _ {p : Result ℕ Refusal} {a : Refusal} (q : p ≡ replay_answer text d) (r : p ≡ Err a) where
    long_then : (b : Bool) → ltb 65536 (length text) ≡ b → ltb 65536 (length text) ≡ true
    long_then true h = h
    long_then false h = absurd (never_refused d (report_of text) 0 (fits h) (q ∙ answer_short h) r)

    abbrev long : ltb 65536 (length text) ≡ true
    long = long_then (ltb 65536 (length text)) refl

    text_is : answer_text (refusal_number a) ≡ printed_of text
    text_is =
        let e : Err a ≡ Err WrongSize = sym r ∙ q ∙ answer_long long in
        let t : a ≡ WrongSize = cc in
        rw t (sym (printed_long text long))

    room_long : 0 + length (answer_text (refusal_number a)) ≤ length d
    room_long = rw text_is (omega (arith, ap length (printed_long text long), refusal_length))

    module _ {d' : List ℕ} (h : d' ≡ replay_buffer text d) {p' : Result ℕ Refusal} {e : ℕ} (hp : p' ≡ put_of d' 0 (answer_text (refusal_number a)))
        (he : e ≡ result_unwrap_or p' 0) where
      same_still : d' ≡ d
      same_still = h ∙ held_long long

      pub refused_is : e ≡ length (printed_of text)
      refused_is =
          end_there d (answer_text (refusal_number a)) 0 room_long 0 (rw same_still at hp) he
          ∙ zero-add (length (answer_text (refusal_number a)))
          ∙ ap length text_is

      module _ {d'' : List ℕ} (s : d'' ≡ held_of d' 0 (answer_text (refusal_number a))) where
        pub refused_held : d'' ≡ sets d 0 (printed_of text)
        refused_held = held_there d (answer_text (refusal_number a)) 0 room_long (rw same_still at s) ∙ ap (sets d 0) text_is

-- ---- what is printed has room

pub printed_room : (text : List ℕ) → 0 + length (printed_of text) ≤ 196634
printed_room text = go (ltb 65536 (length text)) refl
  where
    go : (b : Bool) → ltb 65536 (length text) ≡ b → 0 + length (printed_of text) ≤ 196634
    go true h = omega (arith, ap length (printed_long text h), refusal_length)
    go false h =
        let short : length text ≤ 65536 = ltb-false 65536 (length text) h in
        omega (arith, bounded text short, ap length (printed_short text h))
