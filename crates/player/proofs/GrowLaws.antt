-- A buffer in which the report grows, entry by entry. Assumes nothing.
use Prim.Native.Nat.{ℕ, ◌+◌, ◌-◌, ◌≤◌, ◌<◌}
use mathlib.Core.Path.{◌≡◌, refl, sym, ap, ◌∙◌}
use mathlib.Core.List.{List, [], ◌∷◌, ◌++◌, append_assoc, append-nil}
use native.Mathlib.Omega.{arith}
use lib.ListN.{length, take, drop, length-append}
use lib.Seq.{sets, sets-eq, take_at, length-take-le, length-sets}
use native.Mathlib.Nat.{zero-add}
use Rattle.player.specs.declared.entries.Entry.{Entry}
use Rattle.player.specs.Entries.{entry_bytes, report_by}
use Rattle.buffer.specs.Put.{put_of, held_of}
use Rattle.std.specs.Result.{result_unwrap_or}
use Rattle.event.specs.declared.Refusal.{Refusal}
use Rattle.std.specs.Prelude.{Result, Ok, Err}
use Rattle.buffer.proofs.TextLaws.{sets_append}
use Rattle.buffer.proofs.WholeLaws.{end_there, held_there}

-- ---- a text that grows in a buffer: `full` is what is to be written, of which the first `out` bytes of d are there, and `rest` is left.
-- d is d0 with that much written.

put_take : (t d : List ℕ) (out : ℕ) → out + length t ≤ length d → take (out + length t) (sets d out t) ≡ take out d ++ t
put_take t d out h =
    let n : length (take out d ++ t) ≡ out + length t = length-append (take out d) t ∙ ap (λ (k : ℕ). k + length t) (length-take-le out d (omega arith)) in
    ap (take (out + length t)) (sets-eq t d out h) ∙ take_at (take out d ++ t) (drop (out + length t) d) (out + length t) n

module _ (full d0 d rest : List ℕ) (out : ℕ) (inv : full ≡ take out d ++ rest) (held : d ≡ sets d0 0 (take out d)) (same : length d ≡ length d0)
    (room : length full ≤ length d0) (within : out ≤ length d) where
  left : length full ≡ out + length rest
  left = ap length inv ∙ length-append (take out d) rest ∙ ap (λ (k : ℕ). k + length rest) (length-take-le out d within)

  grow_end : rest ≡ [] → (out ≡ length full) × (d ≡ sets d0 0 full)
  grow_end e = (
    (let z : length rest ≡ 0 = ap length e in omega (arith, left)),
    held ∙ ap (sets d0 0) (sym (inv ∙ ap (λ (l : List ℕ). take out d ++ l) e ∙ append-nil (take out d))),
  )

  module _ (t more : List ℕ) (is : rest ≡ t ++ more) where
    grow_room : out + length t ≤ length d
    grow_room = omega (arith, left, ap length is ∙ length-append t more)

    grow_inv : full ≡ take (out + length t) (sets d out t) ++ more
    grow_inv =
        inv ∙ ap (λ (l : List ℕ). take out d ++ l) is ∙ sym (append_assoc (take out d) t more)
        ∙ ap (λ (l : List ℕ). l ++ more) (sym (put_take t d out grow_room))

    grow_held : sets d out t ≡ sets d0 0 (take (out + length t) (sets d out t))
    grow_held =
        let n : 0 + length (take out d) ≡ out = zero-add (length (take out d)) ∙ length-take-le out d within in
        sym (ap (sets d0 0) (put_take t d out grow_room) ∙ sets_append (take out d) t d0 0 ∙ ap (λ (l : List ℕ). sets l (0 + length (take out d)) t) (sym held)
        ∙ ap (λ (k : ℕ). sets d k t) n)

-- ---- the same of entries: d is d0 with the first `out` bytes of the report, and the entries `left` are still to be written

pub record Grown (full d0 : List ℕ) (out : ℕ) (d : List ℕ) (left : List Entry) : Type 0 where
  pub size : length d ≡ length d0
  pub within : out ≤ length d
  pub held : d ≡ sets d0 0 (take out d)
  pub whole : full ≡ take out d ++ report_by left
  pub room : length full ≤ length d0

pub grown_start : (d : List ℕ) (left : List Entry) → length (report_by left) ≤ length d → Grown (report_by left) d 0 d left
grown_start d left h = record { size = refl; within = omega arith; held = refl; whole = refl; room = h }

module _ {full d0 : List ℕ} {out : ℕ} {d : List ℕ} {left : List Entry} (g : Grown full d0 out d left) where
  all_there : left ≡ [] → (out ≡ length full) × (d ≡ sets d0 0 full)
  all_there q = grow_end full d0 d (report_by left) out g.whole g.held g.size g.room g.within (ap report_by q)

  pub grown_end : left ≡ [] → out ≡ length full
  grown_end q = (all_there q).0

  pub grown_held : left ≡ [] → d ≡ sets d0 0 full
  grown_held q = (all_there q).1

  module _ {entry : Entry} {more : List Entry} (q : left ≡ entry ∷ more) where
    room : out + length (entry_bytes entry) ≤ length d
    room = grow_room full d0 d (report_by left) out g.whole g.held g.size g.room g.within (entry_bytes entry) (report_by more) (ap report_by q)

    pub grown : {p : Result ℕ Refusal} {next : ℕ} {d' : List ℕ} → p ≡ put_of d out (entry_bytes entry) → next ≡ result_unwrap_or p out
        → d' ≡ held_of d out (entry_bytes entry) → Grown full d0 next d' more
    grown hp hn hd =
        let there = held_there d (entry_bytes entry) out room hd in
        let end = end_there d (entry_bytes entry) out room out hp hn in
        record {
          size = ap length there ∙ length-sets d out (entry_bytes entry) ∙ g.size;
          within = rw (end, there, length-sets) room;
          held =
              rw (end, there)
              (grow_held full d0 d (report_by left) out g.whole g.held g.size g.room g.within (entry_bytes entry) (report_by more) (ap report_by q));
          whole =
              rw (end, there)
              (grow_inv full d0 d (report_by left) out g.whole g.held g.size g.room g.within (entry_bytes entry) (report_by more) (ap report_by q));
          room = g.room;
        }
