-- A write changes the writable bits of its register, and no other register but the status bytes. Assumes nothing.
use Prim.Native.Nat.{ℕ, ◌<◌}
use mathlib.Core.Path.{◌≡◌, refl, sym}
use mathlib.Core.Bool.{true, false, cond, not, ◌&&◌, ◌||◌}
use mathlib.Core.List.{◌∷◌}
use lib.Dec.{eqb}
use lib.IntN.{ℤ, pos}
use borrow.Author.Tests.{eq-eqb, ne_eqb, eqb-true, eqb-false, not-true, not-false}
use Rattle.integer.specs.Bits.{bit_of, merged_of}
use Rattle.integer.proofs.BoolLaws.{neither}
use Rattle.integer.proofs.BitLaws.{bit_merged}
use Rattle.rules.specs.Registers.{table, exists_at, mask_at, read_only_at}
use Rattle.rules.specs.Stored.{Taken, stored_at}
use Rattle.rules.specs.Temperatures.{temperature}
use Rattle.rules.specs.Replies.{accepts, reply_to}
use Rattle.rules.specs.Shows.{byte_at, value}
use Rattle.rules.specs.PageWords.{write}
use Rattle.rules.specs.PageReplies.{writable_bits}
use Rattle.rules.proofs.RegisterLaws.{every, mask_small}
use Rattle.rules.proofs.TakenLaws.{went}
use Rattle.rules.proofs.ReplyWords.{at_row}
use Rattle.rules.proofs.QuietLaws.{uncounted, shows_alike}

-- a register that a write may change shows its stored byte, and its mask is that of the page
module _ (a : ℕ) (exists : exists_at a ≡ true) (free : read_only_at a ≡ false) where
  mask_is : mask_at a ≡ writable_bits a
  unfolding every table read_only_at exists_at mask_at
  mask_is = eqb-true (mask_at a) (writable_bits a) (rw free at (at_row (λ n. read_only_at n || eqb (mask_at n) (writable_bits n)) refl a exists))

  stored_only : (eqb a 0x02 || (eqb a 0x03 || (eqb a 0x06 || (eqb a 0x0A || (eqb a 0x0B || eqb a 0x0C))))) ≡ false
  unfolding every table read_only_at exists_at mask_at
  stored_only =
      not-true _
      (rw free at (at_row (λ n. read_only_at n || not (eqb n 0x02 || (eqb n 0x03 || (eqb n 0x06 || (eqb n 0x0A || (eqb n 0x0B || eqb n 0x0C)))))) refl a
      exists))

  shows_stored : (d : Taken) → value a d ≡ stored_at a d
  unfolding value byte_at
  shows_stored d =
      let q2 = neither (eqb a 0x02) _ stored_only in
      let q3 = neither (eqb a 0x03) _ q2.1 in
      let q6 = neither (eqb a 0x06) _ q3.1 in
      let qa = neither (eqb a 0x0A) _ q6.1 in
      let qb = neither (eqb a 0x0B) (eqb a 0x0C) qa.1 in
      rw (exists, q2.0, q3.0, q6.0, qa.0, qb.0, qb.1)

module _ (d : Taken) (w : ℤ) (a b : ℕ) (keeps : (eqb a 0x01 && bit_of b 7) ≡ false) where
  stored_there : stored_at a (write w (pos a) (pos b) ∷ d) ≡ merged_of (mask_at a) (stored_at a d) b
  unfolding stored_at
  stored_there = rw (keeps, eq-eqb a a refl)

  pub stored_elsewhere : (other : ℕ) → eqb other a ≡ false → stored_at other (write w (pos a) (pos b) ∷ d) ≡ stored_at other d
  unfolding stored_at
  stored_elsewhere other q = rw (keeps, ne_eqb a other (λ z. eqb-false other a q (sym z)), uncounted other (write w (pos a) (pos b)) refl)

  pub others : (other : ℕ) → (eqb other a || (eqb other 0x02 || eqb other 0x03)) ≡ false → value other (write w (pos a) (pos b) ∷ d) ≡ value other d
  unfolding temperature
  others other q =
      shows_alike other (write w (pos a) (pos b) ∷ d) d (neither (eqb other a) _ q).1 (stored_elsewhere other (neither (eqb other a) _ q).0) (λ c. rw keeps)

  pub written :
      (k : ℕ) → accepts (reply_to (write w (pos a) (pos b)) d) ≡ true → k < 8 →
      bit_of (value a (write w (pos a) (pos b) ∷ d)) k ≡ cond (bit_of (writable_bits a) k) (bit_of b k) (bit_of (value a d) k)
  written k go l =
      let p = went (write w (pos a) (pos b)) d go in
      let exists = not-false (exists_at a) p.register in
      rw (shows_stored a exists p.free, shows_stored a exists p.free, stored_there, ← mask_is a exists p.free)
      (bit_merged (mask_at a) (stored_at a d) b k (mask_small a) l)
