-- A vector that is given room piece by piece, and cut off behind what was read into it. Assumes nothing.
use Rattle.std.proofs.Common.{◌≡◌, ◌∙◌, ℕ, ◌+◌, ◌-◌, ◌≤◌, List, [], ◌++◌, length, take, drop, sym, ap, Option, Some, None, IfSome, arith}
use Rattle.std.specs.Io.KnownBytes.{Keeps, Consumes, IsAtEnd}
use Rattle.std.proofs.Math.Seq.{take_all}
use Rattle.std.proofs.lemmas.List.{take_at, drop_at, drop_all, append-nil, length-append}
use borrow.Rule.Slice.PartMut.{mid_of, put_mid, same_len_mid}
use Rattle.program.proofs.Filling.{joined, front}
use Rattle.program.proofs.Kept.{cut_kept}

-- the vector had `text`, and got room for a part behind it
module _
    (text more : List ℕ) {room : List ℕ} {len m : ℕ} (held : len ≡ length text) (longer : len ≤ m) (resized : room ≡ take m text ++ more)
    (part items : List ℕ) {n : ℕ} (all : n ≡ length room) (asked : length part ≡ length (mid_of len (length room - len) room)) where
  abbrev written : List ℕ
  written = put_mid len (length room - len) room part

  whole : room ≡ text ++ more
  whole = let over : length text ≤ m = omega arith in resized ∙ ap (λ (l : List ℕ). l ++ more) (take_all m text over)

  -- what was read stands behind it, and is kept
  pub grown : (got : ℕ) → got ≤ length part → take (len + got) (take n (written ++ drop (length written) items)) ≡ text ++ take got part
  grown got fits =
      let within : len ≤ length room = omega (arith, ap length whole, length-append text more) in
      cut_kept written items (len + got) (all ∙ sym (same_len_mid len (length room - len) room part asked))
      ∙ front len room part within (length room - len) got fits
      ∙ ap (λ (l : List ℕ). l ++ take got part) (rw whole (take_at text more len (sym held)))

  -- nothing was read
  pub kept_whole : take len (take n (written ++ drop (length written) items)) ≡ text
  kept_whole =
      let none : len + 0 ≡ len = omega arith in
      rw (none, append-nil) at (grown 0 (omega arith))

-- a read that failed left what there was
pub none_gone : (start now next : Option (List ℕ)) (a : List ℕ) → Consumes start now a → Keeps now next → Consumes start next a
none_gone None now next a p q = tt
none_gone (Some xs) None next a p q = absurd p
none_gone (Some xs) (Some ys) None a p q = absurd q
none_gone (Some xs) (Some ys) (Some zs) a p q = p ∙ ap (λ (l : List ℕ). a ++ l) (sym q)

-- what was read is all that a text may have, or all that there was
pub full_text : (start now : Option (List ℕ)) (a : List ℕ) → Consumes start now a → length a ≡ 65537 → IfSome start (λ input. a ≡ take 65537 input)
full_text None now a p long = tt
full_text (Some xs) None a p long = absurd p
full_text (Some xs) (Some ys) a p long = rw p (sym (take_at a ys 65537 long))

pub full_rest : (start now : Option (List ℕ)) (a : List ℕ) → Consumes start now a → length a ≡ 65537
    → IfSome start (λ input. now ≡ Some (drop 65537 input))
full_rest None now a p long = tt
full_rest (Some xs) None a p long = absurd p
full_rest (Some xs) (Some ys) a p long = rw (p, drop_at a ys 65537 long)

module _ (start now : Option (List ℕ)) (a : List ℕ) (fits : length a ≤ 65537) where
  pub ended_text : Consumes start now a → IsAtEnd now → IfSome start (λ input. a ≡ take 65537 input)
  ended_text = go start now
    where
      go : (s n : Option (List ℕ)) → Consumes s n a → IsAtEnd n → IfSome s (λ input. a ≡ take 65537 input)
      go None n p end = tt
      go (Some xs) None p end = absurd p
      go (Some xs) (Some ys) p end = rw (p, end, append-nil) (sym (take_all 65537 a fits))

  pub ended_rest : Consumes start now a → IsAtEnd now → IfSome start (λ input. now ≡ Some (drop 65537 input))
  ended_rest = go start now
    where
      go : (s n : Option (List ℕ)) → Consumes s n a → IsAtEnd n → IfSome s (λ input. n ≡ Some (drop 65537 input))
      go None n p end = tt
      go (Some xs) None p end = absurd p
      go (Some xs) (Some ys) p end = rw (p, end, append-nil, drop_all 65537 a fits)
