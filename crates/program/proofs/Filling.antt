-- What reads one after another put into a buffer. Assumes nothing.
use Rattle.std.proofs.Common.{◌≡◌, ◌∙◌, ℕ, ◌+◌, ◌≤◌, List, ◌++◌, length, take, sym, ap, Option, Some, None}
use Rattle.std.specs.Io.KnownBytes.{Consumes}
use Rattle.std.proofs.Math.Seq.{take-append-add}
use Rattle.std.proofs.lemmas.List.{take-append-le, length-take-le, append_assoc}
use borrow.Rule.Slice.PartMut.{put_mid, post_of}

pub joined : (start now next : Option (List ℕ)) (a b : List ℕ) → Consumes start now a → Consumes now next b → Consumes start next (a ++ b)
joined None now next a b p q = tt
joined (Some xs) None next a b p q = absurd p
joined (Some xs) (Some ys) None a b p q = absurd q
joined (Some xs) (Some ys) (Some zs) a b p q = p ∙ ap (λ (l : List ℕ). a ++ l) q ∙ sym (append_assoc a b zs)

module _ (len : ℕ) (buffer part : List ℕ) (within : len ≤ length buffer) where
  -- the buffer after a read of `got` bytes behind the first `len`
  pub front : (k got : ℕ) → got ≤ length part → take (len + got) (put_mid len k buffer part) ≡ take len buffer ++ take got part
  front k got h =
      let n : length (take len buffer) ≡ len = length-take-le len buffer within in
      ap (λ (i : ℕ). take (i + got) (put_mid len k buffer part)) (sym n)
      ∙ take-append-add (take len buffer) (part ++ post_of len k buffer) got
      ∙ ap (λ (l : List ℕ). take len buffer ++ l) (take-append-le got part (post_of len k buffer) h)

  module _ (start now next : Option (List ℕ)) (before : Consumes start now (take len buffer)) where
    pub read_on : (k got : ℕ) → got ≤ length part → Consumes now next (take got part)
        → Consumes start next (take (len + got) (put_mid len k buffer part))
    read_on k got h q = rw (front k got h) (joined start now next (take len buffer) (take got part) before q)
