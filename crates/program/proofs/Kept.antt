-- What was put whole into a buffer, up to the end that was returned, and into a vector, which is then cut off behind it. Assumes nothing.
use Rattle.std.proofs.Common.{◌≡◌, ◌∙◌, ℕ, ◌+◌, ◌≤◌, List, ◌++◌, length, take, drop, min, sym, ap, arith}
use Rattle.std.proofs.Math.Seq.{take_all}
use Rattle.std.proofs.lemmas.List.{take-append-le, take_at}
use Rattle.std.proofs.lemmas.List.Edits.{sets, sets-eq}
use Rattle.std.proofs.Math.Seq.{length-sets}

pub put_front : (text d : List ℕ) {d' : List ℕ} {e n : ℕ} → length text ≤ length d → d' ≡ sets d 0 text → e ≡ length text → n ≡ min e (length d')
    → take n d' ≡ text
put_front text d {d'} {e} {n} room h he hn =
    let same : length d' ≡ length d = ap length h ∙ length-sets d 0 text in
    let whole : n ≡ length text = hn ∙ omega (arith, he, same, room) in
    rw (h, sets-eq text d 0 (omega (arith, room))) (take_at text (drop (0 + length text) d) n (sym whole))

-- a vector whose whole room was written, cut off
pub cut_kept : (d items : List ℕ) (e : ℕ) {n : ℕ} → n ≡ length d → take e (take n (d ++ drop (length d) items)) ≡ take e d
cut_kept d items e {n} hn =
    let within : n ≤ length d = omega arith in
    let over : length d ≤ n = omega arith in
    let whole : take n (d ++ drop (length d) items) ≡ d = rw take-append-le (take_all n d over) in
    rw whole

pub put_kept : (text d items : List ℕ) {d' : List ℕ} {e n : ℕ} → 0 + length text ≤ length d → d' ≡ sets d 0 text → e ≡ length text → n ≡ length d
    → take e (take n (d' ++ drop (length d') items)) ≡ text
put_kept text d items {d'} {e} {n} room h he hn =
    let same : length d' ≡ length d = ap length h ∙ length-sets d 0 text in
    cut_kept d' items e (omega (arith, same, hn))
    ∙ rw (h, sets-eq text d 0 room) (take_at text (drop (0 + length text) d) e (sym he))
