use Rattle.std.proofs.Common.{arith, ◌≡◌, ◌∙◌, ℕ, List, length}
use Rattle.program.proofs.Kept.{put_kept}
use Rattle.program.proofs.heap.lines.Goals as goal

pub returns : goal.returns
returns g c = λ rule p.
    let long : length c.as_mut_slice.result.now ≡ c.args.longest = omega (arith, c.as_mut_slice.ensures.len, c.in_ok-lines.ensures.len) in
    ◌∙◌ {A = List ℕ} c.truncate.ensures.items
    (put_kept (rule c.args.text.now) c.as_mut_slice.result.now c.in_ok-lines.lines.items (omega (arith, p.room c.args.text.now))
    (p.held _ _ _ _ long c.put-end.ensures) (p.end _ _ _ _ long c.put-end.ensures)
    (omega (arith, c.as_mut_slice.ensures.len, c.in_ok-lines.ensures.len)))
