-- What the writer wrote of an event, the reader reads back as it, up to where the writer ended. Assumes nothing.
use Prim.Native.Nat.{ℕ}
use mathlib.Core.Path.{◌≡◌, sym, ap, ◌∙◌}
use mathlib.Core.List.{List}
use lib.ListN.{take, drop}
use lib.Seq.{length-take-le}
use mir.Syntax.{w32}
use mir.Val.{SFits}
use Rattle.event.specs.declared.Event.{Event}
use Rattle.event.specs.Kinds.{numbers_of}
use Rattle.std.specs.Prelude.{Ok}
use Rattle.buffer.specs.Put.{put_of, held_of}
use Rattle.buffer.proofs.WholeLaws.{put_stands}
use Rattle.trace.specs.Trace.{event_at, event_text}
use Rattle.trace.proofs.RoundTrip.{round_trip}

pub written_back : (d : List ℕ) (at n : ℕ) (e : Event) → SFits w32 (numbers_of e).who → SFits w32 (numbers_of e).arg → SFits w32 (numbers_of e).val
    → put_of d at (event_text e) ≡ Ok n → event_at (held_of d at (event_text e)) at ≡ Ok (e, n)
written_back d at n e who arg val p =
    let s = put_stands d (event_text e) at n p in
    ap (λ (l : List ℕ). event_at l at) s.2
    ∙ (rw (length-take-le at d s.1) at (round_trip (take at d) (drop n d) e who arg val))
    ∙ ap (λ (k : ℕ). Ok (e, k)) (sym s.0)
