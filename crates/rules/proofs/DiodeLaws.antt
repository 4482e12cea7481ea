-- Diode errors: local has none, and bit 5 of the status bytes shows those of the remote channels. Assumes nothing.
use Prim.Native.Nat.{zero, suc}
use mathlib.Core.Path.{◌≡◌, refl, sym}
use mathlib.Core.Bool.{true, false, true≢false}
use mathlib.Core.List.{◌∷◌}
use native.Mathlib.Omega.{arith}
use lib.IntN.{ℤ, pos, negsuc}
use borrow.Author.Tests.{ne_eqb}
use Rattle.integer.proofs.BoolLaws.{by_cases}
use Rattle.part.specs.declared.ChannelId.{ChannelId}
use Rattle.part.specs.declared.ChannelId.TheVariants.{Local, Remote1, Remote2}
use Rattle.part.specs.declared.FanId.TheVariants.{One, Two}
use Rattle.event.specs.Kinds.{is_kind}
use Rattle.event.specs.declared.Event.{Event}
use Rattle.event.specs.declared.Kind.TheVariants as kind
use Rattle.rules.specs.Events.{who, is_number, from_to, lies, reports}
use Rattle.rules.specs.Stored.{Taken, diode_error}
use Rattle.rules.specs.Replies.{out_of_range, History, taken}
use Rattle.rules.specs.PageWords.{error_status}
use Rattle.rules.proofs.EventLaws.{who_lies}
use Rattle.rules.proofs.TakenLaws.{Took, none, more, took, went}
use Rattle.rules.proofs.StatusLaws.{error_shown}

-- no accepted report is of local
not_zero : (v : ℤ) → lies (from_to (pos 1) (pos 2)) v ≡ true → is_number v 0 ≡ false
not_zero (pos zero) y = absurd (true≢false (sym y))
not_zero (pos (suc m)) y = ne_eqb (suc m) 0 (λ z. omega arith)
not_zero (negsuc m) y = refl

pub remote_only : (e : Event) → out_of_range e ≡ false → reports Local e ≡ false
remote_only e fine = by_cases (is_kind kind.Diode e) (λ y. rw (y, not_zero (who e) (who_lies e fine 10 y))) (λ n. rw n)

local_after : (e : Event) (d : Taken) → out_of_range e ≡ false → diode_error Local d ≡ false → diode_error Local (e ∷ d) ≡ false
unfolding diode_error
local_after e d fine was = rw (remote_only e fine, was) (by_cases (is_kind kind.Power e) (λ p. rw p) (λ p. rw p))

pub local_sound : {d : Taken} → Took d → diode_error Local d ≡ false
local_sound none = (unfold diode_error in refl)
local_sound (more {e = e} {d = d} go t) = local_after e d (went e d go).range (local_sound t)

-- bit 5 is the error
pub error_is : (h : History) (c : ChannelId) → error_status c h ≡ diode_error c (taken h)
error_is h Local = sym (local_sound (took h))
error_is h Remote1 = error_shown (taken h) One
error_is h Remote2 = error_shown (taken h) Two
