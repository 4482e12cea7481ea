-- T-05 of document 02, of the program after every list of events, the newest first: what a report on a diode, and a sample under an error, leave.
use Rattle.std.specs.Prelude.{ℕ, ◌≡◌, true, false, ◌∷◌, eqb, ℤ, pos}
use Rattle.part.specs.declared.ChannelId.{ChannelId}
use Rattle.part.specs.declared.FanId.{FanId}
use Rattle.event.specs.Kinds.{is_kind}
use Rattle.event.specs.declared.Event.{Event}
use Rattle.event.specs.declared.Kind.TheVariants as kind
use Rattle.rules.specs.Replies.{History}
use Rattle.rules.specs.PageWords.{sampled, reported, error_status}
use Rattle.history.specs.Agreement.{run}
use Rattle.history.specs.Demand3.{disturbs}

pub record Diodes (h : History) : Type 0 where
  -- a report of what bit 5 shows already changes nothing: the keepers are equal, so that no later answer or output differs
  pub repeated : (c : ChannelId) (n : ℕ) → error_status c h ≡ eqb n 1 → run (reported c (pos n) ∷ h) ≡ run h
  -- "13, after 9, for a sample of a channel in error": it leaves the keeper
  pub unsampled : (c : ChannelId) (t : ℤ) → error_status c h ≡ true → run (sampled c t ∷ h) ≡ run h
  -- "Demands 2 and 3 are read with this ticket": no report disturbs a stretch, which goes on as long as the target stays
  pub calm : (f : FanId) (e : Event) → is_kind kind.Diode e ≡ true → disturbs f e h ≡ false
