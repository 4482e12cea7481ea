-- T-02 of document 02, of the program after every list of events, the newest first: an alert lets INT go and changes nothing else.
use Rattle.std.specs.Prelude.{ℕ, ◌≡◌, true, false, List, ◌∷◌}
use Rattle.part.specs.declared.FanId.{FanId}
use Rattle.event.specs.Kinds.{is_kind}
use Rattle.event.specs.declared.Event.{Event}
use Rattle.event.specs.declared.Kind.TheVariants as kind
use Rattle.rules.specs.Replies.{History, accepted}
use Rattle.keeper.specs.Keeping.{chip_in, shown_by}
use Rattle.history.specs.Agreement.{run}
use Rattle.history.specs.Demand3.{disturbs, Stretch}
use Rattle.history.specs.MovingTarget.{MovingStretch}

pub record Alerts (h : History) : Type 0 where
  -- "its INT is let go"
  pub let_go : (e : Event) → is_kind kind.Alert e ≡ true → accepted e h ≡ true → (shown_by (run (e ∷ h))).int ≡ 0
  -- "With INT not asserted the event changes nothing": the keepers are equal, so that no later answer or output differs
  pub unchanged : (e : Event) → is_kind kind.Alert e ≡ true → (shown_by (run h)).int ≡ 0 → run (e ∷ h) ≡ run h
  -- "Neither query nor event changes a duty, a latch or a status bit": the chip, which holds them all, is the same
  pub chip : (e : Event) → is_kind kind.Alert e ≡ true → chip_in (run (e ∷ h)) ≡ chip_in (run h)
  -- "the third demand counts the event among the reads": no alert disturbs, and a stretch, T-13's too, goes on over it
  pub calm : (f : FanId) (e : Event) → is_kind kind.Alert e ≡ true → disturbs f e h ≡ false
  pub stretch : (f : FanId) (d : ℕ) (s : List Event) (e : Event) → is_kind kind.Alert e ≡ true → Stretch f d s h → Stretch f d (e ∷ s) h
  pub moving :
      (f : FanId) (a b : ℕ) (s : List Event) (e : Event) → is_kind kind.Alert e ≡ true → MovingStretch f a b s h → MovingStretch f a b (e ∷ s) h
