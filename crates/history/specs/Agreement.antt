-- The agreement: what stepping a keeper that never had power through a list of events answers and shows is what the rules say of that list.
use Rattle.std.specs.Prelude.{ℕ, ◌≡◌, List, [], ◌∷◌, ℤ}
use Rattle.event.specs.declared.Event.{Event}
use Rattle.rules.specs.Replies.{History, taken}
use Rattle.rules.specs.Shows.{shown, answer, image_reply, image_held}
use Rattle.rules.specs.Reasons.{why_for}
use Rattle.rules.specs.Panels.{panel_for}
use Rattle.rules.specs.Stamps.{stamp, age_for, explanation_for}
use Rattle.keeper.specs.Keeping.{outcome_of, shown_by, stamp_by, image_answer, image_buffer}
use Rattle.keeper.specs.declared.Keeper.{Keeper}
use Rattle.keeper.specs.declared.Keeper.TheVariants.{Off}
use Rattle.reason.specs.Reasoning.{why_of}
use Rattle.reason.specs.Aging.{explanation_of, aged_of}
use Rattle.gauge.specs.Gauges.{paneled_of}

-- each event gets the keeper that the one before it left
unfoldable pub run : History → Keeper
run [] = Off
run (e ∷ h) = (outcome_of (run h) e).keeper

-- for every list: answers, outputs, register image, what is told of a fan (T-03), the panel (T-06), the stamp and the ages (T-07) are those of the rules
pub record Agreement (h : History) : Type 0 where
  pub answers : (e : Event) → (outcome_of (run h) e).answer ≡ answer e h
  pub outputs : (e : Event) → (outcome_of (run h) e).shown ≡ shown (taken (e ∷ h))
  pub shows : shown_by (run h) ≡ shown (taken h)
  pub image : (buffer : List ℕ) → image_answer (run h) buffer ≡ image_reply buffer (taken h)
  pub buffer : (buffer : List ℕ) → image_buffer (run h) buffer ≡ image_held buffer (taken h)
  pub why : (fan : ℤ) → why_of (run h) fan ≡ why_for fan (taken h)
  pub panel : paneled_of (run h) ≡ panel_for (taken h)
  pub stamp : stamp_by (run h) ≡ stamp (taken h)
  pub age : (fan : ℤ) → aged_of (run h) fan ≡ age_for fan (taken h)
  pub explanation : (fan : ℤ) → explanation_of (run h) fan ≡ explanation_for fan (taken h)
