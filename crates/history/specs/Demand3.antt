-- Demand 3, over every list of events, the newest first.
use Rattle.std.specs.Prelude.{ℕ, suc, ◌-◌, ◌*◌, ◌<◌, ◌≤◌, ◌≡◌, Bool, true, false, cond, not, ◌&&◌, ◌||◌, List, [], ◌∷◌, ◌++◌, ltb, eqb}
use Rattle.part.specs.declared.FanId.{FanId}
use Rattle.part.specs.declared.FanId.TheVariants.{One, Two}
use Rattle.event.specs.Kinds.{is_kind}
use Rattle.event.specs.declared.Event.{Event}
use Rattle.event.specs.declared.Kind.TheVariants as kind
use Rattle.rules.specs.Events.{periods}
use Rattle.rules.specs.Replies.{History, taken, accepted}
use Rattle.rules.specs.Targets.{target, overridden}
use Rattle.rules.specs.Duties.{enabled, filtered, rate, left, spin, duty, failed}
use Rattle.drive.specs.Ramp.{outside}
use Rattle.keeper.specs.Keeping.{shown_by}
use Rattle.history.specs.Agreement.{run}

-- the duty that the program shows after the list
unfoldable pub shown_duty : FanId → History → ℕ
shown_duty One h = (shown_by (run h)).duty1
shown_duty Two h = (shown_by (run h)).duty2

-- ---- counted in the list

-- what remains of the fan's spin-up: the clock events it was given when it last began, less those accepted since
abbrev pub spin_left : FanId → History → ℕ
spin_left f h = left (spin f (taken h))

-- of the events s, the newest first, that came after h: accepted periods of the fan, accepted clocks
unfoldable pub periods_in : FanId → List Event → History → ℕ
periods_in f [] h = 0
periods_in f (e ∷ s) h = cond (accepted e (s ++ h) && periods f e) (suc (periods_in f s h)) (periods_in f s h)

unfoldable pub clocks_in : List Event → History → ℕ
clocks_in [] h = 0
clocks_in (e ∷ s) h = cond (accepted e (s ++ h) && is_kind kind.Clock e) (suc (clocks_in s h)) (clocks_in s h)

-- ---- the stretch

-- after h the fan is enabled, neither of the two holds, and its worked-out target is d
pub record Settled (f : FanId) (d : ℕ) (h : History) : Type 0 where
  pub on : enabled f (taken h) ≡ true
  pub free : overridden (taken h) ≡ false
  pub aim : target f (taken h) ≡ d

-- an accepted write, a power-on or a failed measurement of the fan
unfoldable pub disturbs : FanId → Event → History → Bool
disturbs f e h = accepted e h && ((is_kind kind.Write e || is_kind kind.Power e) || failed f e (taken h))

-- the stretch s, the newest event first, that came after h: no event disturbs, and the fan is settled at its start and after each event
unfoldable pub Stretch : FanId → ℕ → List Event → History → Type 0
Stretch f d [] h = Settled f d h
Stretch f d (e ∷ s) h = Stretch f d s h × (disturbs f e (s ++ h) ≡ false) × Settled f d (e ∷ (s ++ h))

-- h is a point of a stretch where nothing of the spin-up remains, and t the rest of the stretch, the newest event first.
-- The gap is the distance from d of the duty that the rules give at h; the periods are counted in t.
pub record Steady (f : FanId) (d : ℕ) (t : List Event) (h : History) : Type 0 where
  pub flat : filtered f (taken h) ≡ false → shown_duty f (t ++ h) ≡ d
  pub ramp :
      filtered f (taken h) ≡ true →
      outside d d (shown_duty f (t ++ h)) ≡ outside d d (duty f (taken h)) - periods_in f t h * rate (taken h)
  pub there :
      filtered f (taken h) ≡ true → outside d d (duty f (taken h)) ≤ periods_in f t h * rate (taken h) →
      shown_duty f (t ++ h) ≡ d
  -- the side of d, which the letter leaves open
  pub below : filtered f (taken h) ≡ true → duty f (taken h) ≤ d → shown_duty f (t ++ h) ≤ d
  pub above : filtered f (taken h) ≡ true → d ≤ duty f (taken h) → d ≤ shown_duty f (t ++ h)

-- The list is later ++ (t ++ (s ++ before)): the stretch, t ++ s, came after `before`.
pub record Demand3 (es : History) : Type 0 where
  -- after each event, under override
  pub full :
      (f : FanId) (later now : History) → es ≡ later ++ now →
      enabled f (taken now) ≡ true → overridden (taken now) ≡ true → shown_duty f now ≡ 240
  -- from any point of the stretch, the first among them, where nothing of the spin-up remains
  pub steady :
      (f : FanId) (d : ℕ) (later t s before : History) → es ≡ later ++ (t ++ (s ++ before)) →
      0 < d → Stretch f d (t ++ s) before → spin_left f (s ++ before) ≡ 0 → Steady f d t (s ++ before)
  -- when that is: what remains falls by the clock events accepted
  pub spin :
      (f : FanId) (d : ℕ) (later s before : History) → es ≡ later ++ (s ++ before) →
      0 < d → Stretch f d s before → spin_left f (s ++ before) ≡ spin_left f before - clocks_in s before
  -- the duty is 0 exactly where the fan is disabled, or its target is 0 and it isn't overridden
  pub zero :
      (f : FanId) (later now : History) → es ≡ later ++ now →
      eqb (shown_duty f now) 0 ≡ not (enabled f (taken now) && (overridden (taken now) || ltb 0 (target f (taken now))))
