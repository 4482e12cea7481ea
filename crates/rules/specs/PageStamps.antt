-- The page, T-07 of document 02: the stamp and the fans' ages, by the clock events of the list and by the duties that are shown.
use Rattle.std.specs.Prelude.{ℕ, suc, ◌%◌, ◌<◌, ◌≡◌, true, false, cond, ◌&&◌, List, [], ◌∷◌, ◌++◌, eqb, ℤ, pos, Result, Ok}
use Rattle.integer.specs.Bits.{bit_of}
use Rattle.part.specs.declared.FanId.{FanId}
use Rattle.event.specs.Kinds.{is_kind}
use Rattle.event.specs.declared.Refusal.{Refusal}
use Rattle.event.specs.declared.Event.{Event}
use Rattle.event.specs.declared.Explanation.{Explanation}
use Rattle.event.specs.declared.Kind.TheVariants as kind
use Rattle.rules.specs.Replies.{History, taken, accepted}
use Rattle.rules.specs.Stamps.{stamp, age_for, age_number, explanation_for, reason_told, age_told}
use Rattle.rules.specs.PageWords.{power, Accepted, duty_out, reply_number, by_fan}
use Rattle.rules.specs.PageReplies.{one_of, power_on}
use Rattle.rules.specs.PageTemperatures.{reset}
use Rattle.rules.specs.PageReasons.{told}

-- what is told after a list: the stamp; the age of the fan of a number, and of either fan
abbrev pub stamp_out : History → ℕ
stamp_out h = stamp (taken h)

abbrev pub aged_at : (fan : ℤ) → History → Result ℕ Refusal
aged_at n h = age_for n (taken h)

abbrev pub aged_fan : FanId → History → Result ℕ Refusal
aged_fan f h = aged_at (pos (by_fan 1 2 f)) h

-- and what is told of a fan in one answer
abbrev pub explained_at : (fan : ℤ) → History → Result Explanation Refusal
explained_at n h = explanation_for n (taken h)

-- ---- counted in the list

-- of the events t, the newest first, that came after h: the clock events that were answered with 0
unfoldable pub tenths_in : List Event → History → ℕ
tenths_in [] h = 0
tenths_in (e ∷ t) h = cond (is_kind kind.Clock e && eqb (reply_number e (t ++ h)) 0) (suc (tenths_in t h)) (tenths_in t h)

-- none of them is an accepted power
unfoldable pub Unpowered : List Event → History → Type 0
Unpowered [] h = Unit {0}
Unpowered (e ∷ t) h = Unpowered t h × (Accepted e (t ++ h) → is_kind kind.Power e ≡ false)

-- an event that does not set the stamp of a fan: no power, no software reset, and the fan does not go from 0 to more
pub record NoStart (f : FanId) (e : Event) (h : History) : Type 0 where
  pub no_power : is_kind kind.Power e ≡ false
  pub no_reset : (w : ℤ) (b : ℕ) → e ≡ reset w b → bit_of b 7 ≡ false
  pub still : duty_out f h ≡ 0 → duty_out f (e ∷ h) ≡ 0

-- each of the events that is accepted is such a one
unfoldable pub NoStarts : FanId → List Event → History → Type 0
NoStarts f [] h = Unit {0}
NoStarts f (e ∷ t) h = NoStarts f t h × (Accepted e (t ++ h) → NoStart f e (t ++ h))

-- h has just set the stamp of the fan: from then on, until it is set again, its age counts the clock events
pub record AgeSince (f : FanId) (h : History) : Type 0 where
  -- "their difference modulo 65,536"
  pub modulo : (t : List Event) → NoStarts f t h → aged_fan f (t ++ h) ≡ Ok (tenths_in t h % 65536)
  -- "the true count of clock events as long as fewer than 65,536 have passed since that fan stamp was set"
  pub true_count : (t : List Event) → NoStarts f t h → tenths_in t h < 65536 → aged_fan f (t ++ h) ≡ Ok (tenths_in t h)

pub record PageStamps (h : History) : Type 0 where
  -- refusals: 1 before power, whatever the number; then 3 for a number that is no fan's; else an age
  pub no_power : (n : ℤ) → power_on h ≡ false → age_number (aged_at n h) ≡ 1
  pub no_fan : (n : ℤ) → power_on h ≡ true → one_of (1 ∷ 2 ∷ []) n ≡ false → age_number (aged_at n h) ≡ 3
  pub given : (f : FanId) → power_on h ≡ true → age_number (aged_fan f h) ≡ 0
  -- "Reasons should say how long": one answer has what is told of the reason (T-03) and, beside it, the age; 0 where none is told
  pub reason : (n : ℤ) → reason_told (explained_at n h) ≡ told n h
  pub beside : (n : ℤ) (clocks : ℕ) → aged_at n h ≡ Ok clocks → age_told (explained_at n h) ≡ clocks
  pub untold : (n : ℤ) → 0 < age_number (aged_at n h) → age_told (explained_at n h) ≡ 0
  -- "a stamp, the number of accepted clock events since power modulo 65,536"; 0 before power
  pub stamp :
      (w x y : ℤ) (t : List Event) → Accepted (power w x y) h → Unpowered t (power w x y ∷ h) →
      stamp_out (t ++ (power w x y ∷ h)) ≡ tenths_in t (power w x y ∷ h) % 65536
  pub unpowered : power_on h ≡ false → stamp_out h ≡ 0
  -- "for each fan the stamp at which its duty last went from 0 to more"
  pub started : (f : FanId) (e : Event) → duty_out f h ≡ 0 → 0 < duty_out f (e ∷ h) → AgeSince f (e ∷ h)
  -- "Power sets all three stamps to 0"
  pub powered : (f : FanId) (w x y : ℤ) → Accepted (power w x y) h → (stamp_out (power w x y ∷ h) ≡ 0) × AgeSince f (power w x y ∷ h)
  -- "Software reset keeps the stamp and sets both fan stamps to it"
  pub restarted :
      (f : FanId) (w : ℤ) (b : ℕ) → Accepted (reset w b) h → bit_of b 7 ≡ true → (stamp_out (reset w b ∷ h) ≡ stamp_out h) × AgeSince f (reset w b ∷ h)
  -- a refused event, a clock too, counts nothing
  pub refused : (e : Event) (n : ℤ) → accepted e h ≡ false → (stamp_out (e ∷ h) ≡ stamp_out h) × (aged_at n (e ∷ h) ≡ aged_at n h)
