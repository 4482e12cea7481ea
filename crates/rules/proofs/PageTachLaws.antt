-- The page, "Tach counts": every sentence holds after every list of events. Assumes nothing.
use Prim.Native.Nat.{ℕ, suc, ◌<◌, ◌≤◌}
use mathlib.Core.Path.{◌≡◌, refl, sym, ◌∙◌}
use mathlib.Core.Bool.{Bool, true, false, cond, ◌&&◌, ◌||◌, and-false}
use mathlib.Core.List.{◌∷◌}
use lib.Dec.{eqb, ltb, leb}
use lib.IntN.{pos}
use borrow.Author.Tests.{ltb-true, lt-ltb, le-ltb}
use Rattle.integer.proofs.BoolLaws.{by_cases, both}
use Rattle.integer.specs.Bits.{flag_of}
use Rattle.part.specs.declared.FanId.{FanId}
use Rattle.part.specs.declared.FanId.TheVariants.{One, Two}
use Rattle.event.specs.Kinds.{is_kind}
use Rattle.event.specs.declared.Event.{Event}
use Rattle.event.specs.declared.Kind.TheVariants as kind
use Rattle.rules.specs.Registers.{config2, tach_limit_at, exists_at}
use Rattle.rules.specs.Events.{byte_given, measures}
use Rattle.rules.specs.Stored.{Taken, counts, stored_at}
use Rattle.rules.specs.Replies.{History, taken}
use Rattle.rules.specs.Duties.{tach_on, spin, judged, failed, failures, fault_bit}
use Rattle.rules.specs.Shows.{byte_at, value, fault_asserted, shown}
use Rattle.rules.specs.PageWords.{counted, Accepted, register, bit, out, duty_out, by_fan, tach_bit, fault_status, spin_up_figure}
use Rattle.rules.specs.PageDuties.{clocks_left, failure_run, judged_after, PageTach}
use Rattle.rules.proofs.TakenLaws.{accepted_is}
use Rattle.rules.proofs.FanWordsLaws.{duty_is, left_is, tach_is, limit_is, fault_is, spin_up_is}
use Rattle.rules.proofs.CalmLaws.{byte_same}
use Rattle.rules.proofs.TachLaws as tach
use Rattle.rules.proofs.TachLaws.{judgeable}
use Rattle.rules.proofs.UnjudgedLaws.{run_then, value_same, shown_same}

-- ---- a count of a fan

abbrev pub count : FanId → ℕ → Event
count f n = counted f (pos n)

pub is_tach : (f : FanId) (n : ℕ) → is_kind kind.Tach (count f n) ≡ true
is_tach One n = refl
is_tach Two n = refl

pub own : (f : FanId) (n : ℕ) → measures f (count f n) ≡ true
own One n = refl
own Two n = refl

pub given : (f : FanId) (n : ℕ) → byte_given (count f n) ≡ n
given One n = refl
given Two n = refl

stored_then : (f : FanId) (n : ℕ) (d : Taken) → value (by_fan 0x08 0x09 f) (count f n ∷ d) ≡ n
unfolding value byte_at exists_at stored_at
stored_then One n d = refl
stored_then Two n d = refl

-- it is no count of another register, and no judged one of the other fan
pub elsewhere : (f : FanId) (n a : ℕ) → eqb a (by_fan 0x08 0x09 f) ≡ false → counts a (count f n) ≡ false
elsewhere One n a q = simp (q, and-false)
elsewhere Two n a q = simp (q, and-false)

neither_judged : (f g : FanId) (n : ℕ) (d : Taken) → judgeable f d ≡ false → (measures g (count f n) && judgeable g d) ≡ false
neither_judged One One n d q = q
neither_judged One Two n d q = refl
neither_judged Two One n d q = refl
neither_judged Two Two n d q = q

module _ (f : FanId) (n : ℕ) (d : Taken) where
  judged_by : {b : Bool} → judgeable f d ≡ b → judged f (count f n) d ≡ b
  judged_by q = tach.judged_is (count f n) d (is_tach f n) f ∙ rw (own f n) q

  failed_by : judgeable f d ≡ true → {b : Bool} → ltb (stored_at (tach_limit_at f) d) n ≡ b → failed f (count f n) d ≡ b
  failed_by y q = tach.failed_is (count f n) d (is_tach f n) f ∙ rw (own f n, given f n, y) q

  unjudged_by : judgeable f d ≡ false → (g : FanId) → judged g (count f n) d ≡ false
  unjudged_by q g = tach.judged_is (count f n) d (is_tach f n) g ∙ neither_judged f g n d q

  module _ (y : judgeable f d ≡ true) where
    tracked : tach_on f d ≡ true
    tracked = (both (tach_on f d) _ y).0

    was_turning : 0 < (spin f d).duty
    was_turning = ltb-true 0 (spin f d).duty (both (ltb 0 (spin f d).duty) _ (both (tach_on f d) _ y).1).0

    run_after : {b : Bool} → failed f (count f n) d ≡ b → failures f (count f n ∷ d) ≡ cond b (suc (failures f d)) 0
    run_after {b} q = tach.run_is (count f n) d (is_tach f n) f ∙ rw (tracked, q, judged_by y)

-- a run moves by no other kind
pub run_kept :
    (f : FanId) (e : Event) (d : Taken) → is_kind kind.Tach e ≡ false → is_kind kind.Power e ≡ false → is_kind kind.Write e ≡ false →
    failures f (e ∷ d) ≡ failures f d
unfolding failures failed judged
run_kept f e d no-tach no_power no_write =
    rw (no-tach, no_power, no_write, byte_same e d no_power no_write config2 refl)
    (by_cases (tach_on f d) (λ y. rw y) (λ n. rw n (sym (tach.untracked f d n))))

-- ---- after a list of events

module _ (h : History) where
  abbrev d : Taken
  d = taken h

  pub judgeable_by : (f : FanId) {b : Bool} → judged_after f h ≡ b → judgeable f d ≡ b
  judgeable_by f q = rw (← tach_is h d refl f, ← duty_is h d refl f) q

  fault_out : (out h).fault ≡ flag_of (bit 0x00 4 h && (leb 5 (failure_run One h) || leb 5 (failure_run Two h)))
  unfolding shown fault_asserted value byte_at exists_at
  fault_out = refl

  module _ (f : FanId) (n : ℕ) (go : Accepted (count f n) h) where
    abbrev then : taken (count f n ∷ h) ≡ (count f n ∷ d)
    then = accepted_is (count f n) h go

    fails :
        judged_after f h ≡ true → register (by_fan 0x10 0x11 f) h < n →
        (fault_status f (count f n ∷ h) ≡ true) × (failure_run f (count f n ∷ h) ≡ suc (failure_run f h))
        × (clocks_left f (count f n ∷ h) ≡ spin_up_figure f h) × (duty_out f (count f n ∷ h) ≡ 240)
    fails y l =
        let j = judgeable_by f y in
        let bad = failed_by f n d j (lt-ltb _ n (rw (limit_is h d refl) at l)) in
        let was = was_turning f n d j in (
          fault_is (count f n ∷ h) (count f n ∷ d) then f ∙ (tach.fault_is (count f n) d (is_tach f n) f ∙ rw bad),
          rw then (run_after f n d j bad),
          left_is (count f n ∷ h) (count f n ∷ d) then f ∙ (tach.left_anew (count f n) d (is_tach f n) f bad was ∙ sym (spin_up_is h d refl f)),
          duty_is (count f n ∷ h) (count f n ∷ d) then f ∙ tach.full_again (count f n) d (is_tach f n) f bad was,
        )

    succeeds :
        judged_after f h ≡ true → n ≤ register (by_fan 0x10 0x11 f) h →
        (failure_run f (count f n ∷ h) ≡ 0) × (fault_status f (count f n ∷ h) ≡ fault_status f h)
        × (duty_out f (count f n ∷ h) ≡ duty_out f h)
    succeeds y l =
        let j = judgeable_by f y in
        let fine = failed_by f n d j (le-ltb _ n (rw (limit_is h d refl) at l)) in (
          rw then (run_after f n d j fine),
          fault_is (count f n ∷ h) (count f n ∷ d) then f ∙ (tach.fault_is (count f n) d (is_tach f n) f ∙ rw fine (sym (fault_is h d refl f))),
          duty_is (count f n ∷ h) (count f n ∷ d) then f ∙ (tach.duty_kept (count f n) d (is_tach f n) f fine ∙ sym (duty_is h d refl f)),
        )

    passes :
        (a : ℕ) → judged_after f h ≡ false →
        ((eqb a (by_fan 0x08 0x09 f) ≡ false → register a (count f n ∷ h) ≡ register a h)
        × (failure_run f (count f n ∷ h) ≡ cond (tach_bit f h) (failure_run f h) 0)) × (out (count f n ∷ h) ≡ out h)
    passes a y =
        let calm = unjudged_by f n d (judgeable_by f y) in (
          (
            λ q. rw then (value_same (count f n) d (is_tach f n) calm a (elsewhere f n a q)),
            rw (then, tach_is h d refl f) (run_then (count f n) d (is_tach f n) calm f),
          ),
          rw then (shown_same (count f n) d (is_tach f n) calm),
        )

fault_kept :
    (f : FanId) (e : Event) (d : Taken) → is_kind kind.Tach e ≡ false → is_kind kind.Read e ≡ false → is_kind kind.Power e ≡ false →
    is_kind kind.Write e ≡ false →
    fault_bit f (e ∷ d) ≡ fault_bit f d
unfolding fault_bit failed
fault_kept f e d no-tach no_read no_power no_write = rw (no-tach, no_read, no_power, no_write)

pub page_tach : (h : History) → PageTach h
page_tach h =
    let d = taken h in
    record {
      stored = λ f n go. rw (accepted_is (count f n) h go) (stored_then f n d);
      failure = fails h;
      fault_stays = λ f e go no-tach no_read no_power no_write. let q = accepted_is e h go in
          fault_is (e ∷ h) (e ∷ d) q f ∙ (fault_kept f e d no-tach no_read no_power no_write ∙ sym (fault_is h d refl f));
      success = succeeds h;
      unjudged = λ f n a go. passes h f n go a;
      untracked = λ f off. tach.untracked f d (sym (tach_is h d refl f) ∙ off);
      run_stays = λ f e go no-tach no_power no_write. rw (accepted_is e h go) (run_kept f e d no-tach no_power no_write);
      fault = fault_out h;
    }
