-- The number of each reply, in the words of the page. Assumes nothing.
use Prim.Native.Nat.{ℕ}
use mathlib.Core.Path.{◌≡◌, refl, sym, ◌∙◌}
use mathlib.Core.Bool.{Bool, true, false, cond, not, ◌&&◌, and-true, and-false}
use mathlib.Core.List.{[], ◌∷◌}
use lib.IntN.{ℤ, pos, negsuc}
use borrow.Author.Tests.{eqb-true}
use Rattle.integer.proofs.BoolLaws.{by_cases}
use Rattle.part.specs.declared.FanId.TheVariants.{One, Two}
use Rattle.event.specs.Answers.{number_of, refusal_number}
use Rattle.std.specs.Prelude.{Result, Ok, Err}
use Rattle.event.specs.declared.Refusal.{Refusal}
use Rattle.event.specs.declared.Event.{Event}
use Rattle.rules.specs.Registers.{exists_at}
use Rattle.rules.specs.Events.{ranges_of, lies, up_to}
use Rattle.rules.specs.Stored.{powered, own_address}
use Rattle.rules.specs.Replies.{History, taken, accepts, reply_to, lowest}
use Rattle.rules.specs.Shows.{value, byte_at, answer}
use Rattle.rules.specs.PageWords.{reply_number, power, write, point, read, sample, tach, pin, clock, period, alert, diode}
use Rattle.rules.specs.PageReplies.{first, one_of, between, is_zero, registers, read_only_registers, bad_range, odd, ours, monitored, broken, power_on}
use Rattle.rules.proofs.TakenLaws.{took, own_small}
use Rattle.rules.proofs.StatusLaws.{error_shown}
use Rattle.rules.proofs.ReplyWords.{same_is, zero_is, within_is, register_is, read_only_is, control_is, bad_range_is, odd_is, own_fits, register_fits}

-- ---- the number of a reply

-- the data that a read fills in leaves it
answered : (r : Result ℕ Refusal) (n : ℕ) → number_of (cond (accepts r) (Ok n) r) ≡ number_of r
answered r n = by_cases (accepts r) (λ q. rw q (sym (eqb-true (number_of r) 0 q))) (λ q. rw q)

pub number_is : (e : Event) (h : History) → reply_number e h ≡ number_of (reply_to e (taken h))
unfolding answer
number_is e h = answered (reply_to e (taken h)) _

-- it is that of the first refusal whose test holds
pushed : (t : Bool) (r : Refusal) (x : Result ℕ Refusal) → number_of (cond t (Err r) x) ≡ cond t (refusal_number r) (number_of x)
pushed true r x = refl
pushed false r x = refl

-- ---- each kind

module _ (h : History) (w a v : ℤ) where
  -- our address and a register need no range
  fits : ours w h ≡ true → lies (up_to 127) w ≡ true
  fits o = own_fits w (own_address (taken h)) (own_small (took h)) (same_is w (own_address (taken h)) ∙ o)

  inside : one_of registers a ≡ true → lies (up_to 255) a ≡ true
  inside r = register_fits a (register_is a ∙ r)

  pub powers : reply_number (power w a v) h ≡ first (not (between (pos 44) (pos 46) w && (between (pos 0) (pos 1) a && between (pos 0) (pos 1) v))) 6 0
  unfolding reply_to lowest ranges_of
  powers = number_is (power w a v) h ∙ rw (and-false (not (powered (taken h)))) (simp pushed)

  pub writes :
      reply_number (write w a v) h
      ≡ first (not (power_on h)) 1 (first (not (ours w h)) 2 (first (not (one_of registers a)) 4 (first (one_of read_only_registers a) 5
      (first (not (between (pos 0) (pos 255) v)) 6
      (first (one_of (0x24 ∷ 0x25 ∷ 0x26 ∷ []) a && bad_range v) 7 0)))))
  unfolding reply_to lowest ranges_of
  writes =
      number_is (write w a v) h
      ∙ simp (pushed, and-true)
      (rw (same_is w (own_address (taken h)), register_is a)
      (by_cases (ours w h)
      (λ o. by_cases (one_of registers a)
      (λ r. rw (o, r, fits o, inside r, read_only_is a (register_is a ∙ r), control_is a (register_is a ∙ r), bad_range_is v))
      (λ r. rw (o, r)))
      (λ o. rw o)))

  pub points :
      reply_number (point w a v) h
      ≡ first (not (power_on h)) 1 (first (not (ours w h)) 2 (first (not (one_of registers a)) 4 (first (not (is_zero v)) 6 0)))
  unfolding reply_to lowest ranges_of
  points =
      number_is (point w a v) h
      ∙ simp (pushed, and-true)
      (rw (same_is w (own_address (taken h)), register_is a)
      (by_cases (ours w h)
      (λ o. by_cases (one_of registers a) (λ r. rw (o, r, fits o, inside r, zero_is v)) (λ r. rw (o, r)))
      (λ o. rw o)))

  pub reads : reply_number (read w a v) h ≡ first (not (power_on h)) 1 (first (not (ours w h)) 2 (first (not (is_zero a && is_zero v)) 6 0))
  unfolding reply_to lowest ranges_of
  reads =
      number_is (read w a v) h
      ∙ simp (pushed, and-true)
      (rw (same_is w (own_address (taken h))) (by_cases (ours w h) (λ o. rw (o, fits o, zero_is a, zero_is v)) (λ o. rw o)))

  pub alerts : reply_number (alert w a v) h ≡ first (not (power_on h)) 1 (first (not (ours w h)) 2 (first (not (is_zero a && is_zero v)) 6 0))
  unfolding reply_to lowest ranges_of
  alerts =
      number_is (alert w a v) h
      ∙ simp (pushed, and-true)
      (rw (same_is w (own_address (taken h))) (by_cases (ours w h) (λ o. rw (o, fits o, zero_is a, zero_is v)) (λ o. rw o)))

  pub samples :
      reply_number (sample w a v) h
      ≡ first (not (power_on h)) 1 (first (not (between (pos 0) (pos 2) w)) 3
      (first (not (is_zero a && between (negsuc 1023) (pos 1023) v)) 6 (first (is_zero w && odd v) 8 (first (not (monitored h)) 9
      (first (broken w h) 13 0)))))
  unfolding reply_to lowest ranges_of value byte_at exists_at
  samples =
      number_is (sample w a v) h
      ∙ simp (pushed, and-true)
      (rw (within_is 0 2 w, same_is w 0, same_is w 1, same_is w 2, odd_is v, error_shown (taken h) One, error_shown (taken h) Two)
      (by_cases (between (pos 0) (pos 2) w) (λ o. rw (o, zero_is a)) (λ o. rw o)))

  pub tachs :
      reply_number (tach w a v) h
      ≡ first (not (power_on h)) 1 (first (not (between (pos 1) (pos 2) w)) 3
      (first (not (is_zero a && between (pos 0) (pos 255) v)) 6 (first (not (monitored h)) 9 0)))
  unfolding reply_to lowest ranges_of value byte_at exists_at
  tachs =
      number_is (tach w a v) h
      ∙ simp (pushed, and-true) (rw (within_is 1 2 w) (by_cases (between (pos 1) (pos 2) w) (λ o. rw (o, zero_is a)) (λ o. rw o)))

  pub pins : reply_number (pin w a v) h ≡ first (not (power_on h)) 1 (first (not (is_zero w && (is_zero a && between (pos 0) (pos 1) v))) 6 0)
  unfolding reply_to lowest ranges_of
  pins = number_is (pin w a v) h ∙ simp (pushed, and-true) (rw (zero_is w, zero_is a))

  pub clocks : reply_number (clock w a v) h ≡ first (not (power_on h)) 1 (first (not (is_zero w && (is_zero a && is_zero v))) 6 0)
  unfolding reply_to lowest ranges_of
  clocks = number_is (clock w a v) h ∙ simp (pushed, and-true) (rw (zero_is w, zero_is a, zero_is v))

  pub periods : reply_number (period w a v) h ≡ first (not (power_on h)) 1
      (first (not (between (pos 1) (pos 2) w)) 3 (first (not (is_zero a && is_zero v)) 6 0))
  unfolding reply_to lowest ranges_of
  periods =
      number_is (period w a v) h
      ∙ simp (pushed, and-true) (rw (within_is 1 2 w) (by_cases (between (pos 1) (pos 2) w) (λ o. rw (o, zero_is a, zero_is v)) (λ o. rw o)))

  pub diodes :
      reply_number (diode w a v) h
      ≡ first (not (power_on h)) 1 (first (not (between (pos 1) (pos 2) w)) 3 (first (not (is_zero a && between (pos 0) (pos 1) v)) 6 0))
  unfolding reply_to lowest ranges_of
  diodes =
      number_is (diode w a v) h
      ∙ simp (pushed, and-true) (rw (within_is 1 2 w) (by_cases (between (pos 1) (pos 2) w) (λ o. rw (o, zero_is a)) (λ o. rw o)))
