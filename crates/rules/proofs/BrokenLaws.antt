-- A channel in error: its samples are refused, its fans go to 240, and the reason names it. Assumes nothing.
use Prim.Native.Nat.{ℕ, ◌<◌, ◌≤◌}
use mathlib.Core.Path.{◌≡◌, refl, sym, ◌∙◌}
use mathlib.Core.Bool.{Bool, true, false, not, true≢false}
use native.Mathlib.Omega.{arith}
use lib.Dec.{eqb}
use lib.IntN.{ℤ, pos, negsuc}
use borrow.Author.Tests.{eqb-true, eqb-false}
use Rattle.integer.proofs.BoolLaws.{by_cases, either}
use Rattle.part.specs.declared.ChannelId.{ChannelId}
use Rattle.part.specs.declared.ChannelId.TheVariants.{Local, Remote1, Remote2}
use Rattle.part.specs.declared.FanId.{FanId}
use Rattle.event.specs.declared.Reason.{Reason}
use Rattle.event.specs.declared.Reason.TheVariants as reason
use Rattle.rules.specs.Stored.{Taken}
use Rattle.rules.specs.Replies.{History, taken, accepted}
use Rattle.rules.specs.PageWords.{sampled, bit, duty_out, output_bit, filter_bit, error_status, is_assigned}
use Rattle.rules.specs.PageWords.{reply_number}
use Rattle.rules.specs.PageReplies.{first, between, power_on, monitored}
use Rattle.rules.specs.PageDuties.{aim, clocks_left, forced, demanded}
use Rattle.rules.specs.PageReasons.{in_order, below, Fact}
use Rattle.rules.proofs.ReplyLaws.{samples}
use Rattle.rules.proofs.FanWordsLaws.{demanded_is}
use Rattle.rules.proofs.PageDutiesLaws.{demand_small, page_duties}
use Rattle.rules.proofs.PageStaysLaws.{page_stays}

-- ---- a sample of a channel in error

some_number : (power range monitoring : Bool) → eqb (first power 1 (first range 6 (first monitoring 9 13))) 0 ≡ false
some_number a b c =
    let P : ℕ → Type 0 = λ n. eqb n 0 ≡ false in
    either P a refl (either P b refl (either P c refl refl))

pub broken_refused : (c : ChannelId) (t : ℤ) (h : History) → error_status c h ≡ true → accepted (sampled c t) h ≡ false
broken_refused c t h x = (page_stays h).accepts (sampled c t) ∙ number c x
  where
    number : (c : ChannelId) → error_status c h ≡ true → eqb (reply_number (sampled c t) h) 0 ≡ false
    number Local x = absurd (true≢false (sym x))
    number Remote1 x =
        rw (samples h (pos 1) (pos 0) t, x)
        (some_number (not (power_on h)) (not (between (negsuc 1023) (pos 1023) t)) (not (monitored h)))
    number Remote2 x =
        rw (samples h (pos 2) (pos 0) t, x)
        (some_number (not (power_on h)) (not (between (negsuc 1023) (pos 1023) t)) (not (monitored h)))

module _ (h : History) where
  abbrev d : Taken
  d = taken h

  demanded_small : (f : FanId) (c : ChannelId) → demanded f c h ≤ 240
  demanded_small f c = rw (demanded_is h d refl) (demand_small f c d)

  full_demand : (f : FanId) (c : ChannelId) → error_status c h ≡ true → demanded f c h ≡ 240
  full_demand f c x = rw x

  -- ---- the fans

  pub at_240 : (f : FanId) (c : ChannelId) → error_status c h ≡ true → bit 0x00 7 h ≡ true → is_assigned f c h ≡ true → aim f h ≡ 240
  at_240 f c x auto y =
      omega (
        arith,
        full_demand f c x,
        (page_duties h).largest f c auto y,
        (page_duties h).nothing f 240 auto (λ other a. demanded_small f other),
      )

  -- overridden, spinning up, or at its target
  pub at_full : (f : FanId) → aim f h ≡ 240 → output_bit f h ≡ true → filter_bit f h ≡ false → duty_out f h ≡ 240
  at_full f aimed on plain =
      by_cases (forced h)
      (λ o. (page_duties h).full f on o)
      (λ o. by_cases (eqb (clocks_left f h) 0)
      (λ z. (page_duties h).unfiltered f on o (omega arith) (eqb-true _ _ z) plain ∙ aimed)
      (λ z. (page_duties h).spinning f on o (omega arith) (omega (arith, eqb-false (clocks_left f h) 0 z))))

  -- ---- the reason

  pub is_demand : (f : FanId) (r : Reason) → in_order r ≡ 8 → Fact f h r → bit 0x00 7 h ≡ true
  unfolding Fact
  is_demand f reason.Disabled q a = absurd (omega (arith, q))
  is_demand f reason.PinLow q a = absurd (omega (arith, q))
  is_demand f (reason.Therm c) q a = absurd (omega (arith, q))
  is_demand f reason.NoTarget q a = absurd (omega (arith, q))
  is_demand f (reason.SpinUp n) q a = absurd (omega (arith, q))
  is_demand f (reason.Ramp r) q a = absurd (omega (arith, q))
  is_demand f reason.Manual q a = absurd (omega (arith, q))
  is_demand f (reason.Demand c) q a = a.0

  pub its_fact :
      (f : FanId) (c : ChannelId) → bit 0x00 7 h ≡ true → error_status c h ≡ true → is_assigned f c h ≡ true →
      ((other : ChannelId) → below other c → is_assigned f other h ≡ true → demanded f other h < 240) → Fact f h (reason.Demand c)
  unfolding Fact
  its_fact f c auto x y lower = (
    auto,
    y,
    (λ other a. omega (arith, demanded_small f other, full_demand f c x)),
    (λ other l a. omega (arith, lower other l a, full_demand f c x)),
  )
