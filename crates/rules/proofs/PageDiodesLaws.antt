-- The page of diode errors holds after every list. Assumes nothing.
use Prim.Native.Nat.{ℕ, ◌<◌}
use mathlib.Core.Path.{◌≡◌, refl, sym, ap, subst, ◌∙◌}
use mathlib.Core.Bool.{true, false, cond, ◌&&◌, true≢false}
use mathlib.Core.List.{[], ◌∷◌}
use lib.Dec.{eqb}
use lib.IntN.{pos}
use Rattle.integer.proofs.BoolLaws.{by_cases}
use Rattle.part.specs.declared.ChannelId.{ChannelId}
use Rattle.part.specs.declared.ChannelId.TheVariants.{Local, Remote1, Remote2}
use Rattle.part.specs.declared.FanId.{FanId}
use Rattle.part.specs.declared.FanId.TheVariants.{One, Two}
use Rattle.event.specs.declared.Event.{Event}
use Rattle.event.specs.declared.Event.TheVariants as event
use Rattle.event.specs.declared.Transfer.TheVariants as transfer
use Rattle.event.specs.declared.Kind.TheVariants as kind
use Rattle.event.specs.declared.Reason.TheVariants as reason
use Rattle.rules.specs.Registers.{exists_at}
use Rattle.rules.specs.Events.{is_number, channel_number}
use Rattle.rules.specs.Stored.{Taken, diode_error}
use Rattle.rules.specs.Replies.{out_of_range, History, taken, accepted}
use Rattle.rules.specs.Shows.{status, byte_at, value}
use Rattle.rules.specs.PageWords.{sampled, reported, Accepted, register, bit, duty_out, by_channel, by_fan, error_status, is_assigned}
use Rattle.rules.specs.PageDuties.{running, aim, clocks_left, eighths_read}
use Rattle.rules.specs.PageTemperatures.{latched}
use Rattle.rules.specs.PageDiodes.{said_by, stands, PageDiodes}
use Rattle.rules.proofs.TakenLaws.{went, refused_is, accepted_is}
use Rattle.rules.proofs.ReplyWords.{same_is}
use Rattle.rules.proofs.DiodeLaws.{error_is}
use Rattle.rules.proofs.FanWordsLaws.{duty_is, assigned_is}
use Rattle.rules.proofs.TurnLaws.{AimKept}
use Rattle.rules.proofs.IdleLaws as idle
use Rattle.rules.proofs.ReportLaws.{is_not, error_after_lem, bit_kept, value_other, kept_elsewhere}
use Rattle.rules.proofs.PageTemperaturesLaws.{page_temperatures}
use Rattle.rules.proofs.PageDutiesLaws.{page_duties}
use Rattle.rules.proofs.PageStaysLaws.{page_stays}
use Rattle.rules.proofs.BrokenLaws.{broken_refused, at_240, at_full, is_demand, its_fact}
use Rattle.rules.proofs.PageReasonsLaws.{page_reasons}

-- ---- bit 5 is the error that stands

-- what an accepted event says of a diode is what the rule has of it
said : (c : ChannelId) (e : Event) (d : Taken) → out_of_range e ≡ false → said_by c e (diode_error c d) ≡ diode_error c (e ∷ d)
unfolding said_by diode_error
said c (event.Power n) d fine = given c
  where
    given : (c : ChannelId) → said_by c (event.Power n) (diode_error c d) ≡ diode_error c (event.Power n ∷ d)
    given Local = refl
    given Remote1 = sym (same_is n.arg 1)
    given Remote2 = sym (same_is n.val 1)
said c (event.Diode n) d fine = rw (← same_is n.who (by_channel 0 1 2 c), ← same_is n.val 1) (numbered c)
  where
    numbered :
        (c : ChannelId) →
        cond (is_number n.who (by_channel 0 1 2 c)) (is_number n.val 1) (diode_error c d)
        ≡ cond (is_number n.who (channel_number c)) (is_number n.val 1) (diode_error c d)
    numbered Local = refl
    numbered Remote1 = refl
    numbered Remote2 = refl
said c (event.Bus (transfer.Write n)) d fine = refl
said c (event.Bus (transfer.Point n)) d fine = refl
said c (event.Bus (transfer.Read n)) d fine = refl
said c (event.Sample n) d fine = refl
said c (event.Tach n) d fine = refl
said c (event.Pin n) d fine = refl
said c (event.Clock n) d fine = refl
said c (event.Period n) d fine = refl
said c (event.Alert n) d fine = refl

stands_is : (c : ChannelId) (h : History) → stands c h ≡ diode_error c (taken h)
unfolding stands
stands_is c [] = (unfold taken diode_error in refl)
stands_is c (e ∷ h) =
    by_cases (accepted e h)
    (λ go. rw (go, accepted_is e h go, stands_is c h) (said c e (taken h) (went e (taken h) go).range))
    (λ bad. rw (bad, refused_is e h bad) (stands_is c h))

-- ---- what a report leaves

status_shown : (f : FanId) (d : Taken) → value (by_fan 0x02 0x03 f) d ≡ status f d
unfolding value byte_at exists_at
status_shown One d = refl
status_shown Two d = refl

not_own :
    (c : ChannelId) (a : ℕ) → eqb a (by_channel 0x02 0x02 0x03 c) ≡ false → (f : FanId) → eqb a (by_fan 0x02 0x03 f) ≡ true →
    c ≡ by_fan Remote1 Remote2 f → ⊥
not_own c a q One z p = true≢false (sym z ∙ subst (λ (c : ChannelId). eqb a (by_channel 0x02 0x02 0x03 c) ≡ false) p q)
not_own c a q Two z p = true≢false (sym z ∙ subst (λ (c : ChannelId). eqb a (by_channel 0x02 0x02 0x03 c) ≡ false) p q)

module _ (h : History) (c : ChannelId) (n : ℕ) (go : Accepted (reported c (pos n)) h) where
  abbrev e : Event
  e = reported c (pos n)

  then_is : taken (e ∷ h) ≡ e ∷ taken h
  then_is = accepted_is e h go

  found : error_status c (e ∷ h) ≡ eqb n 1
  found = error_is (e ∷ h) c ∙ (ap (diode_error c) then_is ∙ error_after_lem (taken h) c n)

  bits_stay : (k : ℕ) → k < 8 → eqb k 5 ≡ false → (f : FanId) → bit (by_fan 0x02 0x03 f) k (e ∷ h) ≡ bit (by_fan 0x02 0x03 f) k h
  bits_stay k l q f =
      rw (then_is, status_shown f (e ∷ taken h), status_shown f (taken h)) (bit_kept (taken h) (pos n) c k l q f)

  own_bits :
      (k : ℕ) → k < 8 → eqb k 5 ≡ false → bit (by_channel 0x02 0x02 0x03 c) k (e ∷ h) ≡ bit (by_channel 0x02 0x02 0x03 c) k h
  own_bits k l q = at c (bits_stay k l q)
    where
      at :
          (x : ChannelId) → ((f : FanId) → bit (by_fan 0x02 0x03 f) k (e ∷ h) ≡ bit (by_fan 0x02 0x03 f) k h) →
          bit (by_channel 0x02 0x02 0x03 x) k (e ∷ h) ≡ bit (by_channel 0x02 0x02 0x03 x) k h
      at Local all = all One
      at Remote1 all = all One
      at Remote2 all = all Two

  registers_stay : (a : ℕ) → eqb a (by_channel 0x02 0x02 0x03 c) ≡ false → register a (e ∷ h) ≡ register a h
  registers_stay a q = rw then_is (value_other (taken h) (pos n) c a (not_own c a q))

  no_say : (f : FanId) → (bit 0x00 7 h && is_assigned f c h) ≡ false → AimKept f e (taken h)
  unfolding value byte_at exists_at
  no_say f q = kept_elsewhere (taken h) c (pos n) f (rw (← assigned_is h (taken h) refl f c) q)

  fan_stays :
      (f : FanId) → (bit 0x00 7 h && is_assigned f c h) ≡ false →
      (aim f (e ∷ h) ≡ aim f h) × (duty_out f (e ∷ h) ≡ duty_out f h) × (clocks_left f (e ∷ h) ≡ clocks_left f h)
  fan_stays f q =
      let s = no_say f q in
      let d = taken h in (
        rw then_is s.aim,
        duty_is (e ∷ h) (e ∷ d) then_is f ∙ (idle.duty_kept e d (is_not c (pos n)) f s ∙ sym (duty_is h d refl f)),
        rw then_is (idle.left_kept e d (is_not c (pos n)) f s),
      )

  channel_stays : (x : ChannelId) → (running x (e ∷ h) ≡ running x h) × (latched x (e ∷ h) ≡ latched x h) × (eighths_read x (e ∷ h) ≡ eighths_read x h)
  channel_stays x =
      let other = is_not c (pos n) in (
        (page_duties h).flag_stays x e go (other kind.Sample refl) (other kind.Power refl) (other kind.Write refl),
        (page_temperatures h).latch_stays x e go (other kind.Sample refl) (other kind.Power refl) (other kind.Write refl),
        (page_stays h).reading_stays x e go (other kind.Sample refl) (other kind.Power refl) (other kind.Write refl),
      )

pub page_diodes : (h : History) → PageDiodes h
page_diodes h =
    record {
      exactly = λ c. error_is h c ∙ sym (stands_is c h);
      found = λ c n go. found h c n go;
      bits = λ c n k go l q. own_bits h c n go k l q;
      registers = λ c n a go q. registers_stay h c n go a q;
      target = at_240 h;
      full = λ f c x auto y on plain. at_full h f (at_240 h f c x auto y) on plain;
      elsewhere = λ f c n go q. fan_stays h c n go f q;
      mended = λ c x n go. channel_stays h c n go x;
      unsampled = λ c t x. let bad = broken_refused c t h x in (bad, refused_is (sampled c t) h bad);
      named = λ f c r x y lower told q.
          let auto = is_demand h f r q ((page_reasons h).holds f r told) in
          sym ((page_reasons h).only f r (reason.Demand c) told (its_fact h f c auto x y lower) (sym q));
    }
