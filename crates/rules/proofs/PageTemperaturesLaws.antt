-- The page of the temperatures holds after every list. Assumes nothing.
use Prim.Native.Nat.{ℕ}
use mathlib.Core.Path.{◌≡◌, refl, sym, ◌∙◌}
use mathlib.Core.Bool.{true, false, ◌||◌}
use mathlib.Core.List.{◌∷◌}
use lib.Dec.{eqb}
use lib.IntN.{ℤ, pos}
use Rattle.integer.specs.Bits.{bit_of}
use Rattle.part.specs.declared.ChannelId.{ChannelId}
use Rattle.part.specs.declared.ChannelId.TheVariants.{Local, Remote1, Remote2}
use Rattle.part.specs.declared.FanId.{FanId}
use Rattle.part.specs.declared.FanId.TheVariants.{One, Two}
use Rattle.event.specs.Kinds.{is_kind}
use Rattle.event.specs.declared.Event.{Event}
use Rattle.event.specs.declared.Kind.TheVariants as kind
use Rattle.rules.specs.Registers.{exists_at}
use Rattle.rules.specs.Events.{samples}
use Rattle.rules.specs.Stored.{Taken, stored_at, pin_low, diode_error, pulled_bit}
use Rattle.rules.specs.Replies.{History, taken}
use Rattle.rules.specs.Temperatures.{temperature, channel_on}
use Rattle.rules.specs.Shows.{byte_at, value, answer}
use Rattle.rules.specs.PageWords.{power, write, read, sampled, pulled_low, let_go, by_channel, by_fan}
use Rattle.rules.specs.PageTemperatures.{PageTemperatures, reset}
use Rattle.rules.proofs.TakenLaws.{took, accepted_is}
use Rattle.rules.proofs.QuietLaws.{uncounted, shows_alike}
use Rattle.rules.proofs.OffsetLaws.{figure_is}
use Rattle.rules.proofs.ReadingLaws.{eighths, last_reading_lem, reads_back}
use Rattle.rules.proofs.StatusLaws.{high_shown, low_shown, therm_shown, error_shown, pulled_shown, high_off, low_off, therm_off, clears, keeps}
use Rattle.rules.proofs.CalmLaws.{error_same}
use Rattle.rules.proofs.StayLaws.{high_kept, low_kept, therm_kept, pulled_kept, sampled_kind, another}
use Rattle.rules.proofs.ChannelLaws as channel
use Rattle.rules.proofs.OrdinaryLaws.{latch_left}
use Rattle.rules.proofs.PowerLaws.{restart_latch, restart_flag, restart_run}
use Rattle.rules.proofs.ResetLaws.{reset_keeps_lem, afresh, reset_as_power_lem, outputs_alike, low_byte, low_spin}

module _ (d : Taken) where
  -- a read leaves every register but the status bytes
  held : (w : ℤ) (a : ℕ) → (eqb a 0x02 || eqb a 0x03) ≡ false → value a (read w (pos 0) (pos 0) ∷ d) ≡ value a d
  unfolding stored_at temperature
  held w a q = shows_alike a (read w (pos 0) (pos 0) ∷ d) d q (rw (uncounted a (read w (pos 0) (pos 0)) refl)) (λ c. refl)

  -- the enable bit of a channel in 0x01
  pub enabled_is : (c : ChannelId) → bit_of (value 0x01 d) (by_channel 4 5 6 c) ≡ channel_on c d
  unfolding value byte_at exists_at
  enabled_is Local = refl
  enabled_is Remote1 = refl
  enabled_is Remote2 = refl

  -- ---- diode errors

  error_after_lem : (w : ℤ) (a b : ℕ) (f : FanId) → bit_of (value (by_fan 0x02 0x03 f) (power w (pos a) (pos b) ∷ d)) 5 ≡ by_fan (eqb a 1) (eqb b 1) f
  unfolding diode_error
  error_after_lem w a b One = error_shown (power w (pos a) (pos b) ∷ d) One
  error_after_lem w a b Two = error_shown (power w (pos a) (pos b) ∷ d) Two

  error_stays :
      (f : FanId) (e : Event) → is_kind kind.Power e ≡ false → is_kind kind.Diode e ≡ false →
      bit_of (value (by_fan 0x02 0x03 f) (e ∷ d)) 5 ≡ bit_of (value (by_fan 0x02 0x03 f) d) 5
  error_stays f e p r = error_shown (e ∷ d) f ∙ (error_same e d p r (by_fan Remote1 Remote2 f) ∙ sym (error_shown d f))

  -- ---- the pin

  pulled_first_lem : pin_low d ≡ false → bit_of (value 0x03 (pulled_low ∷ d)) 7 ≡ true
  unfolding pulled_bit
  pulled_first_lem q = rw (pulled_shown (pulled_low ∷ d), q)

  pulled_again_lem : pin_low d ≡ true → bit_of (value 0x03 (pulled_low ∷ d)) 7 ≡ bit_of (value 0x03 d) 7
  unfolding pulled_bit
  pulled_again_lem q = rw (pulled_shown (pulled_low ∷ d), pulled_shown d, q)

  let_go_lem : bit_of (value 0x03 (let_go ∷ d)) 7 ≡ bit_of (value 0x03 d) 7
  unfolding pulled_bit
  let_go_lem = rw (pulled_shown (let_go ∷ d), pulled_shown d)

-- an event that is none of the channel's leaves its status bits
bits_kept :
    (e : Event) (d : Taken) → is_kind kind.Power e ≡ false → is_kind kind.Write e ≡ false → is_kind kind.Read e ≡ false → (c : ChannelId) →
    samples c e ≡ false →
    (bit_of (value (by_channel 0x02 0x02 0x03 c) (e ∷ d)) (by_channel 6 2 2 c) ≡ bit_of (value (by_channel 0x02 0x02 0x03 c) d) (by_channel 6 2 2 c))
    × (bit_of (value (by_channel 0x02 0x02 0x03 c) (e ∷ d)) (by_channel 7 3 3 c) ≡ bit_of (value (by_channel 0x02 0x02 0x03 c) d) (by_channel 7 3 3 c))
    × (bit_of (value (by_channel 0x03 0x02 0x03 c) (e ∷ d)) (by_channel 6 4 4 c) ≡ bit_of (value (by_channel 0x03 0x02 0x03 c) d) (by_channel 6 4 4 c))
bits_kept e d p w r c other = (
  high_shown (e ∷ d) c ∙ (high_kept e d p w r c other ∙ sym (high_shown d c)),
  low_shown (e ∷ d) c ∙ (low_kept e d p w r c other ∙ sym (low_shown d c)),
  therm_shown (e ∷ d) c ∙ (therm_kept e d p w r c other ∙ sym (therm_shown d c)),
)

pub page_temperatures : (h : History) → PageTemperatures h
unfolding answer pin_low
page_temperatures h =
    record {
      reading = λ c t go.
          sym (figure_is c t h)
          ∙ (sym (last_reading_lem (taken h) t c) ∙ rw (← accepted_is (sampled c t) h go) (reads_back (took (sampled c t ∷ h)) c));
      eighths = λ c. eighths c (taken h);
      held = λ w a go q. rw (accepted_is (read w (pos 0) (pos 0)) h go) (held (taken h) w a q);
      latch_on = λ c t go y. rw (accepted_is (sampled c t) h go, channel.latch_after_lem (taken h) c t, figure_is c t h, y);
      latch_off = λ c t go y z. rw (accepted_is (sampled c t) h go, channel.latch_after_lem (taken h) c t, figure_is c t h, y, z);
      latch_kept = λ c t go y z. rw (accepted_is (sampled c t) h go, channel.latch_after_lem (taken h) c t, figure_is c t h, y, z);
      latch_stays = λ c e go s p w. rw (accepted_is e h go) (channel.latch_stays_lem (taken h) c e s p w);
      latch_by_another = λ c other t n go. rw (accepted_is (sampled other t) h go) (channel.latch_another (taken h) c other t n);
      latch_by_write = λ c w a b go q. rw (accepted_is (write w (pos a) (pos b)) h go) (latch_left (taken h) w a b q c);
      therm = channel.therm_on (taken h);
      cool = channel.therm_off (taken h);
      therm_read = λ w go. rw (accepted_is (read w (pos 0) (pos 0)) h go) (channel.therm_read_lem (taken h) w);
      high = λ c t go on.
          rw (accepted_is (sampled c t) h go, high_shown (sampled c t ∷ taken h) c, high_shown (taken h) c, ← figure_is c t h)
          (channel.high_after (taken h) t c on);
      low = λ c t go on.
          rw (accepted_is (sampled c t) h go, low_shown (sampled c t ∷ taken h) c, low_shown (taken h) c, ← figure_is c t h)
          (channel.low_after (taken h) t c on);
      therm_bit = λ c t go on.
          rw (accepted_is (sampled c t) h go, therm_shown (sampled c t ∷ taken h) c, therm_shown (taken h) c) (channel.therm_after (taken h) t c on);
      disabled = λ c q.
          let d = taken h in
          let off = sym (enabled_is d c) ∙ q in
          (high_shown d c ∙ high_off c d off, low_shown d c ∙ low_off c d off, therm_shown d c ∙ therm_off c d off);
      status_stays = λ c e go s r p w. rw (accepted_is e h go) (bits_kept e (taken h) p w r c (rw s));
      status_by_another = λ c other t n go.
          rw (accepted_is (sampled other t) h go)
          (bits_kept (sampled other t) (taken h) (sampled_kind kind.Power other t) (sampled_kind kind.Write other t) (sampled_kind kind.Read other t) c
          (another c other t n));
      returns = λ w f go p. rw (go, p);
      clears = λ w f go p. rw (accepted_is (read w (pos 0) (pos 0)) h go) (clears (taken h) w f p);
      keeps = λ w f go p. rw (accepted_is (read w (pos 0) (pos 0)) h go) (keeps (taken h) w f p);
      errors = λ w a b go. rw (accepted_is (power w (pos a) (pos b)) h go) (error_after_lem (taken h) w a b One, error_after_lem (taken h) w a b Two);
      errors_stay = λ e go p r. rw (accepted_is e h go) (error_stays (taken h) One e p r, error_stays (taken h) Two e p r);
      level = (λ go. rw (accepted_is pulled_low h go), λ go. rw (accepted_is let_go h go));
      level_stays = λ e go n p. rw (accepted_is e h go, n, p);
      pulled_first = λ go q. rw (accepted_is pulled_low h go) (pulled_first_lem (taken h) q);
      pulled_again = λ go q. rw (accepted_is pulled_low h go) (pulled_again_lem (taken h) q);
      released = λ go. rw (accepted_is let_go h go) (let_go_lem (taken h));
      pulled_stays = λ e go n r p w.
          rw (accepted_is e h go) (pulled_shown (e ∷ taken h) ∙ (pulled_kept e (taken h) p w r n ∙ sym (pulled_shown (taken h))));
      reset_keeps = λ w b go y. rw (accepted_is (reset w b) h go) (reset_keeps_lem (taken h) w b);
      reset_as_power = λ w b x y go seven high p q own on.
          let one = sym (error_shown (taken h) One) ∙ p in
          let two = sym (error_shown (taken h) Two) ∙ q in
          rw (accepted_is (reset w b) h go, accepted_is (power (pos own) (pos x) (pos y)) h on)
          (outputs_alike (taken h) w b seven high x y own one two, reset_as_power_lem (taken h) w b seven high x y own one two);
      reset_stops = λ w b c f go y.
          rw (accepted_is (reset w b) h go) (
            restart_latch (reset w b) (taken h) (afresh (taken h) w b y) c,
            restart_flag (reset w b) (taken h) (afresh (taken h) w b y) c,
            restart_run (reset w b) (taken h) (afresh (taken h) w b y) f,
          );
      reset_low = λ w b f go y low. rw (accepted_is (reset w b) h go) (low_byte (taken h) w b y low f, low_spin (taken h) w b y low f);
    }
