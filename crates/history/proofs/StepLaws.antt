-- One accepted event: port, registers and channels of the engine move as the rules say. Assumes nothing.
use Prim.Native.Nat.{ℕ, ◌<◌}
use mathlib.Core.Path.{◌≡◌, refl, sym, ap, ◌∙◌}
use mathlib.Core.Bool.{Bool, true, false, cond, ◌&&◌, ◌||◌}
use mathlib.Core.List.{◌∷◌}
use native.Mathlib.Omega.{arith}
use lib.IntN.{pos}
use Rattle.integer.proofs.BoolLaws.{by_cases, both}
use Rattle.integer.specs.Range.{eighths_of}
use Rattle.std.specs.Prelude.{Some}
use Rattle.part.specs.declared.ChannelId.{ChannelId}
use Rattle.part.specs.declared.ChannelId.TheVariants.{Local, Remote1, Remote2}
use Rattle.part.specs.declared.FanId.{FanId}
use Rattle.part.specs.declared.FanId.TheVariants.{One, Two}
use Rattle.event.specs.Kinds.{is_kind}
use Rattle.event.specs.declared.Event.{Event}
use Rattle.event.specs.declared.Kind.TheVariants as kind
use Rattle.rules.specs.Registers.{offset_at, high_limit_at, low_limit_at, therm_limit_at, control_at, speed_at, tach_limit_at, characteristics_at}
use Rattle.rules.specs.Events.{arg, val, samples, writes, restarts}
use Rattle.rules.specs.Stored.{Taken, own_address, counts, stored_at, pointer, pin_low, error_given, diode_error, pulled_bit}
use Rattle.rules.specs.Replies as replies
use Rattle.rules.specs.Offsets.{measured}
use Rattle.rules.specs.Temperatures.{temperature, latch, channel_on, limit_bits_in, therm_bit_in, clears, high_bit, low_bit, therm_bit}
use Rattle.rules.specs.Targets.{tmin_of, flag}
use Rattle.rules.proofs.StoredLaws.{count_tach}
use Rattle.reading.specs.Faithful.{Faithful}
use Rattle.reading.proofs.FaithfulLaws.{faithful}
use Rattle.reading.proofs.OffsetLaws.{faithful_offset}
use Rattle.input.specs.Inputs.{eighths_held, input_of, bit_after}
use Rattle.input.proofs.PlainLaws.{plain_is, sample_is, report_is}
use Rattle.stored.specs.Stored.{stored_after, channel_bytes, fan_bytes, bytes, registers_after}
use Rattle.part.specs.Each.{of_channel}
use Rattle.part.proofs.Laws.{of_each_channel}
use Rattle.channel.specs.Channels.{sampled_in, reading_after, flag_at_sample, latch_after, flag_after, clears_bit, status_bit_after, high_bit_after}
use Rattle.channel.specs.Channels.{low_bit_after}
use Rattle.channel.specs.Channels.{therm_bit_after, error_in, error_after, channel_after, channels_after}
use Rattle.chip.specs.Chips.{port_after}
use Rattle.history.proofs.State.{port_by, channel_registers_by, fan_registers_by, registers_by, context_by, channel_by, channels_by}
use Rattle.history.proofs.AcceptedLaws.{own_is, register_is, written_is, counted_is, write_is, restart_is, count_at_is, sample_held}

-- ---- choices

pub where_on : {A : Type 0} (t : Bool) (w : A) {x y : A} → (t ≡ true → x ≡ y) → cond t x w ≡ cond t y w
where_on true w q = q refl
where_on false w q = refl

bit_on : (t on clears was : Bool) {x y : Bool} → (t ≡ true → x ≡ y) → bit_after (t && (on && x)) clears was ≡ bit_after (t && (on && y)) clears was
bit_on true on clears was q = rw (q refl)
bit_on false on clears was q = refl

over_cond : {A B : Type 0} (f : A → B) (t : Bool) (x y : A) → cond t (f x) (f y) ≡ f (cond t x y)
over_cond f true x y = refl
over_cond f false x y = refl

-- ---- bytes

module _ (e : Event) (d : Taken) (fine : replies.out_of_range e ≡ false) where
  pub stored_is : (a : ℕ) → stored_after a (input_of e) (stored_at a d) ≡ stored_at a (e ∷ d)
  unfolding stored_after stored_at
  stored_is a =
      rw (restart_is e fine, write_is e fine a, count_at_is e fine a)
      (by_cases (restarts e)
      (λ r. rw r)
      (λ r. by_cases (writes a e)
      (λ w. rw (r, w, written_is e fine (both (is_kind kind.Write e) _ w).0))
      (λ w. by_cases (counts a e)
      (λ c. rw (r, w, c, counted_is e fine (count_tach a e c)))
      (λ c. rw (r, w, c)))))

  channel_registers_is : (c : ChannelId) → channel_bytes (λ a was. stored_after a (input_of e) was) c (channel_registers_by c d)
      ≡ channel_registers_by c (e ∷ d)
  unfolding channel_bytes channel_registers_by
  channel_registers_is c =
      rw (stored_is (offset_at c), stored_is (high_limit_at c), stored_is (low_limit_at c), stored_is (therm_limit_at c), stored_is (control_at c))

  fan_registers_is : (f : FanId) → fan_bytes (λ a was. stored_after a (input_of e) was) f (fan_registers_by f d) ≡ fan_registers_by f (e ∷ d)
  unfolding fan_bytes fan_registers_by
  fan_registers_is f = rw (stored_is (speed_at f), stored_is (tach_limit_at f), stored_is (characteristics_at f))

  pub registers_is : registers_after (input_of e) (registers_by d) ≡ registers_by (e ∷ d)
  unfolding registers_after bytes registers_by
  registers_is =
      rw (
        stored_is 0x00,
        stored_is 0x01,
        stored_is 0x07,
        stored_is 0x22,
        stored_is 0x23,
        stored_is 0x3F,
        channel_registers_is Local,
        channel_registers_is Remote1,
        channel_registers_is Remote2,
        fan_registers_is One,
        fan_registers_is Two,
      )

  pub port_is : port_after (input_of e) (port_by d) ≡ port_by (e ∷ d)
  unfolding port_after port_by own_address pointer pin_low pulled_bit
  port_is =
      rw (
        restart_is e fine,
        plain_is (val e) 0 (omega arith),
        where_on (is_kind kind.Power e) (own_address d) (own_is e fine),
        where_on (is_kind kind.Write e || is_kind kind.Point e) (pointer d) (register_is e fine),
      )

-- ---- a channel

module _ (e : Event) (d : Taken) (fine : replies.out_of_range e ≡ false) (small : (a : ℕ) → stored_at a (e ∷ d) < 256) (c : ChannelId) where
  own_registers : of_channel c (registers_by (e ∷ d)).channels ≡ channel_registers_by c (e ∷ d)
  unfolding registers_by
  own_registers = of_each_channel (λ c. channel_registers_by c (e ∷ d)) c

  -- an accepted sample is held as what it is, and so is the reading that it makes
  sampled_held : samples c e ≡ true → eighths_of (measured c e d) ≡ Some (sampled_in c (context_by e d))
  unfolding sampled_in channel_registers_by
  sampled_held y =
      rw own_registers
      (faithful_offset c (stored_at (offset_at c) (e ∷ d)) (val e) (eighths_held (val e)) (sample_held e fine (both (is_kind kind.Sample e) _ y).0))

  stands : samples c e ≡ true → Faithful (measured c e d) (sampled_in c (context_by e d))
  stands y = faithful (measured c e d) (sampled_in c (context_by e d)) (sampled_held y)

  reading_is : reading_after c (context_by e d) (eighths_held (temperature c d)) ≡ eighths_held (temperature c (e ∷ d))
  unfolding reading_after temperature eighths_of
  reading_is =
      rw (restart_is e fine, sample_is c e)
      (ap (cond (restarts e) 1024)
      (where_on (samples c e) (eighths_held (temperature c d)) (λ y. sym (rw (sampled_held y)))
      ∙ over_cond eighths_held (samples c e) (measured c e d) (temperature c d))
      ∙ over_cond eighths_held (restarts e) (pos 0) (cond (samples c e) (measured c e d) (temperature c d)))

  latch_is : latch_after c (context_by e d) (latch c d) ≡ latch c (e ∷ d)
  unfolding flag_at_sample latch_after latch channel_registers_by
  latch_is =
      rw (restart_is e fine, sample_is c e, own_registers)
      (ap (cond (restarts e) false)
      (where_on (samples c e) (latch c d) (λ y. (stands y).latch (latch c d) (stored_at (therm_limit_at c) (e ∷ d)) (small (therm_limit_at c)))))

  flag_is : flag_after c (context_by e d) (flag c d) ≡ flag c (e ∷ d)
  unfolding flag_at_sample flag_after flag channel_registers_by
  flag_is =
      rw (restart_is e fine, sample_is c e, own_registers)
      (ap (cond (restarts e) false)
      (where_on (samples c e) (flag c d) (λ y. (stands y).flag (flag c d) (tmin_of (stored_at (control_at c) (e ∷ d))))))

  clears_is : (f : FanId) → clears_bit c f (context_by e d) ≡ clears c f e d
  unfolding clears_bit registers_by
  clears_is f = rw (restart_is e fine)

  high_is : high_bit_after c (context_by e d) (high_bit c d) ≡ high_bit c (e ∷ d)
  unfolding status_bit_after high_bit_after high_bit channel_registers_by registers_by
  high_is =
      rw (clears_is (limit_bits_in c), sample_is c e, own_registers)
      (bit_on (samples c e) (channel_on c (e ∷ d)) (clears c (limit_bits_in c) e d) (high_bit c d)
      (λ y. (stands y).high (stored_at (high_limit_at c) (e ∷ d)) (small (high_limit_at c))))

  low_is : low_bit_after c (context_by e d) (low_bit c d) ≡ low_bit c (e ∷ d)
  unfolding status_bit_after low_bit_after low_bit channel_registers_by registers_by
  low_is =
      rw (clears_is (limit_bits_in c), sample_is c e, own_registers)
      (bit_on (samples c e) (channel_on c (e ∷ d)) (clears c (limit_bits_in c) e d) (low_bit c d)
      (λ y. (stands y).low (stored_at (low_limit_at c) (e ∷ d)) (small (low_limit_at c))))

  therm_is : therm_bit_after c (context_by e d) (latch c d) (latch_after c (context_by e d) (latch c d)) (therm_bit c d) ≡ therm_bit c (e ∷ d)
  unfolding status_bit_after therm_bit_after therm_bit registers_by
  therm_is = rw (latch_is, clears_is (therm_bit_in c), sample_is c e)

  error_is : error_after c (input_of e) (diode_error c d) ≡ diode_error c (e ∷ d)
  unfolding error_after diode_error
  error_is = rw (report_is c e, plain_is (val e) 1 (omega arith), given c)
    where
      given : (c : ChannelId) → error_in c (input_of e) ≡ error_given c e
      given Local = refl
      given Remote1 = plain_is (arg e) 1 (omega arith)
      given Remote2 = plain_is (val e) 1 (omega arith)

  pub channel_is : channel_after c (context_by e d) (channel_by c d) ≡ channel_by c (e ∷ d)
  unfolding channel_after channel_by
  channel_is = rw (therm_is, reading_is, latch_is, flag_is, high_is, low_is, error_is)

pub channels_is : (e : Event) (d : Taken) → replies.out_of_range e ≡ false → ((a : ℕ) → stored_at a (e ∷ d) < 256)
    → channels_after (context_by e d) (channels_by d) ≡ channels_by (e ∷ d)
unfolding channels_after channels_by
channels_is e d fine small = rw (channel_is e d fine small Local, channel_is e d fine small Remote1, channel_is e d fine small Remote2)
