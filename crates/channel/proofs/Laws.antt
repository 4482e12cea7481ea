-- An event that is none of the channel's; a channel from its parts. Assumes nothing.
use Prim.Native.Nat.{ℕ}
use mathlib.Core.Bool.{Bool, true, false, cond, not, ◌&&◌, ◌||◌}
use mathlib.Core.Path.{◌≡◌, refl, sym, ◌∙◌}
use borrow.Author.Tests.{not-true}
use Rattle.integer.proofs.BoolLaws.{both, neither}
use Rattle.part.specs.declared.ChannelId.{ChannelId}
use Rattle.part.specs.declared.ChannelId.TheVariants.{Local, Remote1, Remote2}
use Rattle.part.specs.declared.FanId.{FanId}
use Rattle.part.specs.declared.FanId.TheVariants.{One, Two}
use Rattle.event.specs.declared.Kind.TheVariants as kind
use Rattle.rules.specs.Registers.{status_at}
use Rattle.rules.specs.Temperatures.{limit_bits_in, therm_bit_in}
use Rattle.rules.specs.Targets.{tmin_of}
use Rattle.reading.specs.Limits.{latched_of, running_of, is_high, is_low}
use Rattle.part.specs.Each.{of_channel, map_channels}
use Rattle.part.proofs.Laws.{channels_mapped}
use Rattle.stored.specs.declared.ChannelRegisters.{ChannelRegisters}
use Rattle.input.specs.Inputs.{is_a, is_sample, is_report, is_read, is_restart}
use Rattle.stored.specs.declared.Context.{Context}
use Rattle.channel.specs.Channels.{sampled_in, reading_after, flag_at_sample, latch_after, flag_after, channel_on_in, clears_bit, status_bit_after}
use Rattle.channel.specs.Channels.{high_bit_after, low_bit_after, therm_bit_after, error_after, passes_by, channel_kept, channel_after}
use Rattle.channel.specs.Channels.{reads_status, untouched_in, channels_after}
use Rattle.channel.specs.declared.Channel.{Channel}
use Rattle.part.specs.declared.PerChannel.{PerChannel}

-- ---- an event that is none of the channel's

unmarked : (on was : Bool) → was && on ≡ cond (not on) false was
unmarked true true = refl
unmarked true false = refl
unmarked false true = refl
unmarked false false = refl

module _ (c : ChannelId) (m : Context) (was : Channel) where
  pub kept_is : {b on : Bool} {k : Channel} → b ≡ passes_by c m.input → b ≡ true → on ≡ channel_on_in c m → k ≡ channel_kept on was → k ≡ channel_after c m was
  unfolding channel_after reading_after flag_at_sample latch_after flag_after clears_bit status_bit_after high_bit_after low_bit_after therm_bit_after
      error_after
  kept_is {on = on} e t eo q =
      let i = m.input in
      let a = neither (is_restart i) _ (not-true (is_restart i || (is_sample c i || (is_report c i || is_a kind.Read i))) (sym e ∙ t)) in
      let b = neither (is_sample c i) (is_report c i || is_a kind.Read i) a.1 in
      let r = neither (is_report c i) (is_a kind.Read i) b.1 in
      let p = neither (is_a kind.Power i) _ a.0 in
      q ∙ rw (a.0, b.0, r.0, r.1, p.0, sym eo, unmarked on was.high, unmarked on was.low, unmarked on was.therm)

  -- ---- from the parts

  pub moved_is : {l : ChannelRegisters} {f g : FanId} {t r tm : ℕ} {la fl hi lo th er ms mr mh ml : Bool}
      → l ≡ of_channel c m.registers.channels → t ≡ sampled_in c m → f ≡ limit_bits_in c → g ≡ therm_bit_in c → tm ≡ tmin_of l.control
      → ms ≡ latched_of was.latch l.therm t → la ≡ flag_at_sample c m ms was.latch
      → mr ≡ running_of was.flag tm t → fl ≡ flag_at_sample c m mr was.flag
      → mh ≡ is_high l.high t → hi ≡ status_bit_after c f m mh was.high
      → ml ≡ is_low l.low t → lo ≡ status_bit_after c f m ml was.low
      → th ≡ status_bit_after c g m (not was.latch && la) was.therm
      → r ≡ reading_after c m was.reading → er ≡ error_after c m.input was.error
      → ◌≡◌ {A = Channel} (record { reading = r; latch = la; flag = fl; high = hi; low = lo; therm = th; error = er }) (channel_after c m was)
  unfolding channel_after latch_after flag_after high_bit_after low_bit_after therm_bit_after
  moved_is el et ef eg em es ea er ep eh ei eo ew ex ey ez = rw (ey, ep, ei, ew, ex, ez, ea, es, er, eh, eo, em, ef, eg, el, et)

pub all_three : (m : Context) (cs : PerChannel Channel) {r : PerChannel Channel} → r ≡ map_channels (λ c was. channel_after c m was) cs
    → r ≡ channels_after m cs
unfolding channels_after
all_three m cs e = e

-- ---- an event that is none of any channel's

module _
    (m : Context) (restarts : is_restart m.input ≡ false) (samples : is_a kind.Sample m.input ≡ false) (reports : is_a kind.Diode m.input ≡ false)
    (reads : reads_status m ≡ false) where
  unread : (f : FanId) → is_read (status_at f) m.pointer m.input ≡ false
  unread One = (neither (is_read (status_at One) m.pointer m.input) _ reads).0
  unread Two = (neither (is_read (status_at One) m.pointer m.input) _ reads).1

  kept : (c : ChannelId) (was : Channel) → channel_on_in c m ≡ true → was ≡ channel_after c m was
  unfolding channel_after reading_after flag_at_sample latch_after flag_after clears_bit status_bit_after high_bit_after low_bit_after therm_bit_after
      error_after
  kept c was on =
      let p = neither (is_a kind.Power m.input) _ restarts in
      rw (restarts, samples, reports, p.0, on, unread (limit_bits_in c), unread (therm_bit_in c))

pub left_alone : (m : Context) (cs : PerChannel Channel) {b : Bool} → b ≡ untouched_in m → b ≡ true → cs ≡ channels_after m cs
left_alone m cs e t =
    let i = m.input in
    let h = both (not (is_restart i || (is_a kind.Sample i || (is_a kind.Diode i || reads_status m)))) _ (sym e ∙ t) in
    let n = neither (is_restart i) _ (not-true _ h.0) in
    let k = neither (is_a kind.Sample i) (is_a kind.Diode i || reads_status m) n.1 in
    let r = neither (is_a kind.Diode i) (reads_status m) k.1 in
    let on = both (channel_on_in Local m) _ h.1 in
    let on2 = both (channel_on_in Remote1 m) (channel_on_in Remote2 m) on.1 in
    let stays = kept m n.0 k.0 r.0 r.1 in
    all_three m cs (channels_mapped (λ c was. channel_after c m was) cs (stays Local cs.local on.0) (stays Remote1 cs.remote1 on2.0)
    (stays Remote2 cs.remote2 on2.1))
