-- Document 01, "Temperatures, latches and cards", rules 1 to 3, 5 and 7, and "Duty in slots", rule 1, with T-01 and T-05 of 02: a channel after an event.
use Rattle.std.specs.Prelude.{ℕ, Bool, false, cond, not, ◌&&◌, ◌||◌, eqb}
use Rattle.part.specs.declared.ChannelId.{ChannelId}
use Rattle.part.specs.declared.ChannelId.TheVariants.{Local, Remote1, Remote2}
use Rattle.part.specs.declared.FanId.{FanId}
use Rattle.part.specs.declared.FanId.TheVariants.{One, Two}
use Rattle.event.specs.declared.Kind.TheVariants as kind
use Rattle.rules.specs.Registers.{status_at}
use Rattle.rules.specs.Fields.{channel_enabled}
use Rattle.rules.specs.Temperatures.{limit_bits_in, therm_bit_in}
use Rattle.rules.specs.Targets.{tmin_of}
use Rattle.reading.specs.Limits.{latched_of, running_of, is_high, is_low}
use Rattle.reading.specs.Offset.{measured_of}
use Rattle.input.specs.declared.Input.{Input}
use Rattle.input.specs.Inputs.{is_a, is_sample, is_report, is_read, is_restart, bit_after}
use Rattle.part.specs.Each.{of_channel, map_channels}
use Rattle.stored.specs.declared.Context.{Context}
use Rattle.channel.specs.declared.Channel.{Channel}
use Rattle.part.specs.declared.PerChannel.{PerChannel}

-- m is what moves a channel: the event, the registers as they stand after it, the pointer as it stood before it

-- T-01: the reading that a sample makes, by the channel's offset register as it stands
unfoldable pub sampled_in : ChannelId → Context → ℕ
sampled_in c m = measured_of c (of_channel c m.registers.channels).offset m.input.sample

-- 1: the last reading; 0, held as 1024, after power or reset
unfoldable pub reading_after : ChannelId → Context → ℕ → ℕ
reading_after c m was = cond (is_restart m.input) 1024 (cond (is_sample c m.input) (sampled_in c m) was)

-- a flag that a sample of the channel moves: off after power or reset, the next one at such a sample, else as it was
unfoldable pub flag_at_sample : ChannelId → Context → (next was : Bool) → Bool
flag_at_sample c m next was = cond (is_restart m.input) false (cond (is_sample c m.input) next was)

-- 2: the latch, by the channel's THERM limit
unfoldable pub latch_after : ChannelId → Context → Bool → Bool
latch_after c m was = flag_at_sample c m (latched_of was (of_channel c m.registers.channels).therm (sampled_in c m)) was

-- duty 1: the run flag, by the channel's Tmin
unfoldable pub flag_after : ChannelId → Context → Bool → Bool
flag_after c m was = flag_at_sample c m (running_of was (tmin_of (of_channel c m.registers.channels).control) (sampled_in c m)) was

abbrev pub channel_on_in : ChannelId → Context → Bool
channel_on_in c m = channel_enabled c m.registers.config2

-- 5, 7: what clears a bit: a restart, a read of its register, the channel's enable bit being 0
unfoldable pub clears_bit : ChannelId → FanId → Context → Bool
clears_bit c f m = is_restart m.input || (is_read (status_at f) m.pointer m.input || not (channel_on_in c m))

-- a status bit in the register of a fan: set at a sample of the enabled channel where its condition is met, until it is cleared
unfoldable pub status_bit_after : ChannelId → FanId → Context → (met was : Bool) → Bool
status_bit_after c f m met was = bit_after (is_sample c m.input && (channel_on_in c m && met)) (clears_bit c f m) was

-- 3: the high and low bits; the THERM bit at a latch going from off to on
unfoldable pub high_bit_after : ChannelId → Context → Bool → Bool
high_bit_after c m was = status_bit_after c (limit_bits_in c) m (is_high (of_channel c m.registers.channels).high (sampled_in c m)) was

unfoldable pub low_bit_after : ChannelId → Context → Bool → Bool
low_bit_after c m was = status_bit_after c (limit_bits_in c) m (is_low (of_channel c m.registers.channels).low (sampled_in c m)) was

unfoldable pub therm_bit_after : ChannelId → Context → (before after : Bool) → Bool → Bool
therm_bit_after c m before after was = status_bit_after c (therm_bit_in c) m (not before && after) was

-- 5: a diode error comes from power, and from a report on the diode (T-05)
abbrev pub error_in : ChannelId → Input → Bool
error_in Local i = false
error_in Remote1 i = eqb i.arg 1
error_in Remote2 i = eqb i.val 1

unfoldable pub error_after : ChannelId → Input → Bool → Bool
error_after c i was = cond (is_a kind.Power i) (error_in c i) (cond (is_report c i) (eqb i.val 1) was)

unfoldable pub channel_after : ChannelId → Context → Channel → Channel
channel_after c m was =
    record {
      reading = reading_after c m was.reading;
      latch = latch_after c m was.latch;
      flag = flag_after c m was.flag;
      high = high_bit_after c m was.high;
      low = low_bit_after c m was.low;
      therm = therm_bit_after c m was.latch (latch_after c m was.latch) was.therm;
      error = error_after c m.input was.error;
    }

-- an event that is none of the channel's, and what it leaves: the same, which is proved
abbrev pub passes_by : ChannelId → Input → Bool
passes_by c i = not (is_restart i || (is_sample c i || (is_report c i || is_a kind.Read i)))

abbrev pub channel_kept : (on : Bool) → Channel → Channel
channel_kept on was =
    record {
      reading = was.reading;
      latch = was.latch;
      flag = was.flag;
      high = was.high && on;
      low = was.low && on;
      therm = was.therm && on;
      error = was.error;
    }

-- a read of either status register
abbrev pub reads_status : Context → Bool
reads_status m = is_read (status_at One) m.pointer m.input || is_read (status_at Two) m.pointer m.input

-- an event that is none of any channel's, while all of them are enabled: it leaves them, which is proved
abbrev pub untouched_in : Context → Bool
untouched_in m =
    not (is_restart m.input || (is_a kind.Sample m.input || (is_a kind.Diode m.input || reads_status m)))
    && (channel_on_in Local m && (channel_on_in Remote1 m && channel_on_in Remote2 m))

-- the three channels
unfoldable pub channels_after : Context → PerChannel Channel → PerChannel Channel
channels_after m cs = map_channels (λ c was. channel_after c m was) cs

-- 2: THERM is asserted while a latch is on
abbrev pub therm_of : PerChannel Channel → Bool
therm_of cs = cs.local.latch || (cs.remote1.latch || cs.remote2.latch)
