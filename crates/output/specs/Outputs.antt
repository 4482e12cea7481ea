-- What the chip shows: each register, INT, THERM, FAN_FAULT and the duties.
use Rattle.std.specs.Prelude.{ℕ, Bool, cond, not, ◌&&◌, ◌||◌, ltb, eqb}
use Rattle.std.specs.Int.Bits.{bit_and}
use Rattle.integer.specs.Bits.{flag_of, packed}
use Rattle.part.specs.declared.ChannelId.TheVariants.{Local, Remote1, Remote2}
use Rattle.part.specs.declared.FanId.{FanId}
use Rattle.part.specs.declared.FanId.TheVariants.{One, Two}
use Rattle.event.specs.declared.Shown.{Shown}
use Rattle.rules.specs.Registers.{status_at, extended, value_at, exists_at}
use Rattle.rules.specs.Fields.{int_enabled, fault_enabled, channel_enabled}
use Rattle.reading.specs.Reading.{byte_of, remainder_of, extended_of}
use Rattle.stored.specs.Stored.{stored_in}
use Rattle.channel.specs.Channels.{therm_of}
use Rattle.part.specs.declared.PerChannel.{PerChannel}
use Rattle.channel.specs.declared.Channel.{Channel}
use Rattle.chip.specs.declared.Chip.{Chip}

-- temperatures 4: the status registers
unfoldable pub status_of : FanId → Chip → ℕ
status_of One k =
    packed k.fans.one.alarm k.fans.one.fault
    k.channels.remote1.high k.channels.remote1.low k.channels.remote1.therm k.channels.remote1.error
    k.channels.local.high k.channels.local.low
status_of Two k =
    packed k.fans.two.alarm k.fans.two.fault
    k.channels.remote2.high k.channels.remote2.low k.channels.remote2.therm k.channels.remote2.error
    k.channels.local.therm k.port.pulled

-- temperatures 1: register 0x06
abbrev pub extended_in : PerChannel Channel → ℕ
extended_in cs = extended_of (remainder_of cs.local.reading) (remainder_of cs.remote1.reading) (remainder_of cs.remote2.reading)

-- what a read of the register at an address returns: status, remainders and readings, else the stored byte; 0 where there is none
unfoldable pub register_at : Chip → (address : ℕ) → ℕ
register_at k a =
    cond (exists_at a)
    (cond (eqb a (status_at One)) (status_of One k)
    (cond (eqb a (status_at Two)) (status_of Two k)
    (cond (eqb a extended) (extended_in k.channels)
    (cond (eqb a (value_at Local)) (byte_of k.channels.local.reading)
    (cond (eqb a (value_at Remote1)) (byte_of k.channels.remote1.reading)
    (cond (eqb a (value_at Remote2)) (byte_of k.channels.remote2.reading)
    (stored_in k.registers a)))))))
    0

-- temperatures 8: a status byte has a bit set, bit 5 counting only for an enabled channel
abbrev pub pending_in : (on : Bool) (status : ℕ) → Bool
pending_in on status = ltb 0 (bit_and status (cond on 0xFF 0xDF))

unfoldable pub int_due_of : Chip → Bool
int_due_of k =
    int_enabled k.registers.config1
    && (pending_in (channel_enabled Remote1 k.registers.config2) (status_of One k)
    || pending_in (channel_enabled Remote2 k.registers.config2) (status_of Two k))

-- tach counts: FAN_FAULT
unfoldable pub fault_of : Chip → Bool
fault_of k = fault_enabled k.registers.config1 && (eqb k.fans.one.run 5 || eqb k.fans.two.run 5)

-- INT, THERM and FAN_FAULT as 1 while asserted, else 0; INT is not, while it is let go (T-02)
unfoldable pub shown_of : Chip → (silenced : Bool) → Shown
shown_of k silenced =
    record {
      int = flag_of (int_due_of k && not silenced);
      therm = flag_of (therm_of k.channels);
      fault = flag_of (fault_of k);
      duty1 = k.fans.one.drive.duty;
      duty2 = k.fans.two.drive.duty;
    }
