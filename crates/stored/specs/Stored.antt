-- The bytes that the chip stores, after an event.
use Rattle.std.specs.Prelude.{ℕ, Bool, cond, not, ◌&&◌, ◌||◌, List, [], ◌∷◌, eqb, ltb, Option, Some, None}
use Rattle.integer.specs.Bits.{merged_of}
use Rattle.part.specs.declared.ChannelId.{ChannelId}
use Rattle.part.specs.declared.ChannelId.TheVariants.{Local, Remote1, Remote2}
use Rattle.part.specs.declared.FanId.{FanId}
use Rattle.part.specs.declared.FanId.TheVariants.{One, Two}
use Rattle.part.specs.Each.{map_channels, map_fans}
use Rattle.event.specs.declared.Kind.TheVariants as kind
use Rattle.rules.specs.Registers.{config1, config2, test, speed_at, offset_at, tach_limit_at, high_limit_at, low_limit_at, therm_limit_at}
use Rattle.rules.specs.Registers.{characteristics_at, speeds}
use Rattle.rules.specs.Registers.{filter, control_at, device, company, behaviour, mask_at, reset_at}
use Rattle.input.specs.declared.Input.{Input}
use Rattle.input.specs.Inputs.{is_a, byte_in, is_count, is_write, is_restart}
use Rattle.stored.specs.declared.ChannelRegisters.{ChannelRegisters}
use Rattle.stored.specs.declared.FanRegisters.{FanRegisters}
use Rattle.stored.specs.declared.Registers.{Registers}

-- a count for the speed register at an address
abbrev pub is_count_at : (address : ℕ) → Input → Bool
is_count_at a i = (eqb a (speed_at One) && is_count One i) || (eqb a (speed_at Two) && is_count Two i)

-- the byte stored at an address: its byte after power; what is written, read-only bits keeping theirs; a fan's count
unfoldable pub stored_after : (address : ℕ) → Input → ℕ → ℕ
stored_after a i was =
    cond (is_restart i) (reset_at a)
    (cond (is_write a i) (merged_of (mask_at a) was (byte_in i))
    (cond (is_count_at a i) (byte_in i) was))

-- an event that stores nothing
abbrev pub stores_nothing : Input → Bool
stores_nothing i = not (is_restart i || (is_a kind.Write i || is_a kind.Tach i))

-- every byte, from its address and the byte before
unfoldable pub channel_bytes : (next : ℕ → ℕ → ℕ) → ChannelId → ChannelRegisters → ChannelRegisters
channel_bytes next c l =
    record {
      offset = next (offset_at c) l.offset;
      high = next (high_limit_at c) l.high;
      low = next (low_limit_at c) l.low;
      therm = next (therm_limit_at c) l.therm;
      control = next (control_at c) l.control;
    }

unfoldable pub fan_bytes : (next : ℕ → ℕ → ℕ) → FanId → FanRegisters → FanRegisters
fan_bytes next f b =
    record {
      speed = next (speed_at f) b.speed;
      limit = next (tach_limit_at f) b.limit;
      characteristics = next (characteristics_at f) b.characteristics;
    }

unfoldable pub bytes : (next : ℕ → ℕ → ℕ) → Registers → Registers
bytes next s =
    record {
      config1 = next config1 s.config1;
      config2 = next config2 s.config2;
      test = next test s.test;
      speeds = next speeds s.speeds;
      filter = next filter s.filter;
      behaviour = next behaviour s.behaviour;
      channels = map_channels (channel_bytes next) s.channels;
      fans = map_fans (fan_bytes next) s.fans;
    }

unfoldable pub registers_after : Input → Registers → Registers
registers_after i s = bytes (λ a was. stored_after a i was) s

-- ---- the stored byte at an address, 0 where none is stored

pub record Cell : Type 0 where
  pub address : ℕ
  pub byte : ℕ

abbrev pub cell : (address byte : ℕ) → Cell
cell address byte = record { address = address; byte = byte }

-- in the order of the table; 0x3D and 0x3E never change
unfoldable pub cells : Registers → List Cell
cells s =
    cell config1 s.config1
    ∷ cell config2 s.config2
    ∷ cell test s.test
    ∷ cell (speed_at One) s.fans.one.speed
    ∷ cell (speed_at Two) s.fans.two.speed
    ∷ cell (offset_at Local) s.channels.local.offset
    ∷ cell (offset_at Remote1) s.channels.remote1.offset
    ∷ cell (offset_at Remote2) s.channels.remote2.offset
    ∷ cell (tach_limit_at One) s.fans.one.limit
    ∷ cell (tach_limit_at Two) s.fans.two.limit
    ∷ cell (high_limit_at Local) s.channels.local.high
    ∷ cell (low_limit_at Local) s.channels.local.low
    ∷ cell (therm_limit_at Local) s.channels.local.therm
    ∷ cell (high_limit_at Remote1) s.channels.remote1.high
    ∷ cell (low_limit_at Remote1) s.channels.remote1.low
    ∷ cell (therm_limit_at Remote1) s.channels.remote1.therm
    ∷ cell (high_limit_at Remote2) s.channels.remote2.high
    ∷ cell (low_limit_at Remote2) s.channels.remote2.low
    ∷ cell (therm_limit_at Remote2) s.channels.remote2.therm
    ∷ cell (characteristics_at One) s.fans.one.characteristics
    ∷ cell (characteristics_at Two) s.fans.two.characteristics
    ∷ cell speeds s.speeds
    ∷ cell filter s.filter
    ∷ cell (control_at Local) s.channels.local.control
    ∷ cell (control_at Remote1) s.channels.remote1.control
    ∷ cell (control_at Remote2) s.channels.remote2.control
    ∷ cell device 0x31
    ∷ cell company 0x41
    ∷ cell behaviour s.behaviour
    ∷ []

unfoldable pub found : List Cell → (address : ℕ) → ℕ
found [] a = 0
found (c ∷ cs) a = cond (eqb a c.address) c.byte (found cs a)

unfoldable pub stored_in : Registers → (address : ℕ) → ℕ
stored_in s a = found (cells s) a

-- ---- the same said of the one byte that an event stores

-- its address, where it stores one; the byte that stands there then
unfoldable pub place_in : Input → Option ℕ
place_in i =
    cond (is_a kind.Write i) (cond (ltb i.arg 256) (Some i.arg) None)
    (cond (is_count One i) (Some (speed_at One)) (cond (is_count Two i) (Some (speed_at Two)) None))

unfoldable pub byte_for : Input → (at : ℕ) → Registers → ℕ
byte_for i at s = cond (is_a kind.Write i) (merged_of (mask_at at) (stored_in s at) (byte_in i)) (byte_in i)

abbrev pub put_at : (at byte : ℕ) → (address was : ℕ) → ℕ
put_at at byte a was = cond (eqb at a) byte was

abbrev pub reset_to : (address was : ℕ) → ℕ
reset_to a was = reset_at a
