-- The registers of 000, Tables 16 to 33: names, addresses, the bits that a write can change, bytes after power.
-- docs/DECISIONS.md says what the tables leave open.
use Rattle.std.specs.Prelude.{ℕ, Bool, true, false, cond, ◌&&◌, List, [], ◌∷◌, eqb}
use Rattle.part.specs.declared.ChannelId.{ChannelId}
use Rattle.part.specs.declared.ChannelId.TheVariants.{Local, Remote1, Remote2}
use Rattle.part.specs.declared.FanId.{FanId}
use Rattle.part.specs.declared.FanId.TheVariants.{One, Two}

-- ---- addresses

abbrev pub config1 : ℕ
config1 = 0x00

abbrev pub config2 : ℕ
config2 = 0x01

abbrev pub status_at : FanId → ℕ
status_at One = 0x02
status_at Two = 0x03

abbrev pub extended : ℕ
extended = 0x06

abbrev pub test : ℕ
test = 0x07

abbrev pub speed_at : FanId → ℕ
speed_at One = 0x08
speed_at Two = 0x09

abbrev pub value_at : ChannelId → ℕ
value_at Local = 0x0A
value_at Remote1 = 0x0B
value_at Remote2 = 0x0C

abbrev pub offset_at : ChannelId → ℕ
offset_at Local = 0x0D
offset_at Remote1 = 0x0E
offset_at Remote2 = 0x0F

abbrev pub tach_limit_at : FanId → ℕ
tach_limit_at One = 0x10
tach_limit_at Two = 0x11

abbrev pub high_limit_at : ChannelId → ℕ
high_limit_at Local = 0x14
high_limit_at Remote1 = 0x18
high_limit_at Remote2 = 0x1C

abbrev pub low_limit_at : ChannelId → ℕ
low_limit_at Local = 0x15
low_limit_at Remote1 = 0x19
low_limit_at Remote2 = 0x1D

abbrev pub therm_limit_at : ChannelId → ℕ
therm_limit_at Local = 0x16
therm_limit_at Remote1 = 0x1A
therm_limit_at Remote2 = 0x1E

abbrev pub characteristics_at : FanId → ℕ
characteristics_at One = 0x20
characteristics_at Two = 0x21

abbrev pub speeds : ℕ
speeds = 0x22

abbrev pub filter : ℕ
filter = 0x23

abbrev pub control_at : ChannelId → ℕ
control_at Local = 0x24
control_at Remote1 = 0x25
control_at Remote2 = 0x26

abbrev pub device : ℕ
device = 0x3D

abbrev pub company : ℕ
company = 0x3E

abbrev pub behaviour : ℕ
behaviour = 0x3F

-- ---- the table

-- a register: its address, the bits that a write can change, and its byte after power
pub record Row : Type 0 where
  pub address : ℕ
  pub mask : ℕ
  pub reset : ℕ

abbrev pub row : (address mask reset : ℕ) → Row
row address mask reset = record { address = address; mask = mask; reset = reset }

unfoldable pub table : List Row
table =
    row config1 0xFF 0x90
    ∷ row config2 0x7F 0x7F
    ∷ row (status_at One) 0x00 0x00
    ∷ row (status_at Two) 0x00 0x00
    ∷ row extended 0x00 0x00
    ∷ row test 0xFF 0x00
    ∷ row (speed_at One) 0xFF 0x00
    ∷ row (speed_at Two) 0xFF 0x00
    ∷ row (value_at Local) 0x00 0x00
    ∷ row (value_at Remote1) 0x00 0x00
    ∷ row (value_at Remote2) 0x00 0x00
    ∷ row (offset_at Local) 0xFF 0x00
    ∷ row (offset_at Remote1) 0x8F 0x00
    ∷ row (offset_at Remote2) 0x8F 0x00
    ∷ row (tach_limit_at One) 0xFF 0xFF
    ∷ row (tach_limit_at Two) 0xFF 0xFF
    ∷ row (high_limit_at Local) 0xFF 60
    ∷ row (low_limit_at Local) 0xFF 0
    ∷ row (therm_limit_at Local) 0xFF 70
    ∷ row (high_limit_at Remote1) 0xFF 80
    ∷ row (low_limit_at Remote1) 0xFF 0
    ∷ row (therm_limit_at Remote1) 0xFF 100
    ∷ row (high_limit_at Remote2) 0xFF 80
    ∷ row (low_limit_at Remote2) 0xFF 0
    ∷ row (therm_limit_at Remote2) 0xFF 100
    ∷ row (characteristics_at One) 0xFF 0x5D
    ∷ row (characteristics_at Two) 0xFF 0x5D
    ∷ row speeds 0xFF 0x55
    ∷ row filter 0xFF 0x50
    ∷ row (control_at Local) 0xFF 0x41
    ∷ row (control_at Remote1) 0xFF 0x61
    ∷ row (control_at Remote2) 0xFF 0x61
    ∷ row device 0x00 0x31
    ∷ row company 0x00 0x41
    ∷ row behaviour 0xF0 0x80
    ∷ []

-- what the row of an address says, or `none` where the table has no such row
unfoldable pub says : {A : Type 0} → (Row → A) → (none : A) → List Row → (address : ℕ) → A
says f none [] a = none
says f none (r ∷ rs) a = cond (eqb a r.address) (f r) (says f none rs a)

unfoldable pub exists_at : ℕ → Bool
unfolding says table
exists_at a = says (λ r. true) false table a

unfoldable pub mask_at : ℕ → ℕ
unfolding says table
mask_at a = says (λ r. r.mask) 0 table a

unfoldable pub reset_at : ℕ → ℕ
unfolding says table
reset_at a = says (λ r. r.reset) 0 table a

-- wholly read-only: a register that no write can change
unfoldable pub read_only_at : ℕ → Bool
unfolding exists_at mask_at
read_only_at a = exists_at a && eqb (mask_at a) 0
