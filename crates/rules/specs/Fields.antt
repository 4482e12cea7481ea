-- The bits of the registers that document 01 gives a use, by the tables of 000, each of the byte of its register.
use Rattle.std.specs.Prelude.{ℕ, ◌/◌, ◌%◌, Bool}
use Rattle.integer.specs.Bits.{bit_of}
use Rattle.part.specs.declared.ChannelId.{ChannelId}
use Rattle.part.specs.declared.ChannelId.TheVariants.{Local, Remote1, Remote2}
use Rattle.part.specs.declared.FanId.{FanId}
use Rattle.part.specs.declared.FanId.TheVariants.{One, Two}

-- 0x00 (Table 18): monitoring 0, INT enable 1, FAN_FAULT enable 4, assignment 6:5, automatic 7
abbrev pub monitors : ℕ → Bool
monitors byte = bit_of byte 0

abbrev pub int_enabled : ℕ → Bool
int_enabled byte = bit_of byte 1

abbrev pub fault_enabled : ℕ → Bool
fault_enabled byte = bit_of byte 4

abbrev pub assignment : ℕ → ℕ
assignment byte = byte / 32 % 4

abbrev pub automatic : ℕ → Bool
automatic byte = bit_of byte 7

-- 0x01 (Table 19): fan outputs 0 and 1, tachs 2 and 3, channels 4 to 6
abbrev pub output_enabled : FanId → ℕ → Bool
output_enabled One byte = bit_of byte 0
output_enabled Two byte = bit_of byte 1

abbrev pub tach_enabled : FanId → ℕ → Bool
tach_enabled One byte = bit_of byte 2
tach_enabled Two byte = bit_of byte 3

abbrev pub channel_enabled : ChannelId → ℕ → Bool
channel_enabled Local byte = bit_of byte 4
channel_enabled Remote1 byte = bit_of byte 5
channel_enabled Remote2 byte = bit_of byte 6

-- 0x0D to 0x0F (Tables 31 to 33): the degrees of an offset 3:0; its sign 7, which subtracts them
abbrev pub offset_degrees : ℕ → ℕ
offset_degrees byte = byte % 16

abbrev pub offset_subtracts : ℕ → Bool
offset_subtracts byte = bit_of byte 7

-- 0x20, 0x21 (Tables 23, 24): the spin-up code 2:0 (Table 9), the code of the speed range 7:6 (Table 15)
abbrev pub spin_up_code : ℕ → ℕ
spin_up_code byte = byte % 8

abbrev pub speed_range : ℕ → ℕ
speed_range byte = byte / 64

-- 0x22 (Table 25): speed codes, fan 1 in 3:0, fan 2 in 7:4
abbrev pub speed_code : FanId → ℕ → ℕ
speed_code One byte = byte % 16
speed_code Two byte = byte / 16 % 16

-- 0x23 (Table 26): filters 0 and 1, the code of the ramp rate 6:5
abbrev pub filter_enabled : FanId → ℕ → Bool
filter_enabled One byte = bit_of byte 0
filter_enabled Two byte = bit_of byte 1

abbrev pub rate_code : ℕ → ℕ
rate_code byte = byte / 32 % 4

-- 0x24 to 0x26 (Tables 27 to 29): the code of R 2:0, Tmin in steps of 4 degrees 7:3
abbrev pub range_code : ℕ → ℕ
range_code byte = byte % 8

abbrev pub tmin_code : ℕ → ℕ
tmin_code byte = byte / 8 % 32

-- 0x3F (Table 30): THERM acts on the fans 7
abbrev pub therm_drives_fans : ℕ → Bool
therm_drives_fans byte = bit_of byte 7
