-- Document 01, "The reply numbers": the number and the data of each answer. 12 and 13 are T-02's and T-05's, of document 02.
use Rattle.std.specs.Prelude.{ℕ, Result, Ok, Err}
use Rattle.event.specs.declared.Refusal.{Refusal}
use Rattle.event.specs.declared.Refusal.TheVariants.{NoPower, OtherAddress, NoSuchPart, NoSuchRegister, ReadOnly, OutOfRange, BadRangeCode, OddLocal}
use Rattle.event.specs.declared.Refusal.TheVariants.{NotMonitoring, Malformed, WrongSize, NoAlert, BrokenDiode}

abbrev pub refusal_number : Refusal → ℕ
refusal_number NoPower = 1
refusal_number OtherAddress = 2
refusal_number NoSuchPart = 3
refusal_number NoSuchRegister = 4
refusal_number ReadOnly = 5
refusal_number OutOfRange = 6
refusal_number BadRangeCode = 7
refusal_number OddLocal = 8
refusal_number NotMonitoring = 9
refusal_number Malformed = 10
refusal_number WrongSize = 11
refusal_number NoAlert = 12
refusal_number BrokenDiode = 13

abbrev pub number_of : {T : Type 0} → Result T Refusal → ℕ
number_of (Ok x) = 0
number_of (Err r) = refusal_number r

-- a refusal has data 0
abbrev pub data_of : Result ℕ Refusal → ℕ
data_of (Ok d) = d
data_of (Err r) = 0
