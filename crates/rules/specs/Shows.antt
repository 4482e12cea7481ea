-- What the rules say is shown and answered after the accepted events: registers, INT, THERM, FAN_FAULT, duties, register image.
use Rattle.std.specs.Prelude.{ℕ, zero, suc, ◌+◌, ◌*◌, ◌/◌, Bool, false, cond, not, ◌&&◌, ◌||◌, List, [], ◌∷◌, ltb, leb, eqb, ℤ, length, Result, Ok, Err}
use Rattle.std.proofs.lemmas.List.Edits.{sets}
use Rattle.integer.specs.Bits.{bit_of, flag_of, packed}
use Rattle.part.specs.declared.ChannelId.TheVariants.{Local, Remote1, Remote2}
use Rattle.part.specs.declared.FanId.{FanId}
use Rattle.part.specs.declared.FanId.TheVariants.{One, Two}
use Rattle.event.specs.Kinds.{is_kind}
use Rattle.event.specs.declared.Event.{Event}
use Rattle.event.specs.declared.Kind.TheVariants as kind
use Rattle.event.specs.declared.Refusal.{Refusal}
use Rattle.event.specs.declared.Refusal.TheVariants.{NoPower, WrongSize}
use Rattle.event.specs.declared.Shown.{Shown}
use Rattle.rules.specs.Registers.{config1, status_at, extended, value_at, exists_at}
use Rattle.rules.specs.Fields.{int_enabled, fault_enabled}
use Rattle.rules.specs.Events.{restarts}
use Rattle.rules.specs.Stored.{Taken, powered, stored_at, pointer, diode_error, pulled_bit}
use Rattle.rules.specs.Replies.{reply_to, accepts, History, taken}
use Rattle.rules.specs.Temperatures.{temperature, whole_byte, remainder, therm_asserted, channel_on, high_bit, low_bit, therm_bit}
use Rattle.rules.specs.Duties.{duty, failures, alarm_bit, fault_bit}

-- ---- registers

-- temperatures 4: the status registers 0x02 and 0x03, bit 0 first
unfoldable pub status : FanId → Taken → ℕ
status One d =
    packed (alarm_bit One d) (fault_bit One d) (high_bit Remote1 d) (low_bit Remote1 d)
    (therm_bit Remote1 d) (diode_error Remote1 d) (high_bit Local d) (low_bit Local d)
status Two d =
    packed (alarm_bit Two d) (fault_bit Two d) (high_bit Remote2 d) (low_bit Remote2 d)
    (therm_bit Remote2 d) (diode_error Remote2 d) (therm_bit Local d) (pulled_bit d)

-- temperatures 1, Table 22 of 000: remote 1 in bits 2:0, remote 2 in 5:3, local in quarters in 7:6
abbrev pub remainders_byte : (local remote1 remote2 : ℤ) → ℕ
remainders_byte local remote1 remote2 = remainder remote1 + 8 * remainder remote2 + 64 * (remainder local / 2)

-- what a read of the register at an address returns: status, remainders and readings, else the stored byte
unfoldable pub byte_at : (address : ℕ) → Taken → ℕ
byte_at a d =
    cond (eqb a (status_at One)) (status One d)
    (cond (eqb a (status_at Two)) (status Two d)
    (cond (eqb a extended) (remainders_byte (temperature Local d) (temperature Remote1 d) (temperature Remote2 d))
    (cond (eqb a (value_at Local)) (whole_byte (temperature Local d))
    (cond (eqb a (value_at Remote1)) (whole_byte (temperature Remote1 d))
    (cond (eqb a (value_at Remote2)) (whole_byte (temperature Remote2 d))
    (stored_at a d))))))

-- 0 where there is no register
unfoldable pub value : (address : ℕ) → Taken → ℕ
value a d = cond (exists_at a) (byte_at a d) 0

-- ---- outputs, 1 while asserted

-- temperatures 8: a status bit is set, bit 5 counting only for an enabled channel
abbrev pub any_set : (b0 b1 b2 b3 b4 b5 b6 b7 : Bool) → Bool
any_set b0 b1 b2 b3 b4 b5 b6 b7 = b0 || (b1 || (b2 || (b3 || (b4 || (b5 || (b6 || b7))))))

unfoldable pub pending : FanId → Taken → Bool
pending One d =
    any_set (alarm_bit One d) (fault_bit One d) (high_bit Remote1 d) (low_bit Remote1 d) (therm_bit Remote1 d) (diode_error Remote1 d && channel_on Remote1 d)
    (high_bit Local d) (low_bit Local d)
pending Two d =
    any_set (alarm_bit Two d) (fault_bit Two d) (high_bit Remote2 d) (low_bit Remote2 d) (therm_bit Remote2 d) (diode_error Remote2 d && channel_on Remote2 d)
    (therm_bit Local d) (pulled_bit d)

unfoldable pub int_due : Taken → Bool
int_due d = int_enabled (stored_at config1 d) && (pending One d || pending Two d)

-- T-02 of document 02: a bit of a status byte goes from 0 to 1; some bit of it does; an event raises one of the sixteen
abbrev pub risen : (was now place : ℕ) → Bool
risen was now k = not (bit_of was k) && bit_of now k

unfoldable pub some_risen : (was now : ℕ) → Bool
some_risen was now =
    any_set (risen was now 0) (risen was now 1) (risen was now 2) (risen was now 3) (risen was now 4) (risen was now 5) (risen was now 6) (risen was now 7)

abbrev pub raises : Event → Taken → Bool
raises e d = some_risen (status One d) (status One (e ∷ d)) || some_risen (status Two d) (status Two (e ∷ d))

-- T-02: an alert that finds INT asserted lets it go, until a status bit is raised, a reset or a power
unfoldable pub silenced : Taken → Bool
silenced [] = false
silenced (e ∷ d) = cond (restarts e) false (cond (silenced d) (not (raises e d)) (is_kind kind.Alert e && int_due d))

unfoldable pub int_asserted : Taken → Bool
int_asserted d = int_due d && not (silenced d)

-- tach counts: FAN_FAULT while its enable bit is 1 and either run is 5
unfoldable pub fault_asserted : Taken → Bool
fault_asserted d = fault_enabled (stored_at config1 d) && (leb 5 (failures One d) || leb 5 (failures Two d))

unfoldable pub shown : Taken → Shown
shown d =
    record {
      int = flag_of (int_asserted d);
      therm = flag_of (therm_asserted d);
      fault = flag_of (fault_asserted d);
      duty1 = duty One d;
      duty2 = duty Two d;
    }

-- ---- answers

-- the answer to the next event: its refusal, or done, with data for a read alone
unfoldable pub answer : Event → History → Result ℕ Refusal
answer e h = cond (accepts (reply_to e (taken h))) (Ok (cond (is_kind kind.Read e) (value (pointer (taken h)) (taken h)) 0)) (reply_to e (taken h))

-- the register image (below the reply table): place a holds what a read of a would return
unfoldable pub values_from : (from count : ℕ) → Taken → List ℕ
values_from a zero d = []
values_from a (suc n) d = value a d ∷ values_from (suc a) n d

-- what the image is answered, and what the lent buffer then holds
unfoldable pub image_reply : (buffer : List ℕ) → Taken → Result ℕ Refusal
image_reply buffer d = cond (powered d) (cond (ltb (length buffer) 64) (Err WrongSize) (Ok 0)) (Err NoPower)

unfoldable pub image_held : (buffer : List ℕ) → Taken → List ℕ
image_held buffer d = cond (powered d) (cond (ltb (length buffer) 64) buffer (sets buffer 0 (values_from 0 64 d))) buffer
