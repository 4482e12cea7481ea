-- The chip that the rules describe shows what the rules say: registers and outputs. Assumes nothing.
use Prim.Native.Nat.{ℕ, min}
use mathlib.Core.Path.{◌≡◌, refl, sym, ◌∙◌, subst}
use mathlib.Core.Bool.{true, false, true≢false}
use mathlib.Core.List.{List, [], ◌∷◌}
use native.Mathlib.Omega.{arith}
use lib.Bits.{bit_and, and_zero_r, or_zero_r}
use lib.Dec.{eqb, leb}
use borrow.Author.Tests.{eq-eqb, ne_eqb, leb-true, leb-false, eqb-true}
use Rattle.integer.proofs.BoolLaws.{by_cases}
use Rattle.integer.proofs.PackLaws.{pending_law}
use Rattle.integer.specs.Bits.{merged_of}
use Rattle.part.specs.declared.ChannelId.TheVariants.{Local, Remote1, Remote2}
use Rattle.part.specs.declared.FanId.{FanId}
use Rattle.part.specs.declared.FanId.TheVariants.{One, Two}
use Rattle.event.specs.Kinds.{is_kind}
use Rattle.event.specs.declared.Kind.TheVariants as kind
use Rattle.event.specs.declared.Event.{Event}
use Rattle.rules.specs.Registers.{Row, says, table, extended, device, company, mask_at, reset_at, exists_at}
use Rattle.rules.specs.Events.{byte_given, restarts, writes}
use Rattle.rules.specs.Stored.{Taken, powered, counts, stored_at}
use Rattle.rules.specs.Temperatures.{therm_asserted}
use Rattle.rules.specs.Duties.{duty, failures}
use Rattle.rules.specs.Shows.{status, byte_at, value, pending, int_due, silenced, int_asserted, fault_asserted, shown}
use Rattle.stored.specs.Stored.{cells, found, stored_in}
use Rattle.output.specs.Outputs.{status_of, register_at, int_due_of, fault_of, shown_of}
use Rattle.history.proofs.State.{port_by, channel_registers_by, fan_registers_by, registers_by, channel_by, channels_by, fan_by, chip_by}
use Rattle.rules.proofs.TakenLaws.{Took, none, more}
use Rattle.history.proofs.HeldLaws.{stands}

-- ---- the two registers that nothing changes

-- what is on after an event and was not before it is on by a power
up_restart : (e : Event) (d : Taken) → powered d ≡ false → powered (e ∷ d) ≡ true → restarts e ≡ true
unfolding powered
up_restart e d off on = by_cases (is_kind kind.Power e) (λ p. rw p) (λ p. absurd (true≢false (sym on ∙ rw (p, off))))

no_mask : (b v : ℕ) → bit_and b 255 ≡ b → merged_of 0 b v ≡ b
unfolding merged_of
no_mask b v q = rw (and_zero_r v) (or_zero_r (bit_and b 255) ∙ q)

-- a byte that no write can change, and that is no fan's speed, is its byte after power from power on
module _ (a b : ℕ) (reset : reset_at a ≡ b) (mask : mask_at a ≡ 0) (whole : bit_and b 255 ≡ b) (uncounted : (e : Event) → counts a e ≡ false) where
  kept : (e : Event) (d : Taken) → (restarts e ≡ false → stored_at a d ≡ b) → stored_at a (e ∷ d) ≡ b
  unfolding stored_at
  kept e d was =
      by_cases (restarts e)
      (λ r. rw r reset)
      (λ r. by_cases (writes a e) (λ w. rw (r, w, mask, was r) (no_mask b (byte_given e) whole)) (λ w. rw (r, w, uncounted e) (was r)))

  fixed : {d : Taken} → Took d → powered d ≡ true → stored_at a d ≡ b
  fixed none on = absurd (true≢false (sym (unfold powered in on)))
  fixed (more {e = e} {d = d} go t) on =
      kept e d (λ r. fixed t (by_cases (powered d) (λ p. p) (λ p. absurd (true≢false (sym (up_restart e d p on) ∙ r)))))

device_is : {d : Taken} → Took d → powered d ≡ true → stored_at device d ≡ 0x31
unfolding reset_at mask_at
device_is = fixed device 0x31 refl refl refl (λ e. refl)

company_is : {d : Taken} → Took d → powered d ≡ true → stored_at company d ≡ 0x41
unfolding reset_at mask_at
company_is = fixed company 0x41 refl refl refl (λ e. refl)

-- ---- each register

-- what holds at the address of every row holds at every address that exists
infixr 5 ◌▹◌
data All (P : ℕ → Type 0) : List Row → Type 0 where
  done : All P []
  ◌▹◌ : {r : Row} {rows : List Row} → P r.address → All P rows → All P (r ∷ rows)

at_row : (P : ℕ → Type 0) {rows : List Row} → All P rows → (a : ℕ) → says (λ r. true) false rows a ≡ true → P a
unfolding says
at_row P done a y = absurd (true≢false (sym y))
at_row P (◌▹◌ {r = r} p ps) a y =
    by_cases (eqb a r.address)
    (λ q. subst P (sym (eqb-true a r.address q)) p)
    (λ q. at_row P ps a (rw q at y))

module _ (d : Taken) (v : stored_at device d ≡ 0x31) (c : stored_at company d ≡ 0x41) where
  abbrev Same : ℕ → Type 0
  Same a = register_at (chip_by d) a ≡ value a d

  extended_same : Same extended
  unfolding register_at value byte_at exists_at chip_by channels_by channel_by
  extended_same = rw ((stands d Local).rest, (stands d Remote1).rest, (stands d Remote2).rest)

  rows_same : All Same table
  unfolding table register_at value byte_at exists_at stored_in cells found chip_by port_by fan_by registers_by channel_registers_by fan_registers_by
      channels_by channel_by status_of status
  rows_same =
      refl ▹ refl ▹ refl ▹ refl ▹ extended_same ▹ refl ▹ refl ▹ refl ▹ (stands d Local).whole ▹ (stands d Remote1).whole ▹ (stands d Remote2).whole
      ▹ refl ▹ refl ▹ refl ▹ refl ▹ refl ▹ refl ▹ refl ▹ refl ▹ refl ▹ refl ▹ refl ▹ refl ▹ refl ▹ refl ▹ refl ▹ refl ▹ refl ▹ refl ▹ refl ▹ refl ▹ refl
      ▹ sym v ▹ sym c ▹ refl ▹ done

pub value_is : {d : Taken} → Took d → powered d ≡ true → (a : ℕ) → register_at (chip_by d) a ≡ value a d
unfolding register_at value exists_at
value_is {d} t on a =
    by_cases (exists_at a)
    (λ y. at_row (Same d (device_is t on) (company_is t on)) (rows_same d (device_is t on) (company_is t on)) a y)
    (λ y. rw y)

-- ---- outputs

-- INT: a bit of a status byte is set, bit 5 counting for an enabled channel
pub due_is : (d : Taken) → int_due_of (chip_by d) ≡ int_due d
unfolding int_due_of int_due pending status_of chip_by port_by fan_by registers_by channels_by channel_by
due_is d = rw (pending_law, pending_law)

-- a run held at 5 is 5 where five failures stand in a row
five : (n : ℕ) → eqb (min 5 n) 5 ≡ leb 5 n
five n = by_cases (leb 5 n) (λ q. eq-eqb (min 5 n) 5 (omega (arith, leb-true 5 n q))
    ∙ sym q) (λ q. ne_eqb (min 5 n) 5 (λ z. omega (arith, leb-false 5 n q)) ∙ sym q)

fault_is : (d : Taken) → fault_of (chip_by d) ≡ fault_asserted d
unfolding fault_of fault_asserted chip_by fan_by registers_by
fault_is d = rw (five (failures One d), five (failures Two d))

pub shown_on : (d : Taken) → shown_of (chip_by d) (silenced d) ≡ shown d
unfolding shown_of shown int_asserted therm_asserted duty chip_by fan_by channels_by channel_by
shown_on d = rw (due_is d, fault_is d)

-- the status registers
pub status_is : (f : FanId) (d : Taken) → status_of f (chip_by d) ≡ status f d
unfolding status_of status chip_by port_by fan_by channels_by channel_by
status_is One d = refl
status_is Two d = refl
