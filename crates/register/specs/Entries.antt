-- What there is at an address: the bits that a write can change, and the byte after power.
use Rattle.std.specs.Prelude.{ℕ, Option, Some, None}
use Rattle.register.specs.declared.Listed.{Listed}
use Rattle.rules.specs.Registers.{says, table}

unfoldable pub entry_of : ℕ → Option Listed
unfolding says table
entry_of a = says (λ r. Some (record { mask = r.mask; reset = r.reset })) None table a
