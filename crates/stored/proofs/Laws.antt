-- An event that stores nothing. Assumes nothing.
use Prim.Native.Nat.{ℕ}
use mathlib.Core.Bool.{Bool, true, false, ◌||◌, and-false}
use mathlib.Core.Path.{◌≡◌, sym, ◌∙◌}
use borrow.Author.Tests.{not-true}
use Rattle.integer.proofs.BoolLaws.{neither}
use Rattle.event.specs.declared.Kind.TheVariants as kind
use Rattle.input.specs.Inputs.{is_a, is_restart}
use Rattle.input.specs.declared.Input.{Input}
use Rattle.stored.specs.Stored.{stored_after, stores_nothing, channel_bytes, fan_bytes, bytes, registers_after}
use Rattle.stored.specs.declared.Registers.{Registers}

-- ---- an event that stores nothing leaves every byte

module _ (i : Input) (nothing : stores_nothing i ≡ true) where
  quiet : (is_restart i ≡ false) × (is_a kind.Write i ≡ false) × (is_a kind.Tach i ≡ false)
  quiet =
      let a = neither (is_restart i) (is_a kind.Write i || is_a kind.Tach i) (not-true (is_restart i || (is_a kind.Write i || is_a kind.Tach i)) nothing) in
      let b = neither (is_a kind.Write i) (is_a kind.Tach i) a.1 in
      (a.0, b.0, b.1)

  same_byte : (a was : ℕ) → stored_after a i was ≡ was
  unfolding stored_after
  same_byte a was = rw (quiet.0, quiet.1, quiet.2, and-false, and-false)

  pub same_registers : (s : Registers) → s ≡ registers_after i s
  unfolding registers_after bytes channel_bytes fan_bytes
  same_registers s = sym (simp same_byte)

pub kept : {b : Bool} (i : Input) (s : Registers) → b ≡ stores_nothing i → b ≡ true → s ≡ registers_after i s
kept i s e t = same_registers i (sym e ∙ t) s
