-- An event whose numbers are in their ranges: its plain numbers are its numbers. Assumes nothing.
use Prim.Native.Nat.{ℕ, ◌%◌, ◌<◌}
use mathlib.Core.Path.{◌≡◌, ap}
use mathlib.Core.Bool.{Bool, true, false, ◌||◌}
use lib.Dec.{leb}
use lib.IntN.{ℤ, pos, negsuc}
use native.Mathlib.Omega.{arith}
use borrow.Author.Tests.{leb-true, lt-ltb}
use Rattle.integer.proofs.BoolLaws.{by_cases, both}
use Rattle.integer.specs.Range.{eighths_of}
use Rattle.std.specs.Prelude.{Some}
use Rattle.event.specs.Kinds.{is_kind}
use Rattle.event.specs.declared.Event.{Event}
use Rattle.event.specs.declared.Kind.TheVariants as kind
use Rattle.rules.specs.Registers.{config2}
use Rattle.rules.specs.Events.{who, arg, val, natural, register_given, byte_given, lies, from_to, writes}
use Rattle.rules.specs.Events.{restarts}
use Rattle.rules.specs.Stored.{counts}
use Rattle.rules.specs.Replies as replies
use Rattle.rules.proofs.EventLaws.{who_lies, arg_lies, val_lies}
use Rattle.input.specs.Inputs.{plain_of, eighths_held, input_of, byte_in, is_write, is_restart}
use Rattle.stored.specs.Stored.{is_count_at}
use Rattle.input.proofs.PlainLaws.{lies_plain, lies_number, count_is}

pub in_range : (t : ℤ) → lies (from_to (negsuc 1023) (pos 1023)) t ≡ true → eighths_of t ≡ Some (eighths_held t)
unfolding eighths_of
in_range (pos n) z = rw (lt-ltb n 1024 (omega (arith, leb-true n 1023 z)))
in_range (negsuc n) z = rw (lt-ltb n 1024 (omega (arith, leb-true n 1023 (both (leb n 1023) true z).0)))

small : (v : ℤ) (low high : ℕ) → high < 256 → lies (from_to (pos low) (pos high)) v ≡ true → plain_of v % 256 ≡ natural v
small v low high h y = let p = lies_plain low high v y in omega (arith, p.0, p.1)

module _ (e : Event) (fine : replies.out_of_range e ≡ false) where
  -- the own address of a power; the register of a write or point; the byte of a write or count
  pub own_is : is_kind kind.Power e ≡ true → plain_of (who e) % 256 ≡ natural (who e)
  own_is y = small (who e) 44 46 (omega arith) (who_lies e fine 0 y)

  pub register_is : (is_kind kind.Write e || is_kind kind.Point e) ≡ true → plain_of (arg e) % 256 ≡ register_given e
  register_is y =
      by_cases (is_kind kind.Write e)
      (λ w. small (arg e) 0 255 (omega arith) (arg_lies e fine 1 w))
      (λ w. small (arg e) 0 255 (omega arith) (arg_lies e fine 2 (rw w at y)))

  pub written_is : is_kind kind.Write e ≡ true → byte_in (input_of e) ≡ byte_given e
  written_is y = small (val e) 0 255 (omega arith) (val_lies e fine 1 y)

  pub counted_is : is_kind kind.Tach e ≡ true → byte_in (input_of e) ≡ byte_given e
  counted_is y = small (val e) 0 255 (omega arith) (val_lies e fine 5 y)

  -- a write of a register; a restart
  pub write_is : (a : ℕ) → is_write a (input_of e) ≡ writes a e
  write_is a =
      by_cases (is_kind kind.Write e)
      (λ w. let y = arg_lies e fine 1 w in rw (w, lies_number 0 255 (arg e) a y, (lies_plain 0 255 (arg e) y).0))
      (λ w. rw w)

  pub restart_is : is_restart (input_of e) ≡ restarts e
  restart_is = ap (λ (b : Bool). is_kind kind.Power e || b) (rw (write_is config2) (by_cases (writes config2 e) (λ w. rw (
    w,
    written_is (both _ _ w).0,
  )) (λ w. rw w)))

  pub count_at_is : (a : ℕ) → is_count_at a (input_of e) ≡ counts a e
  count_at_is a = rw (count_is _ e, count_is _ e)

  -- the eighths of a sample are within the range that is held
  pub sample_held : is_kind kind.Sample e ≡ true → eighths_of (val e) ≡ Some (eighths_held (val e))
  sample_held y = in_range (val e) (val_lies e fine 4 y)
