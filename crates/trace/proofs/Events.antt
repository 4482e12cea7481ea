-- Laws of the four lines of an event, in `specs/Trace.antt`. Assumes nothing.
use Prim.Native.Nat.{ℕ}
use mathlib.Core.Path.{◌≡◌}
use mathlib.Core.List.{List}
use mir.Syntax.{w32}
use mir.Val.{SFits, to_z, of_z}
use mir.ValLaws.{to_z-of_z}
use lib.IntN.{ℤ}
use Rattle.event.specs.declared.Event.{Event}
use Rattle.event.specs.declared.Kind.{Kind}
use Rattle.event.specs.Kinds.{event_of}
use Rattle.std.specs.Prelude.{Option, Some, None, Ok, Err}
use Rattle.trace.specs.Words.{who_name, arg_name, val_name, kind_line}
use Rattle.trace.specs.Trace.{number_line, event_at}

-- what the reader answers after each line
module _ (s : List ℕ) (at : ℕ) {n : Option (Kind × ℕ)} (e : n ≡ kind_line s at) where
  pub wrong_kind : n ≡ None → Err (record { line = 0; start = at }) ≡ event_at s at
  unfolding event_at
  wrong_kind h = rw (← e, h)

  module _ {k : Kind} {at1 : ℕ} (h : n ≡ Some (k, at1)) {f1 : Option (ℤ × ℕ)} (e1 : f1 ≡ number_line who_name s at1) where
    pub wrong_who : f1 ≡ None → Err (record { line = 1; start = at1 }) ≡ event_at s at
    unfolding event_at
    wrong_who h1 = rw (← e, h, ← e1, h1)

    module _ {who : ℤ} {at2 : ℕ} (h1 : f1 ≡ Some (who, at2)) {f2 : Option (ℤ × ℕ)} (e2 : f2 ≡ number_line arg_name s at2) where
      pub wrong_arg : f2 ≡ None → Err (record { line = 2; start = at2 }) ≡ event_at s at
      unfolding event_at
      wrong_arg h2 = rw (← e, h, ← e1, h1, ← e2, h2)

      module _ {arg : ℤ} {at3 : ℕ} (h2 : f2 ≡ Some (arg, at3)) {f3 : Option (ℤ × ℕ)} (e3 : f3 ≡ number_line val_name s at3) where
        pub wrong_val : f3 ≡ None → Err (record { line = 3; start = at3 }) ≡ event_at s at
        unfolding event_at
        wrong_val h3 = rw (← e, h, ← e1, h1, ← e2, h2, ← e3, h3)

        pub four_lines : {val : ℤ} {next : ℕ} {r : Event} → f3 ≡ Some (val, next) → SFits w32 who → SFits w32 arg → SFits w32 val
            → r ≡ event_of k (record { who = to_z w32 (of_z w32 who); arg = to_z w32 (of_z w32 arg); val = to_z w32 (of_z w32 val) })
            → Ok (r, next) ≡ event_at s at
        unfolding event_at
        four_lines {val} h3 s1 s2 s3 q = rw (← e, h, ← e1, h1, ← e2, h2, ← e3, h3, q, to_z-of_z w32 who s1, to_z-of_z w32 arg s2, to_z-of_z w32 val s3)
