-- Laws of a line that is read as something where a newline ends it, and else is wrong. Assumes nothing.
use Prim.Native.Nat.{ℕ, ◌+◌, ◌-◌, ◌≤◌, ◌<◌}
use mathlib.Core.Path.{◌≡◌, refl}
use mathlib.Core.List.{List}
use mathlib.Core.Bool.{Bool, true, false, cond}
use native.Mathlib.Omega.{arith}
use lib.Dec.{ltb}
use lib.ListN.{length, take, drop}
use borrow.Author.Tests.{lt-ltb, le-ltb, ltb-true}
use Rattle.line.specs.Line.{line_at, end_at}
use Rattle.line.proofs.Lines.{end_from, line_part, ended_part}
use Rattle.trace.specs.Trace.{ended}

-- the line at an index, read by `of`; `by` adds the start of the next line
abbrev pub line_as : {A B : Type 0} → (ℕ → A → B) → B → (List ℕ → A) → List ℕ → ℕ → B
line_as by wrong of s at = cond (ltb (end_at s at) (length s)) (by (end_at s at + 1) (of (line_at s at))) wrong

module _ {A B : Type 0} (by : ℕ → A → B) (wrong : B) (of : List ℕ → A) (s : List ℕ) (at : ℕ) where
  pub unended : {e : ℕ} → e ≡ end_at s at → length s ≤ e → wrong ≡ line_as by wrong of s at
  unended {e} end h = rw (← end, le-ltb e (length s) h)

  pub read_as : {e : ℕ} {a : A} → e ≡ end_at s at → e < length s → a ≡ of (take (e - at) (drop at s)) → line_as by wrong of s at ≡ by (e + 1) a
  read_as {e} end h q = rw (q, line_part s at end, ← end, lt-ltb e (length s) h)

  -- what holds of a wrong line, and of one whose bytes stand up to the next line, within the text
  pub either : (P : B → Type 0) → P wrong
      → ((next : ℕ) (l : List ℕ) → at < next → next ≤ length s → take (next - at) (drop at s) ≡ ended l → P (by next (of l))) → P (line_as by wrong of s at)
  either P bad good = go (ltb (end_at s at) (length s)) refl
    where
      go : (t : Bool) → ltb (end_at s at) (length s) ≡ t → P (cond t (by (end_at s at + 1) (of (line_at s at))) wrong)
      go true h =
          let end : at ≤ end_at s at = end_from s at refl in
          let within : end_at s at < length s = ltb-true (end_at s at) (length s) h in
          good (end_at s at + 1) (line_at s at) (omega arith) (omega arith) (ended_part s at refl within)
      go false h = bad
