-- The byte that an event stores, put at its address, leaves every byte as the rule has it. Assumes nothing.
use Prim.Native.Nat.{ℕ, ◌<◌}
use mathlib.Core.Bool.{Bool, true, false, cond, and-false, and-true, or-false}
use mathlib.Core.Path.{◌≡◌, refl, sym, ◌∙◌}
use native.Mathlib.Omega.{arith}
use borrow.Author.Tests.{eqb-true, eqb-false, eq-eqb, ne_eqb, ltb-false}
use lib.Dec.{eqb, ltb}
use Rattle.std.specs.Prelude.{Option, Some, None}
use Rattle.integer.proofs.BoolLaws.{by_cases, both}
use Rattle.part.specs.declared.FanId.TheVariants.{One, Two}
use Rattle.event.specs.Kinds.{place_of}
use Rattle.event.specs.declared.Kind.{Kind}
use Rattle.event.specs.declared.Kind.TheVariants as kind
use Rattle.rules.specs.Registers.{speed_at}
use Rattle.input.specs.Inputs.{same_kind, is_a, is_count, is_restart}
use Rattle.input.specs.declared.Input.{Input}
use Rattle.stored.specs.Stored.{is_count_at, stored_after, channel_bytes, fan_bytes, bytes, registers_after, cells, found, stored_in}
use Rattle.stored.specs.Stored.{place_in, byte_for, put_at, reset_to}
use Rattle.stored.specs.declared.Registers.{Registers}

-- ---- two ways to a byte that agree at every address

pub bytes_same : (g h : ℕ → ℕ → ℕ) (s : Registers) → ((a : ℕ) → a < 256 → g a (stored_in s a) ≡ h a (stored_in s a)) → bytes g s ≡ bytes h s
unfolding bytes channel_bytes fan_bytes cells found stored_in
bytes_same g h s e =
    rw (
      e 0x00 (omega arith),
      e 0x01 (omega arith),
      e 0x07 (omega arith),
      e 0x08 (omega arith),
      e 0x09 (omega arith),
      e 0x0D (omega arith),
      e 0x0E (omega arith),
      e 0x0F (omega arith),
      e 0x10 (omega arith),
      e 0x11 (omega arith),
      e 0x14 (omega arith),
      e 0x15 (omega arith),
      e 0x16 (omega arith),
      e 0x18 (omega arith),
      e 0x19 (omega arith),
      e 0x1A (omega arith),
      e 0x1C (omega arith),
      e 0x1D (omega arith),
      e 0x1E (omega arith),
      e 0x20 (omega arith),
      e 0x21 (omega arith),
      e 0x22 (omega arith),
      e 0x23 (omega arith),
      e 0x24 (omega arith),
      e 0x25 (omega arith),
      e 0x26 (omega arith),
      e 0x3F (omega arith),
    )

-- ---- a start afresh

pub restarted : (i : Input) (s : Registers) {f : Bool} {b : Registers} → f ≡ is_restart i → f ≡ true → b ≡ bytes reset_to s → b ≡ registers_after i s
unfolding registers_after stored_after
restarted i s ef t e = e ∙ bytes_same reset_to (λ a was. stored_after a i was) s (λ a small. rw (sym ef ∙ t))

-- ---- any other event

some_same : {a b : ℕ} → Some a ≡ Some b → a ≡ b
some_same e = cc

none_some : {a : ℕ} → None ≡ Some a → ⊥
none_some e = cc

symmetric : (a b : ℕ) → eqb a b ≡ eqb b a
symmetric a b =
    by_cases (eqb a b)
    (λ y. y ∙ sym (eq-eqb b a (sym (eqb-true a b y))))
    (λ n. n ∙ sym (ne_eqb b a (λ (e : b ≡ a). eqb-false a b n (sym e))))

-- no write is a count
one_kind : (k : Option Kind) → same_kind kind.Write k ≡ true → same_kind kind.Tach k ≡ false
one_kind None w = refl
one_kind (Some q) w = let e = eqb-true (place_of q) 1 w in rw e

module _ (i : Input) where
  -- nor is a count of fan 1 one of fan 2
  no_count : is_a kind.Write i ≡ true → is_a kind.Tach i ≡ false
  no_count w = one_kind i.kind w

  other_fan_lem : is_count One i ≡ true → is_count Two i ≡ false
  other_fan_lem y = let e = eqb-true i.who 1 (both (is_a kind.Tach i) _ y).1 in rw (e, and-false)

  counted_at : (at : ℕ) → cond (is_count One i) (Some (speed_at One)) (cond (is_count Two i) (Some (speed_at Two)) None) ≡ Some at → (a : ℕ)
      → eqb at a ≡ is_count_at a i
  counted_at at e a =
      by_cases (is_count One i)
      (λ y. let q : 8 ≡ at = some_same (rw y at e) in rw (sym q, y, other_fan_lem y, and-true, and-false, or-false) (symmetric 8 a))
      (λ n. by_cases (is_count Two i)
      (λ y. let q : 9 ≡ at = some_same (rw (n, y) at e) in rw (sym q, n, y, and-true, and-false) (symmetric 9 a))
      (λ m. absurd (none_some (rw (n, m) at e))))

  module _ (nf : is_restart i ≡ false) where
    put_is : (s : Registers) (at : ℕ) → place_in i ≡ Some at → (a : ℕ) → a < 256
        → put_at at (byte_for i at s) a (stored_in s a) ≡ stored_after a i (stored_in s a)
    unfolding place_in byte_for stored_after
    put_is s at e a small =
        by_cases (is_a kind.Write i)
        (λ w. by_cases (ltb i.arg 256)
        (λ l. let q : i.arg ≡ at = some_same (rw (w, l) at e) in
        rw (sym q, nf, w)
        (by_cases (eqb i.arg a)
        (λ y. rw (y, eqb-true i.arg a y))
        (λ n. rw (n, no_count w, and-false, and-false))))
        (λ n. absurd (none_some (rw (w, n) at e))))
        (λ w. rw (nf, w, counted_at at (rw w at e) a))

    none_is : place_in i ≡ None → (a was : ℕ) → a < 256 → was ≡ stored_after a i was
    unfolding place_in stored_after
    none_is e a was small =
        by_cases (is_a kind.Write i)
        (λ w. by_cases (ltb i.arg 256)
        (λ l. absurd (none_some (sym (rw (w, l) at e))))
        (λ n. rw (nf, w, ne_eqb i.arg a (λ q. omega (arith, ltb-false i.arg 256 n)), no_count w, and-false, and-false)))
        (λ w. by_cases (is_count One i)
        (λ y. absurd (none_some (sym (rw (w, y) at e))))
        (λ n. by_cases (is_count Two i)
        (λ y. absurd (none_some (sym (rw (w, n, y) at e))))
        (λ m. rw (nf, w, n, m, and-false, and-false))))

pub put_registers : (i : Input) (s : Registers) {f : Bool} {at byte : ℕ} {b : Registers} → f ≡ is_restart i → f ≡ false → Some at ≡ place_in i
    → byte ≡ byte_for i at s → b ≡ bytes (put_at at byte) s → b ≡ registers_after i s
unfolding registers_after
put_registers i s {at = at} ef t ea eb e =
    e ∙ rw eb (bytes_same (put_at at (byte_for i at s)) (λ a was. stored_after a i was) s (put_is i (sym ef ∙ t) s at (sym ea)))

pub nothing_put : (i : Input) (s : Registers) {f : Bool} → f ≡ is_restart i → f ≡ false → None ≡ place_in i → s ≡ registers_after i s
unfolding registers_after bytes channel_bytes fan_bytes
nothing_put i s ef t e =
    bytes_same (λ a was. was) (λ a was. stored_after a i was) s (λ a small. none_is i (sym ef ∙ t) (sym e) a (stored_in s a) small)
