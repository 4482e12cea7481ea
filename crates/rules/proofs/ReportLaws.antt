-- A report on a diode moves that error alone: what it leaves of registers, status bits and fans. Assumes nothing.
use Prim.Native.Nat.{ℕ, zero, suc, ◌<◌}
use mathlib.Core.Path.{◌≡◌, refl, sym, ap, subst, ◌∙◌}
use mathlib.Core.Bool.{Bool, true, false, ◌&&◌, true≢false}
use mathlib.Core.List.{List, [], ◌∷◌}
use native.Mathlib.Omega.{arith}
use lib.Dec.{eqb}
use lib.IntN.{ℤ, pos}
use lib.ListN.{get_or}
use borrow.Author.Tests.{eqb-true, eqb-false}
use Rattle.integer.specs.Bits.{bit_of, packed}
use Rattle.integer.proofs.BoolLaws.{by_cases}
use Rattle.integer.proofs.PackLaws.{bit_packed}
use Rattle.part.specs.declared.ChannelId.{ChannelId}
use Rattle.part.specs.declared.ChannelId.TheVariants.{Local, Remote1, Remote2}
use Rattle.part.specs.declared.FanId.{FanId}
use Rattle.part.specs.declared.FanId.TheVariants.{One, Two}
use Rattle.event.specs.Kinds.{is_kind}
use Rattle.event.specs.declared.Kind.TheVariants as kind
use Rattle.rules.specs.Registers.{config1, speeds, exists_at}
use Rattle.rules.specs.Fields.{assignment, automatic}
use Rattle.rules.specs.Stored.{Taken, stored_at, diode_error}
use Rattle.rules.specs.Targets.{demand, assigned_by, demand_if, target_of, target}
use Rattle.rules.specs.Shows.{status, byte_at, value}
use Rattle.rules.specs.PageWords.{by_channel, by_fan, reported}
use Rattle.rules.proofs.CalmLaws.{demand_same}
use Rattle.rules.proofs.KeptLaws.{alike, BitsKept, status_kept}
use Rattle.rules.proofs.TurnLaws.{AimKept}
use Rattle.rules.proofs.ReasonLaws.{same_channel}
use Rattle.rules.proofs.IdleLaws.{Another, later, settled, bits, byte_kept}

pub is_report_lem : (c : ChannelId) (v : ℤ) → is_kind kind.Diode (reported c v) ≡ true
is_report_lem Local v = refl
is_report_lem Remote1 v = refl
is_report_lem Remote2 v = refl

-- it is of none of document 01's kinds
pub is_not : (c : ChannelId) (v : ℤ) → Another (reported c v)
is_not c v = later (reported c v) 10 (omega arith) (is_report_lem c v)

module _ (d : Taken) (c : ChannelId) where
  -- ---- the errors

  pub error_after_lem : (n : ℕ) → diode_error c (reported c (pos n) ∷ d) ≡ eqb n 1
  unfolding diode_error
  error_after_lem n = go c
    where
      go : (c : ChannelId) → diode_error c (reported c (pos n) ∷ d) ≡ eqb n 1
      go Local = refl
      go Remote1 = refl
      go Remote2 = refl

  pub error_other : (x : ChannelId) (v : ℤ) → (c ≡ x → ⊥) → diode_error x (reported c v ∷ d) ≡ diode_error x d
  unfolding diode_error
  error_other x v n = go c x n
    where
      go : (c x : ChannelId) → (c ≡ x → ⊥) → diode_error x (reported c v ∷ d) ≡ diode_error x d
      go Local Local n = absurd (n refl)
      go Local Remote1 n = refl
      go Local Remote2 n = refl
      go Remote1 Local n = refl
      go Remote1 Remote1 n = absurd (n refl)
      go Remote1 Remote2 n = refl
      go Remote2 Local n = refl
      go Remote2 Remote1 n = refl
      go Remote2 Remote2 n = absurd (n refl)

-- ---- the status bytes: no bit but bit 5, and no byte but the channel's own

abbrev bits_with : (b0 b1 b2 b3 b4 b5 b6 b7 : Bool) → List Bool
bits_with b0 b1 b2 b3 b4 b5 b6 b7 = b0 ∷ b1 ∷ b2 ∷ b3 ∷ b4 ∷ b5 ∷ b6 ∷ b7 ∷ []

module _ (b0 b1 b2 b3 b4 x y b6 b7 : Bool) where
  elsewhere : (k : ℕ) → eqb k 5 ≡ false → get_or (bits_with b0 b1 b2 b3 b4 x b6 b7) k false ≡ get_or (bits_with b0 b1 b2 b3 b4 y b6 b7) k false
  elsewhere zero q = refl
  elsewhere (suc zero) q = refl
  elsewhere (suc (suc zero)) q = refl
  elsewhere (suc (suc (suc zero))) q = refl
  elsewhere (suc (suc (suc (suc zero)))) q = refl
  elsewhere (suc (suc (suc (suc (suc zero))))) q = absurd (true≢false q)
  elsewhere (suc (suc (suc (suc (suc (suc k)))))) q = refl

  but_fifth : (k : ℕ) → k < 8 → eqb k 5 ≡ false → bit_of (packed b0 b1 b2 b3 b4 x b6 b7) k ≡ bit_of (packed b0 b1 b2 b3 b4 y b6 b7) k
  but_fifth k l q = bit_packed b0 b1 b2 b3 b4 x b6 b7 k l ∙ (elsewhere k q ∙ sym (bit_packed b0 b1 b2 b3 b4 y b6 b7 k l))

module _ (d : Taken) (v : ℤ) where
  pub bit_kept :
      (c : ChannelId) (k : ℕ) → k < 8 → eqb k 5 ≡ false → (f : FanId) → bit_of (status f (reported c v ∷ d)) k ≡ bit_of (status f d) k
  unfolding status
  bit_kept c k l q f =
      let e = reported c v in
      let b = bits e d (is_not c v) in
      go b f
    where
      go : BitsKept (reported c v) d → (f : FanId) → bit_of (status f (reported c v ∷ d)) k ≡ bit_of (status f d) k
      go b One =
          rw (b.alarm One, b.fault One, b.high Remote1, b.low Remote1, b.therm Remote1, b.high Local, b.low Local)
          (but_fifth _ _ _ _ _ _ _ _ _ k l q)
      go b Two =
          rw (b.alarm Two, b.fault Two, b.high Remote2, b.low Remote2, b.therm Remote2, b.therm Local, b.pulled)
          (but_fifth _ _ _ _ _ _ _ _ _ k l q)

  -- a register that shows no error of the channel
  pub value_other :
      (c : ChannelId) (a : ℕ) → ((f : FanId) → eqb a (by_fan 0x02 0x03 f) ≡ true → c ≡ by_fan Remote1 Remote2 f → ⊥) →
      value a (reported c v ∷ d) ≡ value a d
  unfolding value byte_at
  value_other c a n =
      let e = reported c v in
      let u = settled e d (is_not c v) in
      rw (u.reading Local, u.reading Remote1, u.reading Remote2, byte_kept e d (is_not c v) a)
      (alike (exists_at a) (λ y. alike (eqb a 0x02) (λ z. same One z) (alike (eqb a 0x03) (λ z. same Two z) refl)) refl)
    where
      same : (f : FanId) → eqb a (by_fan 0x02 0x03 f) ≡ true → status f (reported c v ∷ d) ≡ status f d
      same f z = status_kept (reported c v) d (bits (reported c v) d (is_not c v)) f (error_other d c (by_fan Remote1 Remote2 f) v (n f z))

-- ---- a fan that the channel has no say in

-- two channels are the same or not
pub tell : {A : Type 0} (c x : ChannelId) → (c ≡ x → A) → ((c ≡ x → ⊥) → A) → A
tell c x alike other =
    let n : ChannelId → ℕ = by_channel 0 1 2 in
    by_cases (eqb (n c) (n x))
    (λ y. alike (same_channel c x (λ m. omega (arith, eqb-true (n c) (n x) y)) (λ m. omega (arith, eqb-true (n c) (n x) y))))
    (λ z. other (λ q. eqb-false (n c) (n x) z (ap n q)))

module _ (d : Taken) (c : ChannelId) (v : ℤ) (f : FanId) where
  abbrev assigned : ChannelId → Bool
  assigned x = assigned_by (assignment (stored_at config1 d)) f x

  -- what a channel asks stays where it is another one, or not assigned
  asks_same : assigned c ≡ false → (x : ChannelId) → demand_if (assigned x) (demand f x (reported c v ∷ d)) ≡ demand_if (assigned x) (demand f x d)
  asks_same n x =
      tell c x
      (λ q. rw (subst (λ (x : ChannelId). assigned x ≡ false) q n))
      (λ q. rw (demand_same (reported c v) d (settled (reported c v) d (is_not c v)) f x (error_other d c x v q)))

  aim_kept : (automatic (stored_at config1 d) && assigned c) ≡ false → target f (reported c v ∷ d) ≡ target f d
  unfolding target target_of
  aim_kept n =
      rw (byte_kept (reported c v) d (is_not c v) config1, byte_kept (reported c v) d (is_not c v) speeds)
      (by_cases (automatic (stored_at config1 d))
      (λ y. let off = rw y at n in rw (y, asks_same off Local, asks_same off Remote1, asks_same off Remote2))
      (λ z. rw z))

  pub kept_elsewhere : (automatic (stored_at config1 d) && assigned c) ≡ false → AimKept f (reported c v) d
  kept_elsewhere n = record { settled = settled (reported c v) d (is_not c v); aim = aim_kept n }
