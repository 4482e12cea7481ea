-- The report that stepping a keeper gives, entry by entry, and its length. Assumes nothing.
use Rattle.std.proofs.Common.{◌≡◌, ◌∙◌, ℕ, zero, suc, ◌+◌, ◌-◌, ◌*◌, ◌≤◌, List, [], ◌∷◌, ◌++◌, Bool, true, false, cond, leb, length}
use Rattle.std.proofs.Common.{Ok, Err, Result, refl, sym, ap, arith}
use mathlib.Core.List.{append-nil}
use native.Mathlib.Nat.{sub-zero}
use lib.ListN.{length-append}
use Rattle.event.specs.declared.Event.{Event}
use Rattle.trace.specs.Trace.{event_at}
use Rattle.trace.specs.declared.Misread.{Misread}
use Rattle.trace_reader.specs.Readings.{reading_then, readings_within, readings_from}
use Rattle.report.specs.Report.{entry_text, malformed_text}
use Rattle.keeper.specs.Keeping.{outcome_of}
use Rattle.keeper.specs.declared.Keeper.{Keeper}
use Rattle.keeper.specs.declared.Outcome.{Outcome}
use Rattle.keeper.specs.declared.Keeper.TheVariants.{Off}
use Rattle.player.specs.declared.entries.Entry.{Entry}
use Rattle.player.specs.Entries.{entry_bytes, report_by, entries_by}
use Rattle.player.specs.Played.{lines_by, played_from, played_of}

-- the lines of an outcome
abbrev pub entry_by : Outcome → List ℕ
entry_by o = entry_text o.answer o.shown

-- ---- the entries of a text give its report

played_within : (k : ℕ) (s : List ℕ) (at line : ℕ) (c : Keeper) → played_from k s at line c ≡ report_by (entries_by (readings_within k s at) line c)
unfolding played_from readings_within
played_within zero s at line c = refl
played_within (suc k) s at line c = go (leb (length s) at) (event_at s at) (λ next c'. played_within k s next (line + 4) c')
  where
    go : (t : Bool) (r : Result (Event × ℕ) Misread)
        → ((next : ℕ) (c' : Keeper) → played_from k s next (line + 4) c' ≡ report_by (entries_by (readings_within k s next) (line + 4) c'))
        → cond t [] (lines_by r line c (λ next c'. played_from k s next (line + 4) c'))
        ≡ report_by (entries_by (cond t [] (reading_then r (readings_within k s))) line c)
    go true r ih = refl
    go false (Ok (e, next)) ih = ap (λ (l : List ℕ). entry_by (outcome_of c e) ++ l) (ih next (outcome_of c e).keeper)
    go false (Err w) ih = sym (append-nil (malformed_text (line + w.line)))

played_read : (s : List ℕ) → report_by (entries_by (readings_from s 0) 1 Off) ≡ played_of s
unfolding played_of readings_from
played_read s = rw sub-zero (sym (played_within (length s) s 0 1 Off))

pub played_new : (s : List ℕ) {left : List (Result Event Misread)} {c : Keeper} → left ≡ readings_from s 0 → c ≡ Off
    → report_by (entries_by left 1 c) ≡ played_of s
played_new s q e = rw (q, e) (played_read s)

-- ---- how many there are: no more than bytes

short_within : (k : ℕ) (s : List ℕ) (at : ℕ) → length (readings_within k s at) ≤ k
unfolding readings_within
short_within zero s at = omega arith
short_within (suc k) s at = go (leb (length s) at) (event_at s at) (λ next. short_within k s next)
  where
    go : (t : Bool) (r : Result (Event × ℕ) Misread) → ((next : ℕ) → length (readings_within k s next) ≤ k)
        → length (cond t [] (reading_then r (readings_within k s))) ≤ suc k
    go true r ih = omega arith
    go false (Ok (e, next)) ih = let h = ih next in omega (arith, h)
    go false (Err w) ih = omega arith

readings_short : (s : List ℕ) → length (readings_from s 0) ≤ length s
unfolding readings_from
readings_short s = let h = short_within (length s - 0) s 0 in omega (arith, h)

pub short_new : (s : List ℕ) {left : List (Result Event Misread)} → left ≡ readings_from s 0 → length s ≤ 65536 → 1 + 4 * length left ≤ 262145
short_new s q h = rw q (omega (arith, h, readings_short s))

entries_length : (left : List (Result Event Misread)) (line : ℕ) (c : Keeper) → length (entries_by left line c) ≡ length left
entries_length [] line c = refl
entries_length (Ok e ∷ left) line c = let h = entries_length left (line + 4) (outcome_of c e).keeper in omega (arith, h)
entries_length (Err w ∷ left) line c = let h = entries_length left line c in omega (arith, h)

-- ---- the length, entry by entry: n is how long the report is before the entries that are left

pub record Measured (full : List ℕ) (n : ℕ) (left : List Entry) : Type 0 where
  pub counted : length full ≡ n + length (report_by left)
  pub bound : n + 68 * length left ≤ 4456448

pub measured_start : (left : List (Result Event Misread)) (line : ℕ) (c : Keeper) → line + 4 * length left ≤ 262145
    → {entries : List Entry} → entries ≡ entries_by left line c → Measured (report_by (entries_by left line c)) 0 entries
measured_start left line c h q =
    let n = ap length q ∙ entries_length left line c in
    record { counted = rw q (omega arith); bound = omega (arith, n, h) }

module _ {full : List ℕ} {n : ℕ} {left : List Entry} (m : Measured full n left) where
  pub measured_end : left ≡ [] → n ≡ length full
  measured_end q = let h = rw q at m.counted in omega (arith, h)

  module _ {entry : Entry} {more : List Entry} (q : left ≡ entry ∷ more) {w : ℕ} (e : (w ≡ length (entry_bytes entry)) × (w ≤ 68)) where
    pub measured_fits : n + w ≤ 4456448
    measured_fits = let h = rw q at m.bound in omega (arith, h, e.1)

    pub measured_more : Measured full (n + w) more
    measured_more =
        let b = rw q at m.bound in
        let h = rw q at m.counted in
        record { counted = omega (arith, h, e.0, length-append (entry_bytes entry) (report_by more)); bound = omega (arith, b, e.1) }
