-- What is read of a text is the events of the whole text. Assumes nothing.
use Rattle.std.proofs.Common.{◌≡◌, ℕ, zero, suc, List, [], ◌∷◌, length, Bool, true, false, cond, leb, Ok, Err, Result, refl, sym}
use native.Mathlib.Nat.{sub-zero}
use Rattle.event.specs.declared.Event.{Event}
use Rattle.trace.specs.Trace.{event_at}
use Rattle.trace.specs.Whole.{Events, whole_by, events_from, events_of}
use Rattle.trace.specs.declared.Misread.{Misread}
use Rattle.trace_reader.specs.Readings.{reading_then, readings_within, readings_from, whole_as_read}

within : (k : ℕ) (s : List ℕ) (at : ℕ) (h : List Event) → events_from k s at h ≡ whole_as_read (readings_within k s at) h
unfolding events_from readings_within
within zero s at h = refl
within (suc k) s at h = go (leb (length s) at) (event_at s at) (λ next h'. within k s next h')
  where
    go : (t : Bool) (r : Result (Event × ℕ) Misread) → ((next : ℕ) (h' : List Event) → events_from k s next h' ≡ whole_as_read (readings_within k s next) h')
        → cond t (Events h) (whole_by r h (λ next h'. events_from k s next h')) ≡ whole_as_read (cond t [] (reading_then r (readings_within k s))) h
    go true r ih = refl
    go false (Ok (e, next)) ih = ih next (e ∷ h)
    go false (Err w) ih = refl

pub whole_read : (s : List ℕ) → whole_as_read (readings_from s 0) [] ≡ events_of s
unfolding events_of readings_from
whole_read s = rw sub-zero (sym (within (length s) s 0 []))
