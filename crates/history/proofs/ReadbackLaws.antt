-- Readings come back from the registers without loss. Assumes nothing.
use mathlib.Core.Path.{◌≡◌, subst}
use mathlib.Core.Bool.{true}
use mathlib.Core.List.{◌∷◌}
use lib.IntN.{ℤ}
use borrow.Author.Tests.{eqb-true}
use Rattle.integer.proofs.BoolLaws.{both}
use Rattle.part.specs.declared.ChannelId.{ChannelId}
use Rattle.part.specs.declared.ChannelId.TheVariants.{Local, Remote1, Remote2}
use Rattle.event.specs.Kinds.{is_kind, place_of, kind_of}
use Rattle.event.specs.declared.Event.{Event}
use Rattle.event.specs.declared.Kind.TheVariants as kind
use Rattle.rules.specs.Registers.{offset_at}
use Rattle.rules.specs.Events.{val, samples}
use Rattle.rules.specs.Stored.{stored_at}
use Rattle.rules.specs.Replies.{History, taken, accepted}
use Rattle.rules.specs.Offsets.{measured_z}
use Rattle.rules.specs.Temperatures.{temperature}
use Rattle.rules.proofs.TakenLaws.{took, accepted_is}
use Rattle.rules.proofs.QuietLaws.{uncounted}
use Rattle.rules.proofs.CalmLaws.{byte_same}
use Rattle.rules.proofs.ReadingLaws.{eighths, within, local_even, reads_back}
use Rattle.history.specs.Readback.{ReadsBack, Readback}

-- by the registers' own addresses
back : (c : ChannelId) (h : History) → ReadsBack c (temperature c (taken h)) h
back Local h = record { small = eighths Local (taken h); back = reads_back (took h) Local }
back Remote1 h = record { small = eighths Remote1 (taken h); back = reads_back (took h) Remote1 }
back Remote2 h = record { small = eighths Remote2 (taken h); back = reads_back (took h) Remote2 }

-- ---- an accepted sample

module _ (c : ChannelId) (e : Event) (y : samples c e ≡ true) where
  read_sample : (h : History) → accepted e h ≡ true → temperature c (taken (e ∷ h)) ≡ measured_z c (stored_at (offset_at c) (taken h)) (val e)
  unfolding temperature
  read_sample h go =
      let is = eqb-true (place_of (kind_of e)) 4 (both (is_kind kind.Sample e) _ y).0 in
      rw (accepted_is e h go, y, byte_same e (taken h) (rw is) (rw is) (offset_at c) (uncounted (offset_at c) e (rw is)), is)

pub readback : (h : History) → Readback h
readback h =
    record {
      within = λ c. within c (taken h);
      quarters = local_even (took h);
      reading = λ c. back c h;
      sampled = λ c e y go. subst (λ (t : ℤ). ReadsBack c t (e ∷ h)) (read_sample c e y h go) (back c (e ∷ h));
    }
