-- Demand 2, "Readings and register bytes turn into each other without loss", after every list of events.
use Rattle.std.specs.Prelude.{◌<◌, ◌≡◌, true, false, ◌∷◌, ℤ, pos, negsuc, ◌+ℤ◌, ◌*ℤ◌}
use Rattle.part.specs.declared.ChannelId.{ChannelId}
use Rattle.part.specs.declared.ChannelId.TheVariants.{Local}
use Rattle.event.specs.declared.Event.{Event}
use Rattle.rules.specs.Registers.{extended, value_at, offset_at}
use Rattle.rules.specs.Events.{val, from_to, lies, samples}
use Rattle.rules.specs.Stored.{stored_at}
use Rattle.rules.specs.Replies.{is_odd, History, taken, accepted}
use Rattle.rules.specs.Offsets.{highest, measured_z}
use Rattle.rules.specs.Temperatures.{degrees, temperature}
use Rattle.rules.specs.Shows.{value}
use Rattle.reading.specs.Reading.{remainder_in}

-- t is eight times the signed degrees of the channel's value register, and the remainder, 0 to 7, that 0x06 holds for it
pub record ReadsBack (c : ChannelId) (t : ℤ) (h : History) : Type 0 where
  pub small : remainder_in c (value extended (taken h)) < 8
  pub back : t ≡ (pos 8 *ℤ degrees (value (value_at c) (taken h))) +ℤ pos (remainder_in c (value extended (taken h)))

pub record Readback (h : History) : Type 0 where
  -- the reading that the rules work out: from -1024 to 1023, local to 1022 and in quarters of a degree
  pub within : (c : ChannelId) → lies (from_to (negsuc 1023) (highest c)) (temperature c (taken h)) ≡ true
  pub quarters : is_odd (temperature Local (taken h)) ≡ false
  pub reading : (c : ChannelId) → ReadsBack c (temperature c (taken h)) h
  -- and, after an accepted sample, the reading that it makes by the channel's offset register as it stands (T-01)
  pub sampled :
      (c : ChannelId) (e : Event) → samples c e ≡ true → accepted e h ≡ true → ReadsBack c (measured_z c (stored_at (offset_at c) (taken h)) (val e)) (e ∷ h)
