-- Document 02, T-01, over the accepted events: the reading that a sample makes, in eighths of a degree.
use Rattle.std.specs.Prelude.{ℕ, cond, ◌∷◌, ℤ, pos, negsuc, neg_ℤ, ◌+ℤ◌, ◌*ℤ◌}
use Rattle.std.specs.Int.Signed.{lt_z}
use Rattle.part.specs.declared.ChannelId.{ChannelId}
use Rattle.part.specs.declared.ChannelId.TheVariants.{Local, Remote1, Remote2}
use Rattle.event.specs.declared.Event.{Event}
use Rattle.rules.specs.Registers.{offset_at}
use Rattle.rules.specs.Fields.{offset_degrees, offset_subtracts}
use Rattle.rules.specs.Events.{val}
use Rattle.rules.specs.Stored.{Taken, stored_at}

-- the signed degrees of an offset register: sign and magnitude
abbrev pub offset_of : (byte : ℕ) → ℤ
offset_of byte = cond (offset_subtracts byte) (neg_ℤ (pos (offset_degrees byte))) (pos (offset_degrees byte))

-- held at a low and at a high end
abbrev pub clamped : (low high t : ℤ) → ℤ
clamped low high t = cond (lt_z t low) low (cond (lt_z high t) high t)

-- the highest reading; that of local is even
abbrev pub highest : ChannelId → ℤ
highest Local = pos 1022
highest Remote1 = pos 1023
highest Remote2 = pos 1023

-- the sample plus eight times the offset, held at -1024 below and at the highest above
unfoldable pub measured_z : ChannelId → (offset : ℕ) (sample : ℤ) → ℤ
measured_z c offset sample = clamped (negsuc 1023) (highest c) (sample +ℤ (pos 8 *ℤ offset_of offset))

-- the reading that the sample e makes, by the channel's offset register as it stands at it
abbrev pub measured : ChannelId → Event → Taken → ℤ
measured c e d = measured_z c (stored_at (offset_at c) (e ∷ d)) (val e)
