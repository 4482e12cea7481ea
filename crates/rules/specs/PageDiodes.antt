-- The page, T-05 of document 02: a diode in error, of registers, outputs and events with their numbers.
use Rattle.std.specs.Prelude.{ℕ, ◌<◌, ◌≡◌, Bool, true, false, cond, ◌&&◌, [], ◌∷◌, eqb, ℤ, pos, Ok}
use Rattle.part.specs.declared.ChannelId.{ChannelId}
use Rattle.part.specs.declared.FanId.{FanId}
use Rattle.event.specs.declared.Event.{Event}
use Rattle.event.specs.declared.Event.TheVariants as event
use Rattle.event.specs.declared.Reason.{Reason}
use Rattle.event.specs.declared.Reason.TheVariants as reason
use Rattle.rules.specs.Replies.{History, taken, accepted}
use Rattle.rules.specs.PageWords.{sampled, reported, Accepted, register, bit, duty_out, by_channel, output_bit, filter_bit, error_status, is_assigned}
use Rattle.rules.specs.PageReplies.{same}
use Rattle.rules.specs.PageTemperatures.{latched}
use Rattle.rules.specs.PageDuties.{running, aim, clocks_left, eighths_read, demanded}
use Rattle.rules.specs.PageReasons.{told_of, in_order, below}

-- what an event says of the diode of a channel: power by its arg of remote 1, by its val of remote 2; `diode` by its val of the channel that is its who
unfoldable pub said_by : ChannelId → Event → (was : Bool) → Bool
said_by c (event.Power n) was = by_channel false (same n.arg (pos 1)) (same n.val (pos 1)) c
said_by c (event.Diode n) was = cond (same n.who (pos (by_channel 0 1 2 c))) (same n.val (pos 1)) was
said_by c (event.Bus t) was = was
said_by c (event.Sample n) was = was
said_by c (event.Tach n) was = was
said_by c (event.Pin n) was = was
said_by c (event.Clock n) was = was
said_by c (event.Period n) was = was
said_by c (event.Alert n) was = was

-- the error stands: the last accepted event that speaks of the diode says so
unfoldable pub stands : ChannelId → History → Bool
stands c [] = false
stands c (e ∷ h) = cond (accepted e h) (said_by c e (stands c h)) (stands c h)

pub record PageDiodes (h : History) : Type 0 where
  -- "bit 5 is 1 exactly while the error stands"; local has no such bit, and no error
  pub exactly : (c : ChannelId) → error_status c h ≡ stands c h
  -- "reports an error found or mended in service": that bit, no other of its register, and no other register
  pub found : (c : ChannelId) (n : ℕ) → Accepted (reported c (pos n)) h → error_status c (reported c (pos n) ∷ h) ≡ eqb n 1
  pub bits :
      (c : ChannelId) (n k : ℕ) → Accepted (reported c (pos n)) h → k < 8 → eqb k 5 ≡ false →
      bit (by_channel 0x02 0x02 0x03 c) k (reported c (pos n) ∷ h) ≡ bit (by_channel 0x02 0x02 0x03 c) k h
  pub registers :
      (c : ChannelId) (n a : ℕ) → Accepted (reported c (pos n)) h → eqb a (by_channel 0x02 0x02 0x03 c) ≡ false →
      register a (reported c (pos n) ∷ h) ≡ register a h
  -- "its demand on every fan it is assigned to is 240 and its run flag has no say": in automatic mode the target is 240,
  pub target : (f : FanId) (c : ChannelId) → error_status c h ≡ true → bit 0x00 7 h ≡ true → is_assigned f c h ≡ true → aim f h ≡ 240
  -- and an enabled fan without the filter is full, spinning up or not, overridden or not
  pub full :
      (f : FanId) (c : ChannelId) → error_status c h ≡ true → bit 0x00 7 h ≡ true → is_assigned f c h ≡ true →
      output_bit f h ≡ true → filter_bit f h ≡ false → duty_out f h ≡ 240
  -- a fan that is set by hand, or that the channel is not assigned to, is left as it was
  pub elsewhere :
      (f : FanId) (c : ChannelId) (n : ℕ) → Accepted (reported c (pos n)) h → (bit 0x00 7 h && is_assigned f c h) ≡ false →
      (aim f (reported c (pos n) ∷ h) ≡ aim f h) × (duty_out f (reported c (pos n) ∷ h) ≡ duty_out f h)
      × (clocks_left f (reported c (pos n) ∷ h) ≡ clocks_left f h)
  -- "Mending leaves the flag, the latch and the reading as they were": so does finding, and those of the other channels
  pub mended :
      (c x : ChannelId) (n : ℕ) → Accepted (reported c (pos n)) h →
      (running x (reported c (pos n) ∷ h) ≡ running x h) × (latched x (reported c (pos n) ∷ h) ≡ latched x h)
      × (eighths_read x (reported c (pos n) ∷ h) ≡ eighths_read x h)
  -- "13, after 9, for a sample of a channel in error" (PageReplies.samples): it is refused, and changes nothing
  pub unsampled : (c : ChannelId) (t : ℤ) → error_status c h ≡ true → (accepted (sampled c t) h ≡ false) × (taken (sampled c t ∷ h) ≡ taken h)
  -- T-03: where the reason is a demand, it is that of the channel, unless one of a lower number demands 240 too
  pub named :
      (f : FanId) (c : ChannelId) (r : Reason) → error_status c h ≡ true → is_assigned f c h ≡ true →
      ((other : ChannelId) → below other c → is_assigned f other h ≡ true → demanded f other h < 240) →
      told_of f h ≡ Ok r → in_order r ≡ 8 → r ≡ reason.Demand c
