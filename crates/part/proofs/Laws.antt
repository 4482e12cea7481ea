-- What is known of each channel or fan is known of all of them. Assumes nothing.
use Rattle.std.proofs.Common.{◌≡◌, refl, sym}
use Rattle.part.specs.declared.ChannelId.{ChannelId}
use Rattle.part.specs.declared.ChannelId.TheVariants.{Local, Remote1, Remote2}
use Rattle.part.specs.declared.FanId.{FanId}
use Rattle.part.specs.declared.FanId.TheVariants.{One, Two}
use Rattle.part.specs.declared.PerChannel.{PerChannel}
use Rattle.part.specs.declared.PerFan.{PerFan}
use Rattle.part.specs.Each.{of_channel, each_channel, map_channels, of_fan, each_fan, map_fans}

-- one of what a function says, or has made
pub of_each_channel : {T : Type 0} (f : ChannelId → T) (c : ChannelId) → of_channel c (each_channel f) ≡ f c
of_each_channel f Local = refl
of_each_channel f Remote1 = refl
of_each_channel f Remote2 = refl

pub of_mapped_channels : {T U : Type 0} (f : ChannelId → T → U) (p : PerChannel T) (c : ChannelId) → of_channel c (map_channels f p) ≡ f c (of_channel c p)
of_mapped_channels f p Local = refl
of_mapped_channels f p Remote1 = refl
of_mapped_channels f p Remote2 = refl

pub of_each_fan : {T : Type 0} (g : FanId → T) (f : FanId) → of_fan f (each_fan g) ≡ g f
of_each_fan g One = refl
of_each_fan g Two = refl

pub of_mapped_fans : {T U : Type 0} (g : FanId → T → U) (p : PerFan T) (f : FanId) → of_fan f (map_fans g p) ≡ g f (of_fan f p)
of_mapped_fans g p One = refl
of_mapped_fans g p Two = refl

-- what a map of the code has made
pub channels_mapped : {T U : Type 0} (f : ChannelId → T → U) (p : PerChannel T) {r : PerChannel U}
    → r.local ≡ f Local p.local → r.remote1 ≡ f Remote1 p.remote1 → r.remote2 ≡ f Remote2 p.remote2 → r ≡ map_channels f p
channels_mapped f p e1 e2 e3 = rw (sym e1, sym e2, sym e3)

pub fans_mapped : {T U : Type 0} (f : FanId → T → U) (p : PerFan T) {r : PerFan U} → r.one ≡ f One p.one → r.two ≡ f Two p.two → r ≡ map_fans f p
fans_mapped f p e1 e2 = rw (sym e1, sym e2)
