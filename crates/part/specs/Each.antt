-- What there is one of for each channel or fan.
use Rattle.part.specs.declared.ChannelId.{ChannelId}
use Rattle.part.specs.declared.ChannelId.TheVariants.{Local, Remote1, Remote2}
use Rattle.part.specs.declared.FanId.{FanId}
use Rattle.part.specs.declared.FanId.TheVariants.{One, Two}
use Rattle.part.specs.declared.PerChannel.{PerChannel}
use Rattle.part.specs.declared.PerFan.{PerFan}

-- a channel's
abbrev pub of_channel : {T : Type 0} → ChannelId → PerChannel T → T
of_channel Local p = p.local
of_channel Remote1 p = p.remote1
of_channel Remote2 p = p.remote2

-- for each channel what a function says
abbrev pub each_channel : {T : Type 0} → (ChannelId → T) → PerChannel T
each_channel f = record { local = f Local; remote1 = f Remote1; remote2 = f Remote2 }

-- each channel's, made another by a function
abbrev pub map_channels : {T U : Type 0} → (ChannelId → T → U) → PerChannel T → PerChannel U
map_channels f p = record { local = f Local p.local; remote1 = f Remote1 p.remote1; remote2 = f Remote2 p.remote2 }

-- a fan's
abbrev pub of_fan : {T : Type 0} → FanId → PerFan T → T
of_fan One p = p.one
of_fan Two p = p.two

-- for each fan what a function says
abbrev pub each_fan : {T : Type 0} → (FanId → T) → PerFan T
each_fan f = record { one = f One; two = f Two }

-- each fan's, made another by a function
abbrev pub map_fans : {T U : Type 0} → (FanId → T → U) → PerFan T → PerFan U
map_fans f p = record { one = f One p.one; two = f Two p.two }
