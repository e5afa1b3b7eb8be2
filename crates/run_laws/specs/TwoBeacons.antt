-- Two beacons at the ends of a link, and what of their runs is told.
use Rattle.std.specs.Prelude.{ℕ, ◌-◌, List, [], ◌∷◌, map, filter, codes}
use Rattle.cs_base.specs.declared.link.Link.{Link}
use Rattle.cs_base.specs.declared.port_kind.Via.TheVariants.{Queue}
use Rattle.sb_message.specs.declared.message.Msg.{Msg}
use Rattle.device_api.specs.declared.logs.Line.{Line}
use Rattle.device_api.specs.Beacon.{BeaconState, beacon}
use Rattle.device_api.specs.Channels.{Channel}
use Rattle.device_api.specs.Counts.{is_sync}
use Rattle.device_api.specs.World.{Network}

-- a beacon that sends so many broadcasts of 60 bytes
abbrev pub sender : ℕ → ℕ → ℕ → BeaconState
sender first period count = record { first = first; period = period; count = count; size = 60; to = 255 ∷ (255 ∷ (255 ∷ (255 ∷ (255 ∷ (255 ∷ []))))); from = 2 ∷ (0 ∷ (0 ∷ (0 ∷ (0 ∷ (1 ∷ []))))); sent = 0 }

abbrev pub link_of : ℕ → ℕ → Link
link_of latency interval = record { a = 0; a_port = 0; b = 1; b_port = 0; latency = latency; interval = interval; slots = 64; via = Queue }

abbrev pub two_beacons : BeaconState → BeaconState → ℕ → ℕ → Network BeaconState
two_beacons a b latency interval = record { behaviour = beacon; starts = a ∷ (b ∷ []); links = link_of latency interval ∷ [] }

-- the first sends two broadcasts, at 1000 and 2000, and the second none
abbrev pub broadcasts : ℕ → ℕ → Network BeaconState
broadcasts latency interval = two_beacons (sender 1000 1000 2) (sender 0 1 0) latency interval

-- the channel of the link to the second beacon, and the one back
abbrev pub there : ℕ → ℕ → Channel
there latency interval = record { from = record { component = 0; port = 0 }; to = record { component = 1; port = 0 }; latency = latency; interval = interval }

abbrev pub back : ℕ → ℕ → Channel
back latency interval = record { from = record { component = 1; port = 0 }; to = record { component = 0; port = 0 }; latency = latency; interval = interval }

-- a line of a log
abbrev pub sent_at_time : ℕ → Line
sent_at_time t = record { at = t; text = codes "tx 60" }

abbrev pub received_at_time : ℕ → Line
received_at_time t = record { at = t; text = codes "rx 60" }

-- the times at which null messages were sent on a channel
abbrev pub null_times : Channel → List Msg → List ℕ
null_times ch messages = map (λ m. m.at - ch.latency) (filter (λ m. is_sync m.body) messages)
