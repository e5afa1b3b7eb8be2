-- The beacon: a station that sends frames by itself at equal distances of time, and logs what it sends and receives.
use Rattle.std.specs.Prelude.{ℕ, ◌+◌, ◌-◌, ◌*◌, ◌^◌, ◌%◌, ◌≤◌, ◌<◌, nat_lt, List, [], ◌∷◌, ◌++◌, length, replicate, codes, decimal, Option, Some, None, if◌then◌else◌}
use Rattle.cs_base.specs.declared.beacon_config.BeaconConfig.{BeaconConfig}
use Rattle.cs_base.specs.declared.port_kind.PortKind.TheVariants.{Eth}
use Rattle.sb_message.specs.declared.message.Body.{Body}
use Rattle.sb_message.specs.declared.message.Body.TheVariants as body
use Rattle.device_api.specs.Behaviour.{Reaction, Behaviour}
use Rattle.device_api.specs.World.{rest}

-- what a beacon is told at its start, and how many frames it has sent
pub record BeaconState : Type 0 where
  pub first : ℕ
  pub period : ℕ
  pub count : ℕ
  pub size : ℕ
  pub to : List ℕ
  pub from : List ℕ
  pub sent : ℕ

-- a beacon at its start
abbrev pub started : BeaconConfig → BeaconState
started config = record { first = config.first; period = config.period; count = config.count; size = config.length; to = config.to; from = config.from; sent = 0 }

-- when frame k is sent: the first one at `first`, and each one a period after the one before
abbrev pub time_of : BeaconState → ℕ → ℕ
time_of s k = s.first + k * s.period

-- a beacon of a configuration has sent no more frames than it is to send, and the next one is due within 2 * 10^15
-- picoseconds
abbrev pub IsWithinRun : BeaconConfig → (sent : ℕ) → Type 0
IsWithinRun config sent = (sent ≤ config.count) × (config.first + sent * config.period ≤ 2 * 10 ^ 15)

-- frame k: destination and source address, the EtherType 0x88b5 (IEEE 802, for local experiments), and bytes
-- of the frame's number, modulo 256, up to the frame's size
abbrev pub frame_of : BeaconState → ℕ → List ℕ
frame_of s k = s.to ++ s.from ++ (0x88 ∷ (0xb5 ∷ [])) ++ replicate (s.size - 14) (k % 256)

-- the next frame's time, as long as there are frames to send
abbrev pub beacon_due : BeaconState → Option ℕ
beacon_due s = if nat_lt s.sent s.count then Some (time_of s s.sent) else None

-- a line of a word and a frame's length
abbrev pub size_line : (word : List ℕ) → ℕ → List ℕ
size_line word size = word ++ decimal size

-- each frame that arrives is logged with its length
abbrev pub beacon_take : BeaconState → Body → Reaction BeaconState
beacon_take s (body.Eth frame) = record { state = s; sends = []; lines = size_line (codes "rx ") (length frame) ∷ [] }
beacon_take s other = rest s

-- the next frame is sent and logged
abbrev pub beacon_tick : BeaconState → Reaction BeaconState
beacon_tick s = record { state = record s { sent = s.sent + 1 }; sends = (0, body.Eth (frame_of s s.sent)) ∷ []; lines = size_line (codes "tx ") s.size ∷ [] }

-- the beacon has one port, for Ethernet
abbrev pub beacon : Behaviour BeaconState
beacon = record { ports = λ s. Eth ∷ []; due = beacon_due; take = λ s t port arrived. beacon_take s arrived; tick = λ s t. beacon_tick s }

-- frames are sent at different times, and each frame that was sent was sent before x
pub record IsSettledBeacon (s : BeaconState) (x : ℕ) : Type 0 where
  pub apart : 1 ≤ s.period
  pub before : (k : ℕ) → k < s.sent → time_of s k < x
