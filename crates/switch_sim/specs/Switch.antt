-- The learning switch (IEEE 802.1D): it learns at which port each station is from the sources of frames, and sends a
-- frame on by the port of its destination, or by all other ports.
use Rattle.std.specs.Prelude.{ℕ, ◌≤◌, ◌<◌, zero, suc, Bool, ◌&&◌, nat_lt, ◌==◌, ◌≡◌, true, false, List, [], ◌∷◌, ◌++◌, length, take, drop, replicate, slice_index, bytes_eq, codes, decimal, Option, Some, None, All, AllPairs, if◌then◌else◌}
use Rattle.cs_base.specs.declared.port_kind.PortKind.TheVariants.{Eth}
use Rattle.cs_base.specs.Names.{is_individual}
use Rattle.cs_base.specs.Texts.{mac_text}
use Rattle.sb_message.specs.declared.message.Body.{Body}
use Rattle.sb_message.specs.declared.message.Body.TheVariants as body
use Rattle.device_api.specs.Behaviour.{Reaction, Behaviour}
use Rattle.device_api.specs.World.{rest}
use Rattle.switch_sim.specs.declared.entry.Entry.{Entry}
use Rattle.switch_sim.specs.declared.relay.Relay.{Relay}
use Rattle.switch_sim.specs.declared.relay.Relay.TheVariants.{Filter, Flood, Forward}
use Rattle.switch_sim.specs.Table.{SwitchState, lookup, learn, is_news}

-- a frame begins with the addresses of its destination and of its source
abbrev pub destination : List ℕ → List ℕ
destination frame = take 6 frame

abbrev pub source : List ℕ → List ℕ
source frame = take 6 (drop 6 frame)

-- reserved addresses, 01:80:c2:00:00:00 to 01:80:c2:00:00:0f, are for bridges themselves (IEEE 802.1D, 7.12.6)
abbrev pub is_reserved : List ℕ → Bool
is_reserved mac = bytes_eq (take 5 mac) (0x01 ∷ (0x80 ∷ (0xc2 ∷ (0 ∷ (0 ∷ []))))) && nat_lt (slice_index mac 5) 16

-- towards a station: filtering, where it is at the port of arrival
abbrev pub towards : ℕ → Option ℕ → Relay
towards port None = Flood
towards port (Some q) = if q == port then Filter else Forward q

-- what becomes of a frame to an address that arrived at t on a port
abbrev pub relay : SwitchState → ℕ → ℕ → List ℕ → Relay
relay s t port to = if is_reserved to then Filter else if is_individual to then towards port (lookup s t to) else Flood

-- a frame sent by a port, but not by the port of its arrival
abbrev pub flood_by : List ℕ → ℕ → ℕ → List (ℕ × Body)
flood_by frame port q = if q == port then [] else (q, body.Eth frame) ∷ []

-- a frame sent by each of the ports below a number but that of its arrival, in order
unfoldable pub flood : List ℕ → ℕ → ℕ → List (ℕ × Body)
flood frame port zero = []
flood frame port (suc q) = flood frame port q ++ flood_by frame port q

-- what is sent, by the ports below a number
abbrev pub sends_of : ℕ → ℕ → List ℕ → Relay → List (ℕ × Body)
sends_of ports port frame Filter = []
sends_of ports port frame Flood = flood frame port ports
sends_of ports port frame (Forward q) = (q, body.Eth frame) ∷ []

-- what is logged of a frame's way, and of what was learned of its source
abbrev pub line_of : Relay → List ℕ
line_of Filter = codes "filter"
line_of Flood = codes "flood"
line_of (Forward q) = codes "forward " ++ decimal q

abbrev pub news_line : List ℕ → ℕ → List ℕ
news_line from port = codes "learn " ++ mac_text from ++ codes " " ++ decimal port

abbrev pub news_lines : Bool → List ℕ → ℕ → List (List ℕ)
news_lines news from port = if news then news_line from port ∷ [] else []

-- a frame from a source arrives: it is learned from, and then relayed
abbrev pub reaction_to : SwitchState → ℕ → ℕ → List ℕ → Reaction SwitchState
reaction_to s t port frame = let learned = learn s t (source frame) port in let way = relay learned t port (destination frame) in record { state = learned; sends = sends_of s.ports port frame way; lines = news_lines (is_news s t (source frame) port) (source frame) port ++ line_of way ∷ [] }

abbrev pub switch_take : SwitchState → ℕ → ℕ → Body → Reaction SwitchState
switch_take s t port (body.Eth frame) = reaction_to s t port frame
switch_take s t port other = rest s

-- all ports are for Ethernet, and the switch does nothing by itself
abbrev pub switch : Behaviour SwitchState
switch = record { ports = λ s. replicate s.ports Eth; due = λ s. None; take = switch_take; tick = λ s t. rest s }

-- the switch has at most 32 ports; its table is one of at most 4,096 individual addresses, each with one entry, and
-- each was seen before x at a port that exists
pub record IsSettledSwitch (s : SwitchState) (x : ℕ) : Type 0 where
  pub seen_before : All (λ (e : Entry). e.seen < x) s.entries
  pub ports_exist : All (λ (e : Entry). e.port < s.ports) s.entries
  pub individual : All (λ (e : Entry). is_individual e.mac ≡ true) s.entries
  pub one_each : AllPairs (λ (e other : Entry). bytes_eq e.mac other.mac ≡ false) s.entries
  pub few : length s.entries ≤ 4096
  pub few_ports : s.ports ≤ 32
