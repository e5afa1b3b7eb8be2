-- A network whose components and links are a wiring, and its channels.
use Rattle.std.specs.Prelude.{ℕ, ◌≡◌, map, slice_get, Some}
use Rattle.cs_base.specs.declared.port_kind.PortKind.{PortKind}
use Rattle.cs_base.specs.Plan.{IsPlan}
use Rattle.sb_message.specs.declared.message.Body.{Body}
use Rattle.device_api.specs.Behaviour.{Behaviour, AreEvents}
use Rattle.device_api.specs.Channels.{Channel, channels}
use Rattle.device_api.specs.World.{Network}

-- the links of a network are a plan for its components' ports, in a run that ends at `end`
abbrev pub IsWired : {S : Type 0} → Network S → ℕ → Type 0
IsWired net end = IsPlan end (map net.behaviour.ports net.starts) net.links

-- a device sends events alone: no null message and no introduction
pub record SendsEvents {S : Type 0} (b : Behaviour S) : Type 0 where
  -- what it sends when it takes a body, in every state
  pub take_sends_events : (s : S) (t port : ℕ) (body : Body) → AreEvents (b.take s t port body).sends
  -- what it sends when it ticks, in every state
  pub tick_sends_events : (s : S) (t : ℕ) → AreEvents (b.tick s t).sends

-- a channel of the network, out of a port of this kind of the component that starts in s
pub record IsChannel {S : Type 0} (net : Network S) (ch : Channel) (s : S) (kind : PortKind) : Type 0 where
  -- its place among the channels
  pub number : ℕ
  pub at_number : slice_get (channels net.links) number ≡ Some ch
  -- the start state of the component that sends on it
  pub sender : slice_get net.starts ch.from.component ≡ Some s
  -- the port that sends on it
  pub sending_port : slice_get (net.behaviour.ports s) ch.from.port ≡ Some kind
