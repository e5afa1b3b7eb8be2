-- A mesh of a system: its runners stand, and what carries its channels carries what was sent and received.
use Rattle.std.specs.Prelude.{ℕ, ◌≡◌, List, map, slice_get, Some}
use Rattle.cs_base.specs.declared.link.Link.{Link}
use Rattle.cs_base.specs.declared.port_kind.PortKind.{PortKind}
use Rattle.cs_base.specs.Plan.{End, kind_at}
use Rattle.sb_message.specs.declared.message.Msg.{Msg}
use Rattle.device_api.specs.Behaviour.{Behaviour}
use Rattle.device_api.specs.Channels.{Channel, channels}
use Rattle.device_api.specs.Position.{Position}
use Rattle.global_model.specs.Step.{network}
use Rattle.run_laws.specs.Wired.{IsWired}
use Rattle.sync_laws.specs.Whole.{IsWhole}
use Rattle.mesh_channel.specs.declared.carrier.Carrier.{Carrier}
use Rattle.mesh_channel.specs.Carrier.{kind_sent}
use Rattle.mesh_channel.specs.Standing.{Carries}
use Rattle.mesh_core.specs.State.{State, way_of}

-- what carries a channel carries what was sent and received on it, for the port at its end
pub record HasCarrier (kinds : List (List PortKind)) (ch : Channel) (k : ℕ) (sent received : List Msg) (carriers : List Carrier) : Type 0 where
  pub carrier : Carrier
  pub there : slice_get carriers k ≡ Some carrier
  pub carries : Carries carrier sent received
  pub kind : kind_at kinds ch.to ≡ Some (kind_sent carrier)

-- a mesh of devices that started in these states, joined by these links, in a run until `end`, wherever it stands
pub record IsMeshOf {V : Type 0} (b : Behaviour V) (settled : V → ℕ → Type 0) (starts : List V) (links : List Link) (end : ℕ) (mesh : State V) : Type 0 where
  pub wired : IsWired (network b starts links) end
  pub positions : ℕ → Position
  pub received : End → List Msg
  pub sent : End → List Msg
  pub held : End → List Msg
  pub whole : IsWhole (network b starts links) settled end positions received sent held mesh.runners
  pub ways : mesh.ways ≡ map way_of (channels links)
  pub carriers : (k : ℕ) (ch : Channel) → slice_get (channels links) k ≡ Some ch → HasCarrier (map b.ports starts) ch k (sent ch.from) (received ch.to) mesh.carriers

-- a mesh of some system of such devices
abbrev pub IsMesh : {V : Type 0} → Behaviour V → (V → ℕ → Type 0) → State V → Type 0
IsMesh {V} b settled mesh = (starts : List V) × (links : List Link) × (end : ℕ) × IsMeshOf b settled starts links end mesh
