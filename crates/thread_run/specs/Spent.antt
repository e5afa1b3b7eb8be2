-- What a crew leaves that has run until all its components have ended or it met a fault.
use Rattle.std.specs.Prelude.{ℕ, ◌≡◌, List, [], ◌∷◌, map, slice_get, Some, All, Result, Ok, Err}
use Rattle.cs_base.specs.declared.link.Link.{Link}
use Rattle.cs_base.specs.declared.peer_reason.PeerReason.TheVariants.{Intro}
use Rattle.cs_base.specs.declared.port_kind.PortKind.{PortKind}
use Rattle.cs_base.specs.declared.wire_end.WireEnd.{WireEnd}
use Rattle.cs_base.specs.Wires.{OutSeen, InSeen}
use Rattle.device_api.specs.Behaviour.{Behaviour}
use Rattle.device_api.specs.Channels.{Channel, channels}
use Rattle.device_api.specs.Transcript.{introduction}
use Rattle.device_api.specs.declared.counts.Count.{Count}
use Rattle.device_api.specs.declared.logs.Line.{Line}
use Rattle.global_model.specs.Step.{network}
use Rattle.lane_kernels.specs.declared.differ.Differ.{Differ}
use Rattle.proxy_crew.specs.declared.proxied.Proxied.{Proxied}
use Rattle.proxy_crew.specs.Dialing.{route_of}
use Rattle.proxy_crew.specs.Ending.{end_of, near_side, far_side}
use Rattle.proxy_members.specs.Differing.{AllAgree, AgreeBelow, IsFirstToDiffer}
use Rattle.proxy_members.specs.Inward.{InSays}
use Rattle.proxy_members.specs.Outward.{OutSays}
use Rattle.run_laws.specs.Wired.{IsWired, IsChannel}
use Rattle.sb_message.specs.declared.message.Msg.{Msg}
use Rattle.slot_queue.specs.Ends.{Named, Sender, Receiver}
use Rattle.worker_rounds.specs.declared.mesh_bad.MeshBad.{MeshBad}
use Rattle.worker_rounds.specs.declared.mesh_bad.MeshBad.TheVariants.{Peer, Differs, NoMemory}
use Rattle.run_threads.specs.Leaving.{AreDelivered, LeavesGlobalRun}
use Rattle.run_threads.specs.Merging.{vias_of, with_behind, with_before}
use Rattle.run_threads.specs.Proxied.{near_names, far_names}
use Rattle.run_threads.specs.Routes.{routes_of}
use Rattle.run_threads.specs.Seating.{AreSeats}
use Rattle.run_threads.specs.Whole.{AreEndsAt, EndsHold}

-- on each channel, what was sent is nothing or begins with the channel's introduction
pub record IntroducedFirst {V : Type 0} (b : Behaviour V) (starts : List V) (links : List Link)
    (senders : List Sender) : Type 0 where
  pub each : (k : ℕ) (ch : Channel) (sender : Sender) (start : V) (kind : PortKind)
      → slice_get (channels links) k ≡ Some ch → slice_get senders k ≡ Some sender
      → IsChannel (network b starts links) ch start kind
      → (first : Msg) (more : List Msg) → sender.sent ≡ first ∷ more → first ≡ introduction kind ch

-- on this channel one message was received, and it isn't the channel's introduction
pub record CameWrong {V : Type 0} (b : Behaviour V) (starts : List V) (links : List Link)
    (receivers : List Receiver) (k : ℕ) : Type 0 where
  pub channel : Channel
  pub at_number : slice_get (channels links) k ≡ Some channel
  pub receiver : Receiver
  pub there : slice_get receivers k ≡ Some receiver
  pub found : Msg
  pub received : receiver.received ≡ found ∷ []
  pub wrong : (start : V) (kind : PortKind) → IsChannel (network b starts links) channel start kind
      → found ≡ introduction kind channel → ⊥

-- the cause of a fault
pub data IsSpentCause {V O I : Type 0} (b : Behaviour V) (out : O → OutSeen) (wire : I → InSeen)
    (starts : List V) (links : List Link) (receivers : List Receiver)
    (ends : List (Proxied O I)) : MeshBad → Type 0 where
  no_memory : IsSpentCause b out wire starts links receivers ends NoMemory
  wrong_introduction : (k : ℕ) → CameWrong b starts links receivers k
      → IsSpentCause b out wire starts links receivers ends (Peer k 0 Intro)
  by_sending : (fault : MeshBad) (i : ℕ) (one : Proxied O I) → slice_get ends i ≡ Some one
      → OutSays out one.sending fault → IsSpentCause b out wire starts links receivers ends fault
  by_receiving : (fault : MeshBad) (i : ℕ) (one : Proxied O I) → slice_get ends i ≡ Some one
      → InSays wire one.receiving fault → IsSpentCause b out wire starts links receivers ends fault
  by_difference : (channel : ℕ) (differ : Differ) → IsFirstToDiffer (map end_of ends) channel differ
      → AgreeBelow (map end_of ends) channel
      → IsSpentCause b out wire starts links receivers ends (Differs channel differ)

-- both sides of each queue, in the order of the queues, of which `senders` and `receivers` are those of the
-- components by channel; and both ends of each channel by proxy
pub record IsSpent {V O I T : Type 0} (b : Behaviour V) (out : O → OutSeen) (wire : I → InSeen)
    (starts : List V) (kinds : List (List PortKind)) (links : List Link) (end : ℕ)
    (queues : List Named) (ended : Result T MeshBad) (logs : List (List Line))
    (counts : List Count) (producers : List Sender) (consumers : List Receiver)
    (wire_ends : List (WireEnd O I)) : Type 0 where
  pub ends : List (Proxied O I)
  pub senders : List Sender
  pub receivers : List Receiver
  pub wired : IsWired (network b starts links) end
  pub seats : AreSeats links (near_names links queues) (far_names links queues) senders receivers
  pub ends_at : AreEndsAt links queues ends
  pub producers_are : producers ≡ with_behind (vias_of links) senders (map far_side ends)
  pub consumers_are : consumers ≡ with_before (vias_of links) receivers (map near_side ends)
  pub ends_are : wire_ends ≡ map end_of ends
  pub routes : map route_of ends ≡ routes_of kinds links
  pub hold : All (EndsHold out wire) ends
  pub introduced : IntroducedFirst b starts links senders
  -- where the channels delivered, an end without a fault leaves what the global run leaves
  pub leaves : (done : T) → ended ≡ Ok done → AreDelivered links senders receivers
      → LeavesGlobalRun b starts links end logs counts senders receivers
  pub agree : (done : T) → ended ≡ Ok done → AllAgree (map end_of ends)
  pub cause : (fault : MeshBad) → ended ≡ Err fault
      → IsSpentCause b out wire starts links receivers ends fault
