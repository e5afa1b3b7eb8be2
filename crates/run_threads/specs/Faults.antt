-- What is known of the sides of the channels' queues after rounds, whether these met a fault or not.
use Rattle.std.specs.Prelude.{ℕ, ◌≡◌, List, [], ◌∷◌, slice_get, Some}
use Rattle.atomic_table.specs.Seated.{TableId}
use Rattle.cs_base.specs.declared.link.Link.{Link}
use Rattle.cs_base.specs.declared.peer_reason.PeerReason.TheVariants.{Intro}
use Rattle.cs_base.specs.declared.port_kind.PortKind.{PortKind}
use Rattle.sb_message.specs.declared.message.Msg.{Msg}
use Rattle.device_api.specs.Behaviour.{Behaviour}
use Rattle.device_api.specs.Channels.{Channel, channels}
use Rattle.device_api.specs.Transcript.{introduction}
use Rattle.global_model.specs.Step.{network}
use Rattle.run_laws.specs.Wired.{IsChannel}
use Rattle.slot_queue.specs.Ends.{Sender, Receiver}
use Rattle.worker_rounds.specs.Rounds.{Work}
use Rattle.worker_rounds.specs.declared.mesh_bad.MeshBad.{MeshBad}
use Rattle.worker_rounds.specs.declared.mesh_bad.MeshBad.TheVariants.{Peer, NoMemory}
use Rattle.run_threads.specs.declared.part.Part.{Part}
use Rattle.run_threads.specs.CrewOf.{sender_at, receiver_at, IsCrewOf}

-- what was sent on each channel is nothing, or begins with the channel's introduction
pub record AreIntroduced {V : Type 0} (b : Behaviour V) (starts : List V) (links : List Link)
    (workers : List (Work (Part V))) : Type 0 where
  pub each : (k : ℕ) (ch : Channel) (sender : Sender) (start : V) (kind : PortKind)
      → slice_get (channels links) k ≡ Some ch → sender_at workers ch.from ≡ Some sender
      → IsChannel (network b starts links) ch start kind
      → (first : Msg) (more : List Msg) → sender.sent ≡ first ∷ more → first ≡ introduction kind ch

-- on this channel one message was received, and it isn't the channel's introduction
pub record IsWronglyIntroduced {V : Type 0} (b : Behaviour V) (starts : List V) (links : List Link)
    (workers : List (Work (Part V))) (k : ℕ) : Type 0 where
  pub channel : Channel
  pub at_number : slice_get (channels links) k ≡ Some channel
  pub receiver : Receiver
  pub there : receiver_at workers channel.to ≡ Some receiver
  pub found : Msg
  pub received : receiver.received ≡ found ∷ []
  pub wrong : (start : V) (kind : PortKind) → IsChannel (network b starts links) channel start kind
      → found ≡ introduction kind channel → ⊥

-- the cause of a fault
pub data IsCause {V : Type 0} (b : Behaviour V) (starts : List V) (links : List Link)
    (workers : List (Work (Part V))) : MeshBad → Type 0 where
  no_memory : IsCause b starts links workers NoMemory
  wrong_introduction : (k : ℕ) → IsWronglyIntroduced b starts links workers k
      → IsCause b starts links workers (Peer k 0 Intro)

-- whatever system a crew was of
abbrev pub LeavesIntroductions : {V : Type 0} → Behaviour V → (V → ℕ → Type 0)
    → List (Work (Part V)) → List (Work (Part V)) → Type 0
LeavesIntroductions {V} b settled old new = (starts : List V) (links : List Link) (end : ℕ)
    (near far : List TableId) → IsCrewOf b settled starts links end near far old
    → AreIntroduced b starts links new

abbrev pub TellsCause : {V : Type 0} → Behaviour V → (V → ℕ → Type 0)
    → List (Work (Part V)) → List (Work (Part V)) → MeshBad → Type 0
TellsCause {V} b settled old new fault = (starts : List V) (links : List Link) (end : ℕ)
    (near far : List TableId) → IsCrewOf b settled starts links end near far old
    → IsCause b starts links new fault
