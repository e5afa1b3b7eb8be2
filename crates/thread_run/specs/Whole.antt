-- What a run leaves of which links may go by proxy: its closed queues, and what the ends of its channels by
-- proxy tell.
use Rattle.std.specs.Prelude.{ℕ, ◌≡◌, ◌≤◌, ◌<◌, ◌⊎◌, ◌++◌, List, [], ◌∷◌, All, length, map, slice_get, Some, IfSome, IsTrue, sum_by}
use mathlib.Core.List.{IsPrefix}
use Rattle.cs_base.specs.declared.link.Link.{Link}
use Rattle.cs_base.specs.declared.peer_reason.PeerReason.TheVariants.{Intro}
use Rattle.cs_base.specs.declared.port_kind.PortKind.{PortKind}
use Rattle.cs_base.specs.declared.wire_end.WireEnd.{WireEnd}
use Rattle.cs_base.specs.Plan.{kind_at, partner}
use Rattle.cs_base.specs.Wires.{OutSeen, InSeen}
use Rattle.device_api.specs.Behaviour.{Behaviour}
use Rattle.device_api.specs.Channels.{Channel, channels}
use Rattle.device_api.specs.Transcript.{bound_of, introduction}
use Rattle.global_model.specs.Step.{network}
use Rattle.mesh_core.specs.Laws.{transcript_in_run}
use Rattle.proxy_members.specs.Differing.{AgreeBelow, IsFirstToDiffer}
use Rattle.proxy_members.specs.Faults.{fault_of}
use Rattle.run_laws.specs.Wired.{IsChannel}
use Rattle.sb_frame.specs.declared.frame_bad.FrameBad.{FrameBad}
use Rattle.sb_frame.specs.Faults.{FirstFault}
use Rattle.sb_frame.specs.Frames.{AreFrames}
use Rattle.sb_message.specs.declared.message.Msg.{Msg}
use Rattle.sb_message.specs.Stream.{IsStream}
use Rattle.slot_queue.specs.Closing.{Remains}
use Rattle.tcp_proxy.specs.declared.hop.ProxyBad.TheVariants.{Frame}
use Rattle.tcp_proxy.specs.Receiving.{ArePushedFrom}
use Rattle.worker_rounds.specs.declared.mesh_bad.MeshBad.{MeshBad}
use Rattle.worker_rounds.specs.declared.mesh_bad.MeshBad.TheVariants.{Lost, Peer, Differs, NoMemory}
use Rattle.run_threads.specs.Merging.{at_near, at_far}
use Rattle.run_threads.specs.Proxied.{proxied, queues_on}

-- one for each queue, in order: all that was sent into the near queue of each channel is the channel's
-- transcript in the global run of devices that start in these states, what was sent into its far queue is the
-- first part of that, and what was received from the far one reaches the end of the run. A channel by queue
-- has one queue, which is both
pub record AreWhole {V : Type 0} (b : Behaviour V) (starts : List V) (links : List Link) (end : ℕ)
    (rests : List Remains) : Type 0 where
  pub as_many : length rests ≡ sum_by queues_on links
  pub sent : (k : ℕ) (ch : Channel) (near : Remains) (start : V) (kind : PortKind)
      → slice_get (channels links) k ≡ Some ch → at_near links rests k ≡ Some near
      → IsChannel (network b starts links) ch start kind
      → near.sent ≡ transcript_in_run b starts links end ch kind
  pub went_on : (k : ℕ) (near far : Remains) → at_near links rests k ≡ Some near
      → at_far links rests k ≡ Some far → IsPrefix far.sent near.sent
  pub reached : (k : ℕ) (far : Remains) → at_far links rests k ≡ Some far
      → end ≤ bound_of far.received
  -- behind what was received of each queue stands what was left
  pub left : All (λ rest. rest.received ++ rest.messages ≡ rest.sent) rests

-- bytes are the frames of no message, or of a stream to a port of this kind that begins with a channel's
-- introduction, which names the kind of the port that sends: the partner's
pub record AreFramesOf (kind : PortKind) (ch : Channel) (bytes : List ℕ) : Type 0 where
  pub messages : List Msg
  pub frames : AreFrames kind messages bytes
  pub stream : (messages ≡ []) ⊎ IsStream kind messages
  pub introduced : (first : Msg) (more : List Msg) → messages ≡ first ∷ more
      → first ≡ introduction (partner kind) ch

-- what is left of a channel by proxy: the bytes that came are those that its wire tells that it gave, those
-- that its wire tells that it took are the beginning of those that were to go, and these are frames of the
-- channel's stream
pub record IsEndOf {O I : Type 0} (out : O → OutSeen) (wire : I → InSeen)
    (kinds : List (List PortKind)) (links : List Link) (end : WireEnd O I) : Type 0 where
  pub gave : IfSome (wire end.wire).given (λ bytes. bytes ≡ end.got)
  pub took : IfSome (out end.out).taken (λ bytes. IsPrefix bytes end.sent)
  pub frames : (ch : Channel) (kind : PortKind) → slice_get (channels links) end.channel ≡ Some ch
      → kind_at kinds ch.to ≡ Some kind → AreFramesOf kind ch end.sent

-- one for each channel by proxy, in order
pub record AreEndsOf {O I : Type 0} (out : O → OutSeen) (wire : I → InSeen)
    (kinds : List (List PortKind)) (links : List Link) (ends : List (WireEnd O I)) : Type 0 where
  pub in_order : map (λ (end : WireEnd O I). end.channel) ends ≡ proxied links
  pub each : All (IsEndOf out wire kinds links) ends

-- the bytes that were to go are the frames of what was received from each near queue, and what was sent into
-- each far one is the beginning of the messages of the bytes that came
pub record AreBetween {O I : Type 0} (kinds : List (List PortKind)) (links : List Link)
    (rests : List Remains) (ends : List (WireEnd O I)) : Type 0 where
  pub taken : (i : ℕ) (end : WireEnd O I) (near : Remains) (ch : Channel) (kind : PortKind)
      → slice_get ends i ≡ Some end → at_near links rests end.channel ≡ Some near
      → slice_get (channels links) end.channel ≡ Some ch → kind_at kinds ch.to ≡ Some kind
      → AreFrames kind near.received end.sent
  pub put : (i : ℕ) (end : WireEnd O I) (far : Remains) (ch : Channel) (kind : PortKind)
      → slice_get ends i ≡ Some end → at_far links rests end.channel ≡ Some far
      → slice_get (channels links) end.channel ≡ Some ch → kind_at kinds ch.to ≡ Some kind
      → ArePushedFrom kind end.got far.sent

-- ---- the cause of a fault

-- a wire of this channel failed, or its stream ended
pub record LosesWire {O I : Type 0} (out : O → OutSeen) (wire : I → InSeen)
    (ends : List (WireEnd O I)) (channel : ℕ) : Type 0 where
  pub place : ℕ
  pub end : WireEnd O I
  pub there : slice_get ends place ≡ Some end
  pub channel_is : end.channel ≡ channel
  pub lost : (0 < (out end.out).faults) ⊎ ((0 < (wire end.wire).faults)
      ⊎ IsTrue (wire end.wire).ended)

-- what is wrong with the bytes that came on a channel to a port of this kind
pub data IsBadFrom (kind : PortKind) (ch : Channel) (got : List ℕ) (channel : ℕ)
    : MeshBad → Type 0 where
  by_frame : (b : FrameBad) → FirstFault kind got b
      → IsBadFrom kind ch got channel (fault_of channel (Frame b))
  -- the first message is another than the channel's introduction
  by_introduction : (first : Msg) (more : List Msg) → ArePushedFrom kind got (first ∷ more)
      → (first ≡ introduction (partner kind) ch → ⊥) → IsBadFrom kind ch got channel (Peer channel 0 Intro)

-- the bytes that came on this channel have this fault, and aren't the beginning of those that were to go
pub record HasBadPeer {O I : Type 0} (kinds : List (List PortKind)) (links : List Link)
    (ends : List (WireEnd O I)) (channel : ℕ) (fault : MeshBad) : Type 0 where
  pub place : ℕ
  pub end : WireEnd O I
  pub there : slice_get ends place ≡ Some end
  pub channel_is : end.channel ≡ channel
  pub ch : Channel
  pub is_channel : slice_get (channels links) channel ≡ Some ch
  pub kind : PortKind
  pub its_kind : kind_at kinds ch.to ≡ Some kind
  pub bad : IsBadFrom kind ch end.got channel fault
  pub differs : IsPrefix end.got end.sent → ⊥

-- the cause of each fault of a run; want of memory has none
abbrev pub IsCause : {O I : Type 0} → (O → OutSeen) → (I → InSeen) → List (List PortKind)
    → List Link → List (WireEnd O I) → MeshBad → Type 0
IsCause out wire kinds links ends (Lost channel) = LosesWire out wire ends channel
IsCause out wire kinds links ends (Peer channel offset reason) = HasBadPeer kinds links ends channel
    (Peer channel offset reason)
IsCause out wire kinds links ends (Differs channel differ) = IsFirstToDiffer ends channel differ
    × AgreeBelow ends channel
IsCause out wire kinds links ends NoMemory = Unit {0}
