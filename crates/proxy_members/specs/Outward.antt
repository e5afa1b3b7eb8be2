-- The sending end of a channel over a byte stream, on a worker.
use Rattle.std.specs.Prelude.{ℕ, ◌≡◌, ◌⊎◌, ◌+◌, ◌<◌, ◌%◌, ◌^◌, List, [], Ok, Err}
use mathlib.Core.List.{IsPrefix}
use Rattle.cs_base.specs.declared.port_kind.PortKind.{PortKind}
use Rattle.cs_base.specs.Wires.{OutSeen}
use Rattle.sb_message.specs.declared.message.Msg.{Msg}
use Rattle.sb_message.specs.Stream.{IsStream}
use Rattle.sb_frame.specs.Frames.{AreFrames}
use Rattle.tcp_proxy.specs.declared.hop.Hop.{Hop}
use Rattle.tcp_proxy.specs.declared.hop.ProxyBad.{ProxyBad}
use Rattle.tcp_proxy.specs.Sending.{IsToldOut, TurnedOut}
use Rattle.tcp_proxy.specs.Turns.{still_after}
use Rattle.worker_rounds.specs.declared.mesh_bad.MeshBad.{MeshBad}
use Rattle.worker_rounds.specs.declared.mesh_bad.MeshBad.TheVariants.{Lost, NoMemory}
use Rattle.proxy_members.specs.declared.out_member.OutMember.{OutMember}
use Rattle.proxy_members.specs.QueueEnds.{rx_kind, rx_stands, rx_pops, rx_empties}
use Rattle.proxy_members.specs.Faults.{fault_of}

-- the kept bytes are the frames of all that was taken out of the near queue, and what the wire
-- tells that it took is their front
pub record OutFits {O : Type 0} (seen : O → OutSeen) (member : OutMember O) : Type 0 where
  pub frames : AreFrames member.near.seat.kind member.near.seat.received member.proxy.kept
  pub told : IsToldOut seen member.proxy

-- it made one turn
pub record OutDid {O : Type 0} (seen : O → OutSeen) (old new : OutMember O) : Type 0 where
  pub channel : new.channel ≡ old.channel
  pub hop : Hop
  pub turned : TurnedOut seen rx_kind rx_stands rx_pops rx_empties old.proxy new.proxy old.near
      new.near (Ok hop)
  pub told : IsToldOut seen old.proxy → IsToldOut seen new.proxy
  pub turns : new.proxy.turns ≡ (old.proxy.turns + 1) % 2 ^ 64
  pub still : new.proxy.still ≡ still_after hop old.proxy.still

-- a turn met a fault, which the run is told with the number of the channel
pub record OutFailed {O : Type 0} (seen : O → OutSeen) (old : OutMember O) (fault : MeshBad)
    (new : OutMember O) : Type 0 where
  pub channel : new.channel ≡ old.channel
  pub bad : ProxyBad
  pub said : fault ≡ fault_of old.channel bad
  pub turned : TurnedOut seen rx_kind rx_stands rx_pops rx_empties old.proxy new.proxy old.near
      new.near (Err bad)
  pub told : IsToldOut seen old.proxy → IsToldOut seen new.proxy
  pub turns : new.proxy.turns ≡ (old.proxy.turns + 1) % 2 ^ 64

-- messages to a port of this kind: none, or a stream
abbrev pub IsBegun : PortKind → List Msg → Type 0
IsBegun kind messages = (messages ≡ []) ⊎ IsStream kind messages

-- what turns leave: channel and queue are the same, and what was taken out and what is kept went on, as a
-- stream if it was one
pub record OutWent {O : Type 0} (old new : OutMember O) : Type 0 where
  pub channel : new.channel ≡ old.channel
  pub queue : new.near.seat.queue ≡ old.near.seat.queue
  pub kind : new.near.seat.kind ≡ old.near.seat.kind
  pub popped : IsPrefix old.near.seat.received new.near.seat.received
  pub stream : IsBegun old.near.seat.kind old.near.seat.received
      → IsBegun new.near.seat.kind new.near.seat.received
  pub kept : IsPrefix old.proxy.kept new.proxy.kept

-- the cause of a fault
pub data OutSays {O : Type 0} (seen : O → OutSeen) (member : OutMember O) : MeshBad → Type 0 where
  its_wire_failed : 0 < (seen member.proxy.wire).faults
      → OutSays seen member (Lost member.channel)
  memory_was_wanting : OutSays seen member NoMemory
