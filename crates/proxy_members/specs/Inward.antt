-- The receiving end of a channel over a byte stream, on a worker.
use Rattle.std.specs.Prelude.{ℕ, ◌≡◌, ◌+◌, ◌<◌, ◌%◌, ◌^◌, IsTrue, Ok, Err}
use mathlib.Core.List.{IsPrefix}
use Rattle.cs_base.specs.Wires.{InSeen}
use Rattle.sb_frame.specs.declared.frame_bad.FrameBad.{FrameBad}
use Rattle.sb_frame.specs.Faults.{FirstFault}
use Rattle.tcp_proxy.specs.declared.hop.Hop.{Hop}
use Rattle.tcp_proxy.specs.declared.hop.ProxyBad.{ProxyBad}
use Rattle.tcp_proxy.specs.declared.hop.ProxyBad.TheVariants.{Frame}
use Rattle.tcp_proxy.specs.Receiving.{Carries, ArePushedFrom, IsToldIn, TurnedIn}
use Rattle.tcp_proxy.specs.Turns.{still_after}
use Rattle.worker_rounds.specs.declared.mesh_bad.MeshBad.{MeshBad}
use Rattle.worker_rounds.specs.declared.mesh_bad.MeshBad.TheVariants.{Lost, NoMemory}
use Rattle.proxy_members.specs.declared.in_member.InMember.{InMember}
use Rattle.proxy_members.specs.QueueEnds.{tx_kind, tx_stands, tx_pushes, tx_refuses}
use Rattle.proxy_members.specs.Faults.{fault_of}

-- what was put into the far queue is, with the message that is held, what the deframer of the kept
-- bytes has given, and these are what the wire tells that it gave
pub record InFits {I : Type 0} (seen : I → InSeen) (member : InMember I) : Type 0 where
  pub carries : Carries member.proxy.frames member.proxy.held member.proxy.kept
      member.far.seat.sent
  pub kind : member.far.seat.kind ≡ member.proxy.frames.place.kind
  pub told : IsToldIn seen member.proxy

-- what was put into the far queue is the beginning of the messages of the kept bytes, and these are
-- what the wire tells that it gave
pub record InHolds {I : Type 0} (seen : I → InSeen) (member : InMember I) : Type 0 where
  pub pushed : ArePushedFrom member.far.seat.kind member.proxy.kept member.far.seat.sent
  pub told : IsToldIn seen member.proxy

-- it made one turn
pub record InDid {I : Type 0} (seen : I → InSeen) (old new : InMember I) : Type 0 where
  pub channel : new.channel ≡ old.channel
  pub hop : Hop
  pub turned : TurnedIn seen tx_kind tx_stands tx_pushes tx_refuses old.proxy new.proxy old.far
      new.far (Ok hop)
  pub told : IsToldIn seen old.proxy → IsToldIn seen new.proxy
  pub turns : new.proxy.turns ≡ (old.proxy.turns + 1) % 2 ^ 64
  pub still : new.proxy.still ≡ still_after hop old.proxy.still

-- a turn met a fault, which the run is told with the number of the channel
pub record InFailed {I : Type 0} (seen : I → InSeen) (old : InMember I) (fault : MeshBad)
    (new : InMember I) : Type 0 where
  pub channel : new.channel ≡ old.channel
  pub bad : ProxyBad
  pub said : fault ≡ fault_of old.channel bad
  pub turned : TurnedIn seen tx_kind tx_stands tx_pushes tx_refuses old.proxy new.proxy old.far
      new.far (Err bad)
  pub told : IsToldIn seen old.proxy → IsToldIn seen new.proxy
  pub turns : new.proxy.turns ≡ (old.proxy.turns + 1) % 2 ^ 64

-- what turns leave: channel and queue are the same, and what was put in and what is kept went on
pub record InWent {I : Type 0} (old new : InMember I) : Type 0 where
  pub channel : new.channel ≡ old.channel
  pub queue : new.far.seat.queue ≡ old.far.seat.queue
  pub kind : new.far.seat.kind ≡ old.far.seat.kind
  pub pushed : IsPrefix old.far.seat.sent new.far.seat.sent
  pub kept : IsPrefix old.proxy.kept new.proxy.kept

-- the cause of a fault
pub data InSays {I : Type 0} (seen : I → InSeen) (member : InMember I) : MeshBad → Type 0 where
  its_wire_failed : 0 < (seen member.proxy.wire).faults
      → InSays seen member (Lost member.channel)
  its_wire_ended : IsTrue (seen member.proxy.wire).ended
      → InSays seen member (Lost member.channel)
  its_bytes_are_bad : (b : FrameBad) → FirstFault member.far.seat.kind member.proxy.kept b
      → InSays seen member (fault_of member.channel (Frame b))
  memory_was_wanting : InSays seen member NoMemory
