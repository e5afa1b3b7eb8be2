-- The fault of a channel's end as that of a run.
use Rattle.std.specs.Prelude.{ℕ}
use Rattle.cs_base.specs.declared.peer_reason.PeerReason.TheVariants as reason
use Rattle.sb_frame.specs.declared.frame_bad.FrameBad.TheVariants as frame
use Rattle.tcp_proxy.specs.declared.hop.ProxyBad.{ProxyBad}
use Rattle.tcp_proxy.specs.declared.hop.ProxyBad.TheVariants as bad
use Rattle.worker_rounds.specs.declared.mesh_bad.MeshBad.{MeshBad}
use Rattle.worker_rounds.specs.declared.mesh_bad.MeshBad.TheVariants.{Lost, Peer, NoMemory}

-- a lost wire, or the first fault of the bytes that came, with the number of the channel; and want of memory
abbrev pub fault_of : ℕ → ProxyBad → MeshBad
fault_of channel bad.Lost = Lost channel
fault_of channel (bad.Frame (frame.Length offset)) = Peer channel offset reason.Length
fault_of channel (bad.Frame (frame.Message offset why)) = Peer channel offset reason.Message
fault_of channel (bad.Frame (frame.Falls offset)) = Peer channel offset reason.Falls
fault_of channel (bad.Frame (frame.Order offset)) = Peer channel offset reason.Order
fault_of channel (bad.Frame frame.NoMemory) = NoMemory
fault_of channel bad.NoMemory = NoMemory
