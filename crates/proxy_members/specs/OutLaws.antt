-- A turn keeps a sending end fit.
use Rattle.std.specs.Prelude.{ℕ, List}
use Rattle.std.proofs.Common.{◌++◌, refl, sym, subst}
use Rattle.cs_base.specs.Wires.{OutSeen}
use Rattle.sb_frame.specs.Frames.{AreFrames}
use Rattle.slot_queue.specs.declared.ends.RxEnd.{RxEnd}
use Rattle.tcp_proxy.specs.Sending.{Keeps, Takes}
use Rattle.proxy_members.specs.declared.out_member.OutMember.{OutMember}
use Rattle.proxy_members.specs.QueueEnds.{rx_kind, rx_stands, rx_pops, rx_empties}
use Rattle.proxy_members.specs.Outward.{OutFits, OutDid}

pub frames_on : (kept kept' : List ℕ) (near near' : RxEnd) → Takes rx_kind rx_stands rx_pops rx_empties kept near kept' near' → AreFrames near.seat.kind near.seat.received kept → AreFrames near'.seat.kind near'.seat.received kept'
frames_on kept kept' near near' t frames =
    let keeps : Keeps rx_kind rx_stands kept' near' (near.seat.received ++ t.messages) = t.on near.seat.received (record { frames = frames; port = refl }) in
    subst (λ l. AreFrames near'.seat.kind l kept') (sym keeps.port) keeps.frames

pub out_keeps : {O : Type 0} (seen : O → OutSeen) (old new : OutMember O) → OutDid seen old new → OutFits seen old → OutFits seen new
out_keeps seen old new did fits = record {
  frames = frames_on old.proxy.kept new.proxy.kept old.near new.near did.turned.takes fits.frames;
  told = did.told fits.told;
}
