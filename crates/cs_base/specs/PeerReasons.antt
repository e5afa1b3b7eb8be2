-- How the faults of a peer are named.
use Rattle.std.specs.Prelude.{ℕ, List, codes}
use Rattle.cs_base.specs.declared.peer_reason.PeerReason.{PeerReason}
use Rattle.cs_base.specs.declared.peer_reason.PeerReason.TheVariants.{Length, Message, Falls, Order, Intro}

abbrev pub peer_reason_text : PeerReason → List ℕ
peer_reason_text Length = codes "length"
peer_reason_text Message = codes "message"
peer_reason_text Falls = codes "falls"
peer_reason_text Order = codes "order"
peer_reason_text Intro = codes "intro"
