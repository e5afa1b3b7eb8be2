use Rattle.std.proofs.Common.{◌++◌, ◌∷◌, [], ◌+◌, List, drop, ap, ap₂, ◌∙◌}
use Rattle.cs_base.specs.declared.link.Link.{Link}
use Rattle.cs_base.specs.declared.port_kind.PortKind.{PortKind}
use Rattle.cs_base.specs.Plan.{first_end, second_end}
use Rattle.mesh_channel.specs.declared.carrier.Carrier.{Carrier}
use Rattle.mesh_channel.specs.Carrier.{unused}
use Rattle.mesh_core.specs.Start.{carrier_to, carriers_of}
use Rattle.mesh_core.proofs.Built.{two_more, two_end}
use Rattle.mesh_core.proofs.build.carriers_of.Goals as goal

pub loop-link-preserved : goal.loop-link-preserved
loop-link-preserved c =
    ap (λ l. l ++ carriers_of c.args.kinds.now (drop (c.loop-link.link-index + 1) c.args.links.now)) (c.in_ok-push-2.ensures.items ∙ ap₂ (λ (l : List Carrier) (q : Carrier). l ++ q ∷ []) (c.in_ok-push.ensures.items ∙ ap (λ (q : Carrier). c.loop-link.carriers.items ++ q ∷ []) (c.in_ok-new.ensures ∙ ap (λ (k : PortKind). unused c.link-item.result.via k c.link-item.result.slots) c.kind_of-there.ensures)) (c.in_ok-new-2.ensures ∙ ap (λ (k : PortKind). unused c.link-item.result.via k c.link-item.result.slots) c.kind_of-back.ensures))
    ∙ two_more (λ (link : Link). carrier_to c.args.kinds.now link (second_end link)) (λ (link : Link). carrier_to c.args.kinds.now link (first_end link)) c.args.links.now c.loop-link.carriers.items _ c.loop-link.link-index c.link-item.result c.loop-link-test.true c.link-item.is c.loop-link.invariant

pub returns : goal.returns
returns c = two_end (λ (link : Link). carrier_to c.args.kinds.now link (second_end link)) (λ (link : Link). carrier_to c.args.kinds.now link (first_end link)) c.args.links.now c.loop-link.carriers.items _ c.loop-link.link-index c.loop-link-test.false c.loop-link.invariant
