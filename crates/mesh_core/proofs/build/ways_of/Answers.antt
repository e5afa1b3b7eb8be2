use Rattle.std.proofs.Common.{◌++◌, ◌∷◌, [], ◌+◌, List, drop, ap, ap₂, ◌∙◌}
use Rattle.mesh_core.specs.declared.way.Way.{Way}
use Rattle.mesh_core.specs.Start.{two_each}
use Rattle.mesh_core.proofs.Built.{way_forth, way_back, ways_are, two_more, two_end}
use Rattle.mesh_core.proofs.build.ways_of.Goals as goal

pub loop-link-preserved : goal.loop-link-preserved
loop-link-preserved c = ap (λ l. l ++ two_each way_forth way_back (drop (c.loop-link.link-index + 1) c.args.links.now)) (c.in_ok-push-2.ensures.items ∙ ap₂ (λ (l : List Way) (w : Way). l ++ w ∷ []) (c.in_ok-push.ensures.items ∙ ap (λ (w : Way). c.loop-link.ways.items ++ w ∷ []) c.way.ensures) c.way-in-loop-link.ensures) ∙ two_more way_forth way_back c.args.links.now c.loop-link.ways.items _ c.loop-link.link-index c.link-item.result c.loop-link-test.true c.link-item.is c.loop-link.invariant

pub returns : goal.returns
returns c = two_end way_forth way_back c.args.links.now c.loop-link.ways.items _ c.loop-link.link-index c.loop-link-test.false c.loop-link.invariant ∙ ways_are c.args.links.now
