use Rattle.std.proofs.Common.{arith, refl}
use Rattle.moment_tree.proofs.Ways.{least_start, least_more, least_all}
use Rattle.moment_tree.proofs.keys.least_beside.Goals as goal

pub loop-node-init : goal.loop-node-init
loop-node-init c = least_start c.args.components c.args.keys.now c.args.component _ (omega arith) c.requires.within refl

pub loop-node-preserved : goal.loop-node-preserved
loop-node-preserved c = least_more c.args.components c.args.keys.now c.args.component c.loop-node.node c.loop-node.least c.beside.result _ c.requires.nodes c.loop-node.invariant (omega arith) c.beside.ensures c.min-least.ensures

pub returns-clause-another : goal.returns-clause-another
returns-clause-another c = c.loop-node.invariant.another

pub returns-clause-low : goal.returns-clause-low
returns-clause-low c = least_all c.args.components c.args.keys.now c.args.component c.loop-node.node c.loop-node.least c.loop-node.invariant (omega arith) (omega arith)
