use Rattle.std.proofs.Common.{sym, add-one}
use Rattle.switch_sim.proofs.LeastTrees.{at_root, is_inner, lowered, at_leaves, found, not_found}
use Rattle.switch_sim.proofs.least_tree.first_leaf.Goals as goal

pub returns-then-nodes-limit : goal.returns-then-nodes-limit
returns-then-nodes-limit c = sym (not_found c.args.nodes.now c.args.limit c.requires c.if-nodes-limit.true)

pub loop-level-init : goal.loop-level-init
loop-level-init c = at_root c.args.nodes.now c.args.limit c.if-nodes-limit.false

pub lower-node-requires-clause-above : goal.lower-node-requires-clause-above
lower-node-requires-clause-above c = (is_inner c.args.nodes.now c.args.limit c.loop-level._level c.loop-level.node c.loop-level-test.true c.loop-level.invariant).0

pub lower-node-requires-clause-inner : goal.lower-node-requires-clause-inner
lower-node-requires-clause-inner c = (is_inner c.args.nodes.now c.args.limit c.loop-level._level c.loop-level.node c.loop-level-test.true c.loop-level.invariant).1

pub lower-node-requires-clause-low : goal.lower-node-requires-clause-low
lower-node-requires-clause-low c = c.loop-level.invariant.low

pub loop-level-preserved : goal.loop-level-preserved
loop-level-preserved c = rw (add-one c.loop-level._level) (lowered c.args.nodes.now c.args.limit c.loop-level._level c.loop-level.node c.lower-node.result c.requires c.loop-level-test.true c.loop-level.invariant c.lower-node.ensures.first c.lower-node.ensures.low)

pub overflow_sub-result : goal.overflow_sub-result
overflow_sub-result c = (at_leaves c.args.nodes.now c.args.limit c.loop-level._level c.loop-level.node c.loop-level.auto._level-end c.loop-level-test.false c.loop-level.invariant).from

pub returns : goal.returns
returns c = sym (found c.args.nodes.now c.args.limit c.loop-level.node c.requires (at_leaves c.args.nodes.now c.args.limit c.loop-level._level c.loop-level.node c.loop-level.auto._level-end c.loop-level-test.false c.loop-level.invariant))
