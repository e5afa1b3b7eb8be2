use Rattle.std.proofs.Common.{◌/◌, ◌<◌, arith}
use Rattle.switch_sim.proofs.LeastTrees.{leaf_set, mended}
use Rattle.switch_sim.proofs.least_tree.set_leaf.Goals as goal

pub loop-node-init : goal.loop-node-init
loop-node-init c = record {
  node_from = omega arith;
  node_below = omega (arith, c.requires.place);
  mending = leaf_set c.args.nodes.now c.args.place c.args.value c.requires.tree c.requires.place;
}

pub loop-node-preserved : goal.loop-node-preserved
loop-node-preserved c =
    let more : 1 < c.loop-node.node = c.loop-node-test.true in
    let below : c.loop-node.node < 8192 = c.loop-node.invariant.node_below in
    record {
      node_from = omega (arith, more);
      node_below = omega (arith, below);
      mending = rw c.min.ensures (mended c.loop-node.nodes c.args.nodes.now c.args.place c.args.value (c.loop-node.node / 2) c.loop-node.invariant.mending (omega (arith, more)) (omega (arith, below)));
    }
