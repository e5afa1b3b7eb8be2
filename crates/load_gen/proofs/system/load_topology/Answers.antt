use Rattle.std.proofs.Common.{ap, ◌∙◌}
use Rattle.topology_file.specs.Ports.{kinds_of}
use Rattle.load_gen.proofs.Systems.{is_plan, is_topology}
use Rattle.load_gen.proofs.system.load_topology.Goals as goal

pub invariant_of-wiring : goal.invariant_of-wiring
invariant_of-wiring c = record {
  valid = is_plan c.args.n c.requires.least c.requires.most c.in_ok-components.components c.in_ok-kinds.kinds c.in_ok-links.links c.in_ok-components.ensures (c.in_ok-kinds.ensures ∙ ap kinds_of c.as_slice.ensures) c.in_ok-links.ensures;
}

pub invariant_of-result : goal.invariant_of-result
invariant_of-result c = record {
  valid = is_topology c.args.n c.requires.least c.requires.most c.in_ok-components.components c.in_ok-kinds.kinds c.in_ok-links.links c.in_ok-components.ensures (c.in_ok-kinds.ensures ∙ ap kinds_of c.as_slice.ensures) c.in_ok-links.ensures;
}
