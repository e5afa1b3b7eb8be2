use Rattle.switch_sim.proofs.Chained.{taken_out}
use Rattle.switch_sim.proofs.chains.Chains.unlink.Goals as goal

pub invariant_of-self : goal.invariant_of-self
invariant_of-self c = taken_out c.self.inside.links.items c.self.inside.buckets.items c.args.self.now c.args.place c.index.result.now c.link_to-link.result c.index-2.result.now c.self.view_is c.self.invariant c.requires.place c.requires.in_bucket c.index.ensures c.link_to-link.ensures c.index-2.ensures
