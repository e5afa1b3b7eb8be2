use Rattle.switch_sim.proofs.Chained.{put_in}
use Rattle.switch_sim.proofs.chains.Chains.link.Goals as goal

pub invariant_of-self : goal.invariant_of-self
invariant_of-self c = put_in c.self.inside.links.items c.self.inside.buckets.items c.args.self.now c.args.place c.args.bucket c.link_to-link.result c.index.result.now c.self.view_is c.self.invariant c.requires.place c.requires.bucket c.requires.in_none c.link_to-link.ensures c.index.ensures
