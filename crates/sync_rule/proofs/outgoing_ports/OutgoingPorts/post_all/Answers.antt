use Rattle.sync_rule.proofs.Posted.{posting_start, next_there, posting_more, posting_ends}
use Rattle.sync_rule.proofs.outgoing_ports.OutgoingPorts.post_all.Goals as goal

pub sends-init : goal.sends-init
sends-init c = posting_start c.args.t c.args.self.now c.args.sends.now c.reverse.new.self c.reverse.ensures c.requires.planned c.requires.there

pub post-requires-clause-there : goal.post-requires-clause-there
post-requires-clause-there c = next_there c.sends.invariant c.pop.new.self (c.in-Some.port, c.in-Some.body) c.in-Some.ensures.last

pub sends-preserved : goal.sends-preserved
sends-preserved c = posting_more c.sends.invariant c.pop.new.self (c.in-Some.port, c.in-Some.body) c.post.new.self c.in-Some.ensures.last c.in_ok-post.ensures

pub returns-clause-posted : goal.returns-clause-posted
returns-clause-posted c = posting_ends c.sends.invariant c.in_default.ensures.none
