use Rattle.mesh_core.proofs.Walked.{walk_mesh, no_move, gone_on, carried_all}
use Rattle.mesh_core.proofs.Rounds.{fewer}
use Rattle.mesh_core.proofs.mesh.Mesh.carry_all.Goals as goal

pub messages-init : goal.messages-init
messages-init g c = record { went = no_move g.V.Device.behaviour c.args.self.now; same = c.of-seen.ensures }

pub carry_one-requires : goal.carry_one-requires
carry_one-requires g c = walk_mesh g.V.Device.behaviour g.V.Device.settled g.met.V.Device.lawful c.args.self.now c.messages.self c.messages.invariant.went.steps c.requires c.messages.invariant.went.walk

pub returns-then-not-more : goal.returns-then-not-more
returns-then-not-more g c = carried_all g.V.Device.behaviour c.args.channel c.args.self.now c.messages.self c.carry_one.new.self c.messages.moved c.in_ok-more.more c.messages.invariant.went c.in_ok-more.ensures c.if-not-more.true

pub of-seen-requires-in-messages : goal.of-seen-requires-in-messages
of-seen-requires-in-messages g c = walk_mesh g.V.Device.behaviour g.V.Device.settled g.met.V.Device.lawful c.messages.self c.carry_one.new.self c.in_ok-more.ensures.went.steps (walk_mesh g.V.Device.behaviour g.V.Device.settled g.met.V.Device.lawful c.args.self.now c.messages.self c.messages.invariant.went.steps c.requires c.messages.invariant.went.walk) c.in_ok-more.ensures.went.walk

pub messages-smaller : goal.messages-smaller
messages-smaller g c = fewer g.V.Device.behaviour g.V.Device.settled g.met.V.Device.lawful c.messages.seen.mesh.value c.messages.self c.of-seen-in-messages.result.mesh.value c.carry_one.new.self c.messages.seen.known c.of-seen-in-messages.result.known c.messages.invariant.same c.of-seen-in-messages.ensures (walk_mesh g.V.Device.behaviour g.V.Device.settled g.met.V.Device.lawful c.args.self.now c.messages.self c.messages.invariant.went.steps c.requires c.messages.invariant.went.walk) c.in_ok-more.more c.in_ok-more.ensures.went c.if-not-more.false

pub messages-preserved : goal.messages-preserved
messages-preserved g c = record { went = gone_on g.V.Device.behaviour c.args.self.now c.messages.self c.carry_one.new.self c.messages.moved c.in_ok-more.more c.messages.invariant.went c.in_ok-more.ensures.went c.if-not-more.false; same = c.of-seen-in-messages.ensures }
