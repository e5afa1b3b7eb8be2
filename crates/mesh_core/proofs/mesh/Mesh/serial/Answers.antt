use Rattle.std.proofs.Common.{◌+◌, sym, ◌∙◌}
use Rattle.mesh_core.specs.Walk.Walk.{none_made}
use Rattle.mesh_core.proofs.Walked.{walk_mesh, walk_on}
use Rattle.mesh_core.proofs.Rounds.{fewer, then_those, ends_there}
use Rattle.mesh_core.proofs.mesh.Mesh.serial.Goals as goal

pub rounds-init : goal.rounds-init
rounds-init g c = record { steps = 0; walk = none_made; same = c.of-seen.ensures }

pub round-requires : goal.round-requires
round-requires g c = walk_mesh g.V.Device.behaviour g.V.Device.settled g.met.V.Device.lawful c.args.self.now c.rounds.self c.rounds.invariant.steps c.requires c.rounds.invariant.walk

pub of-seen-requires-then-woken : goal.of-seen-requires-then-woken
of-seen-requires-then-woken g c = walk_mesh g.V.Device.behaviour g.V.Device.settled g.met.V.Device.lawful c.rounds.self c.round.new.self c.in_ok-woken.ensures.went.steps (walk_mesh g.V.Device.behaviour g.V.Device.settled g.met.V.Device.lawful c.args.self.now c.rounds.self c.rounds.invariant.steps c.requires c.rounds.invariant.walk) c.in_ok-woken.ensures.went.walk

pub rounds-smaller-then-woken : goal.rounds-smaller-then-woken
rounds-smaller-then-woken g c = then_those _ _ _ (fewer g.V.Device.behaviour g.V.Device.settled g.met.V.Device.lawful c.rounds.seen.mesh.value c.rounds.self c.of-seen-then-woken.result.mesh.value c.round.new.self c.rounds.seen.known c.of-seen-then-woken.result.known c.rounds.invariant.same c.of-seen-then-woken.ensures (walk_mesh g.V.Device.behaviour g.V.Device.settled g.met.V.Device.lawful c.args.self.now c.rounds.self c.rounds.invariant.steps c.requires c.rounds.invariant.walk) c.in_ok-woken.woken.moved c.in_ok-woken.ensures.went c.if-woken.true)

pub rounds-preserved-then-woken : goal.rounds-preserved-then-woken
rounds-preserved-then-woken g c = record { steps = c.rounds.invariant.steps + c.in_ok-woken.ensures.went.steps; walk = walk_on g.V.Device.behaviour c.args.self.now c.rounds.self c.rounds.invariant.steps c.rounds.invariant.walk c.in_ok-woken.ensures.went.steps c.round.new.self c.in_ok-woken.ensures.went.walk; same = c.of-seen-then-woken.ensures }

pub returns-then-is_everyone : goal.returns-then-is_everyone
returns-then-is_everyone g c = ends_there g.V.Device.behaviour g.V.Device.settled g.met.V.Device.lawful c.args.self.now c.rounds.self c.round.new.self c.rounds.invariant.steps c.requires c.rounds.invariant.walk c.rounds.awake c.in_ok-woken.woken.moved c.in_ok-woken.ensures c.if-woken.false (sym c.is_everyone.ensures ∙ c.if-is_everyone.true)
