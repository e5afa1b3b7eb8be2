use Rattle.std.proofs.Common.{◌||◌, sym, ap, ◌∙◌, subst}
use Rattle.run_steps.specs.declared.step.Step.TheVariants.{Send}
use Rattle.mesh_core.specs.Walk.{Carries}
use Rattle.mesh_core.specs.declared.serial.Awake.TheVariants.{Everyone}
use Rattle.mesh_core.proofs.Walked.{carries, step_went, walk_mesh}
use Rattle.mesh_core.proofs.mesh.Mesh.carry_one.Goals as goal

pub pass_on-requires : goal.pass_on-requires
pass_on-requires g c = walk_mesh g.V.Device.behaviour g.V.Device.settled g.met.V.Device.lawful c.args.self.now c.send-sent.new.self _ c.requires (step_went g.V.Device.behaviour (Send c.args.channel) c.args.self.now c.send-sent.new.self c.send-sent.result c.send-sent.ensures).walk

pub poll-requires : goal.poll-requires
poll-requires g c = walk_mesh g.V.Device.behaviour g.V.Device.settled g.met.V.Device.lawful c.send-sent.new.self c.pass_on.new.self c.in_ok-passed.ensures.went.steps (walk_mesh g.V.Device.behaviour g.V.Device.settled g.met.V.Device.lawful c.args.self.now c.send-sent.new.self _ c.requires (step_went g.V.Device.behaviour (Send c.args.channel) c.args.self.now c.send-sent.new.self c.send-sent.result c.send-sent.ensures).walk) c.in_ok-passed.ensures.went.walk

pub returns : goal.returns
returns g c = subst (Carries g.V.Device.behaviour Everyone c.args.channel c.args.self.now c.poll.new.self) (sym (c.either.ensures ∙ ap (λ begun. begun || c.in_ok-got.got) c.either-begun.ensures)) (carries g.V.Device.behaviour Everyone c.args.channel c.args.self.now c.send-sent.new.self c.pass_on.new.self c.poll.new.self c.send-sent.result c.in_ok-passed.passed c.in_ok-got.got c.send-sent.ensures c.in_ok-passed.ensures c.in_ok-got.ensures)
