use Rattle.std.proofs.Common.{◌||◌, sym, ap, ◌∙◌, subst}
use Rattle.run_steps.specs.declared.step.Step.TheVariants.{Take}
use Rattle.mesh_core.specs.Walk.{PassesOn}
use Rattle.mesh_core.proofs.Walked.{passes_on, step_went, walk_mesh}
use Rattle.mesh_core.proofs.mesh.Mesh.pass_on.Goals as goal

pub move_all-requires : goal.move_all-requires
move_all-requires g c = walk_mesh g.V.Device.behaviour g.V.Device.settled g.met.V.Device.lawful c.args.self.now c.take.new.self _ c.requires (step_went g.V.Device.behaviour (Take c.args.channel) c.args.self.now c.take.new.self c.in_ok-taken.taken c.in_ok-taken.ensures).walk

pub put-placed-requires : goal.put-placed-requires
put-placed-requires g c = walk_mesh g.V.Device.behaviour g.V.Device.settled g.met.V.Device.lawful c.take.new.self c.move_all.new.self c.in_ok-moved.ensures.went.steps (walk_mesh g.V.Device.behaviour g.V.Device.settled g.met.V.Device.lawful c.args.self.now c.take.new.self _ c.requires (step_went g.V.Device.behaviour (Take c.args.channel) c.args.self.now c.take.new.self c.in_ok-taken.taken c.in_ok-taken.ensures).walk) c.in_ok-moved.ensures.went.walk

pub returns : goal.returns
returns g c = subst (PassesOn g.V.Device.behaviour c.args.channel c.args.self.now c.put-placed.new.self) (sym (c.either.ensures ∙ ap (λ begun. begun || c.put-placed.result) c.either-begun.ensures)) (passes_on g.V.Device.behaviour c.args.channel c.args.self.now c.take.new.self c.move_all.new.self c.put-placed.new.self c.in_ok-taken.taken c.in_ok-moved.moved c.put-placed.result c.in_ok-taken.ensures c.in_ok-moved.ensures c.put-placed.ensures)
