use Rattle.std.proofs.Common.{map, sym, ap, ◌∙◌, subst}
use Rattle.std.specs.Prelude.{All}
use Rattle.std.proofs.lemmas.Result.{IfOk-weaker}
use Rattle.sync_rule.specs.declared.port_plan.PortPlan.{PortPlan}
use Rattle.sync_rule.specs.Ports.{IsPlanned}
use Rattle.sync_rule.specs.Steps.{started}
use Rattle.mesh_core.proofs.Runners.{kinds_kept, plans_are}
use Rattle.mesh_core.proofs.build.runner_of.Goals as goal

pub new-requires-clause-ports : goal.new-requires-clause-ports
new-requires-clause-ports g c = let are = plans_are c.args.kinds.now c.args.component c.args.links.now c.index-kinds-component.result c.as_slice.result.now (g.V.Device.behaviour.ports c.args.device) c.in_ok-plans.plans.items c.requires.within c.requires.there c.index-kinds-component.is c.as_slice.ensures c.in_ok-plans.ensures in ap (λ l. map (λ (plan : PortPlan). plan.kind) l) are ∙ kinds_kept c.args.links.now c.args.component 0 (g.V.Device.behaviour.ports c.args.device)

pub new-requires-clause-planned : goal.new-requires-clause-planned
new-requires-clause-planned g c = let are = plans_are c.args.kinds.now c.args.component c.args.links.now c.index-kinds-component.result c.as_slice.result.now (g.V.Device.behaviour.ports c.args.device) c.in_ok-plans.plans.items c.requires.within c.requires.there c.index-kinds-component.is c.as_slice.ensures c.in_ok-plans.ensures in subst (All IsPlanned) (sym are) c.requires.planned

pub returns : goal.returns
returns g c = let are = plans_are c.args.kinds.now c.args.component c.args.links.now c.index-kinds-component.result c.as_slice.result.now (g.V.Device.behaviour.ports c.args.device) c.in_ok-plans.plans.items c.requires.within c.requires.there c.index-kinds-component.is c.as_slice.ensures c.in_ok-plans.ensures in IfOk-weaker c.new.result _ _ (λ runner is. is ∙ ap (λ l. started c.args.device l c.args.end) are) c.new.ensures
