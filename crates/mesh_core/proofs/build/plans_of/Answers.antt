use Rattle.std.proofs.Common.{◌++◌, ◌∷◌, [], ◌+◌, drop, ap, ◌∙◌}
use Rattle.cs_base.specs.declared.port_kind.PortKind.TheVariants.{Eth}
use Rattle.sync_rule.specs.declared.port_plan.PortPlan.{PortPlan}
use Rattle.mesh_core.specs.Start.{numbered, plan_at}
use Rattle.mesh_core.proofs.Built.{numbered_more, numbered_ends}
use Rattle.mesh_core.proofs.build.plans_of.Goals as goal

pub loop-port-preserved : goal.loop-port-preserved
loop-port-preserved c = ap (λ l. l ++ numbered (plan_at c.args.links.now c.args.component) (c.loop-port.port + 1) (drop (c.loop-port.port + 1) c.args.kinds.now)) (c.in_ok-push.ensures.items ∙ ap (λ (p : PortPlan). c.loop-port.plans.items ++ p ∷ []) c.plan_of.ensures) ∙ numbered_more (plan_at c.args.links.now c.args.component) c.args.kinds.now c.loop-port.plans.items _ c.loop-port.port Eth c.loop-port-test.true c.loop-port.invariant

pub returns : goal.returns
returns c = numbered_ends (plan_at c.args.links.now c.args.component) c.args.kinds.now c.loop-port.plans.items _ c.loop-port.port c.loop-port-test.false c.loop-port.invariant
