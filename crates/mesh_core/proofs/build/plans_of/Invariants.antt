use Rattle.std.proofs.Common.{◌≡◌, ◌++◌, drop}
use Rattle.mesh_core.specs.Start.{numbered, plan_at}
use Rattle.mesh_core.proofs.build.plans_of.Given as goal

abbrev pub invariant-loop-port : goal.invariant-loop-port
invariant-loop-port l = l.plans.items ++ numbered (plan_at l.links l.component) l.port (drop l.port l.kinds) ≡ numbered (plan_at l.links l.component) 0 l.kinds
