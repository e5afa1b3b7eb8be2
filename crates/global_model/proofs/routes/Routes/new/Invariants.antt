use Rattle.std.proofs.Common.{◌≡◌, ◌<◌, Some, length, map}
use Rattle.std.specs.Prelude.{IsSome}
use Rattle.cs_base.specs.Plan.{End, kind_at}
use Rattle.global_model.specs.Inboxes.{port_of}
use Rattle.global_model.specs.Routes.{route_from}
use Rattle.global_model.proofs.routes.Routes.new.Given as goal

abbrev pub invariant-loop-component : goal.invariant-loop-component
invariant-loop-component l = (length l.components.items ≡ l.component) × ((e : End) → e.component < l.component → IsSome (kind_at l.kinds e) → port_of (map (λ v. v.items) l.components.items) e ≡ Some (route_from l.links e))
