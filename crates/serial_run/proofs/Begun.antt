-- A mesh that begins is one of its system.
use Rattle.std.proofs.Common.{◌≡◌, List, sym, subst}
use Rattle.std.specs.Prelude.{ℕ, All, map}
use Rattle.cs_base.specs.Plan.{IsPlan}
use Rattle.cs_base.specs.declared.link.Link.{Link}
use Rattle.cs_base.specs.declared.port_kind.PortKind.{PortKind}
use Rattle.device_api.specs.Behaviour.{Behaviour}
use Rattle.mesh_core.specs.Laws.{StartsStanding}
use Rattle.mesh_core.specs.MeshOf.{IsMeshOf}
use Rattle.mesh_core.specs.Start.{first_mesh}
use Rattle.mesh_core.specs.State.{State}

pub begun : {V : Type 0} (b : Behaviour V) (settled : V → ℕ → Type 0) → StartsStanding b settled → (starts : List V) (kinds : List (List PortKind)) (links : List Link) (end : ℕ) → map b.ports starts ≡ kinds → IsPlan end kinds links → All (λ (device : V). settled device 0) starts → (mesh : State V) → mesh ≡ first_mesh b starts links end → IsMeshOf b settled starts links end mesh
begun b settled law starts kinds links end matches plan at_start mesh is =
    subst (IsMeshOf b settled starts links end) (sym is) (law starts links end (subst (λ (kinds : List (List PortKind)). IsPlan end kinds links) (sym matches) plan) at_start)
