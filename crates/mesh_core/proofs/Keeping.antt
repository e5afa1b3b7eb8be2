-- Whether a step is made or refused, it keeps a mesh one of its system.
use Rattle.std.proofs.Common.{ℕ, true, false, sym, subst}
use Rattle.device_api.specs.Behaviour.{Behaviour, IsLawful}
use Rattle.mesh_core.specs.Laws.{StepsKeepIt}
use Rattle.mesh_core.specs.MeshOf.{IsMeshOf}
use Rattle.mesh_core.proofs.Kept.{step_kept}

pub kept : {V : Type 0} (b : Behaviour V) (settled : V → ℕ → Type 0) → IsLawful b settled → StepsKeepIt b settled
kept b settled lawful starts links end old new step true of leads = step_kept b settled lawful starts links end old of step new leads
kept b settled lawful starts links end old new step false of refused = subst (IsMeshOf b settled starts links end) (sym refused.unchanged) of
