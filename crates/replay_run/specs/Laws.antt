-- What holds of replays.
use Rattle.std.specs.Prelude.{ℕ, ◌≡◌, List}
use Rattle.cs_base.specs.declared.link.Link.{Link}
use Rattle.device_api.specs.Behaviour.{Behaviour}
use Rattle.mesh_core.specs.State.{State}
use Rattle.mesh_core.specs.MeshOf.{IsMeshOf}
use Rattle.replay_run.specs.Replayed.{IsReplayed, IsFirstAtFault}

-- a schedule leads to one mesh, or has one first line at fault, and not both
pub record HasOneOutcome {V : Type 0} (b : Behaviour V) (schedule : List ℕ) (old : State V) : Type 0 where
  pub one_mesh : (new other : State V) → IsReplayed b schedule old new → IsReplayed b schedule old other → new ≡ other
  pub one_line : (n m : ℕ) → IsFirstAtFault b schedule old n → IsFirstAtFault b schedule old m → n ≡ m
  pub not_both : (new : State V) (n : ℕ) → IsReplayed b schedule old new → IsFirstAtFault b schedule old n → ⊥

abbrev pub ReplaysAgree : {V : Type 0} → Behaviour V → Type 0
ReplaysAgree {V} b = (schedule : List ℕ) (old : State V) → HasOneOutcome b schedule old

-- whatever system the mesh is of
abbrev pub ReplaysKeepIt : {V : Type 0} → Behaviour V → (V → ℕ → Type 0) → Type 0
ReplaysKeepIt {V} b settled = (schedule : List ℕ) (starts : List V) (links : List Link) (end : ℕ) (old new : State V) → IsMeshOf b settled starts links end old → IsReplayed b schedule old new → IsMeshOf b settled starts links end new
