-- That what came on channels is a beginning of what was sent, or the first at which it isn't.
use Rattle.std.specs.Prelude.{ℕ, ◌≡◌, List, Result, Ok, Err}
use Rattle.cs_base.specs.declared.wire_end.WireEnd.{WireEnd}
use Rattle.lane_kernels.specs.declared.differ.Differ.{Differ}
use Rattle.proxy_members.specs.Differing.{AllAgree, AgreeBelow, IsFirstToDiffer}
use Rattle.worker_rounds.specs.declared.mesh_bad.MeshBad.{MeshBad}
use Rattle.worker_rounds.specs.declared.mesh_bad.MeshBad.TheVariants.{Differs}

-- on this channel, the least such one, what came differs from what was sent
pub record IsLeastToDiffer {O I : Type 0} (ends : List (WireEnd O I)) (fault : MeshBad) : Type 0 where
  pub channel : ℕ
  pub differ : Differ
  pub fault_is : fault ≡ Differs channel differ
  pub differs : IsFirstToDiffer ends channel differ
  pub below : AgreeBelow ends channel

-- what it tells that the ends of channels were compared
abbrev pub EndsAgree : {O I T : Type 0} → List (WireEnd O I) → Result T MeshBad → Type 0
EndsAgree ends (Ok done) = AllAgree ends
EndsAgree ends (Err fault) = IsLeastToDiffer ends fault
