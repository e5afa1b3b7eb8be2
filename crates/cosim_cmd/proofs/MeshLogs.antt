-- The logs of a mesh of a topology's devices, however it was stepped: one for each component, of lines before the end.
use Rattle.std.proofs.Common.{ℕ, ◌≡◌, ◌<◌, ◌++◌, List, length, ◌∙◌, subst, get_or, arith}
use Rattle.std.proofs.lemmas.List.{length-append, length-map, get_or_append_left}
use Rattle.std.proofs.lemmas.List.Elements.{All-map}
use Rattle.std.proofs.lemmas.Option.{slice_get-get_or}
use Rattle.cs_base.specs.declared.link.Link.{Link}
use Rattle.device_api.specs.Behaviour.{Behaviour}
use Rattle.device_api.specs.declared.logs.Line.{Line}
use Rattle.device_api.specs.World.{log_of, global_until}
use Rattle.global_model.specs.Step.{network}
use Rattle.log_join.specs.Before.{IsBefore, AreBefore}
use Rattle.run_laws.specs.LocalRuns.{IsPrefix}
use Rattle.sync_rule.specs.declared.runner.Runner.{Runner}
use Rattle.mesh_core.specs.State.{State}
use Rattle.mesh_core.specs.MeshOf.{IsMeshOf}
use Rattle.mesh_core.specs.Laws.{LogsBegin}
use Rattle.mesh_core.specs.Left.{logs_left}
use Rattle.cosim_cmd.proofs.LogTimes.{log_of-before}

-- the first lines of a log
begun-before : (end : ℕ) (front rest : List Line) → IsBefore end (front ++ rest) → IsBefore end front
begun-before end front rest before =
    λ k d within. subst (λ (line : Line). line.at < end) (get_or_append_left front rest d k within) (before k d (omega (arith, within, length-append front rest)))

module _ {V : Type 0} (b : Behaviour V) (settled : V → ℕ → Type 0) (begin : LogsBegin b settled) (starts : List V) (links : List Link) (end : ℕ) (mesh : State V) (of : IsMeshOf b settled starts links end mesh) where
  pub logs_left-before : AreBefore end (logs_left mesh)
  logs_left-before =
      All-map (IsBefore end) (λ (r : Runner V). r.log) mesh.runners (λ c d within.
      let r = get_or mesh.runners c d in
      let prefix : IsPrefix r.log (log_of c (global_until (network b starts links) end)) = begin starts links end mesh of c r (slice_get-get_or mesh.runners c d within) in
      begun-before end r.log prefix.rest (subst (λ log. IsBefore end log) prefix.whole_is (log_of-before (network b starts links) end c)))

  pub length-logs_left : length (logs_left mesh) ≡ length starts
  length-logs_left = length-map mesh.runners (λ (r : Runner V). r.log) ∙ of.whole.as_many
