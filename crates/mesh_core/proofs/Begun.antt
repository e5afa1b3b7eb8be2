-- A mesh begins the global run, and where it has ended it is the global run.
use Rattle.std.proofs.Common.{◌≡◌, ℕ, List, Some, slice_get}
use Rattle.cs_base.specs.declared.link.Link.{Link}
use Rattle.cs_base.specs.declared.port_kind.PortKind.{PortKind}
use Rattle.device_api.specs.Behaviour.{Behaviour, IsLawful}
use Rattle.device_api.specs.Channels.{Channel}
use Rattle.device_api.specs.World.{global_until, log_of, sends_on}
use Rattle.device_api.specs.Transcript.{transcript}
use Rattle.global_model.specs.Step.{network}
use Rattle.run_laws.specs.LocalRuns.{IsPrefix}
use Rattle.run_laws.specs.Wired.{IsChannel, SendsEvents}
use Rattle.sync_rule.specs.declared.runner.Runner.{Runner}
use Rattle.sync_laws.specs.Whole.{HaveEnded}
use Rattle.sync_laws.proofs.Ahead.{only_events}
use Rattle.sync_laws.proofs.Begins.{log_begins, sent_begins, log_ends, sent_ends}
use Rattle.mesh_core.specs.State.{State}
use Rattle.mesh_core.specs.MeshOf.{IsMeshOf}
use Rattle.mesh_core.proofs.Ends.{IsStanding, standing}

module _ {V : Type 0} (b : Behaviour V) (settled : V → ℕ → Type 0) (lawful : IsLawful b settled) (starts : List V) (links : List Link) (end : ℕ) (mesh : State V) (of : IsMeshOf b settled starts links end mesh) where
  only : SendsEvents b
  only = only_events b settled lawful

  pub logs_begin : (c : ℕ) (r : Runner V) → slice_get mesh.runners c ≡ Some r → IsPrefix r.log (log_of c (global_until (network b starts links) end))
  logs_begin c r is = (let at : IsStanding b settled starts links end mesh of c r = standing b settled starts links end mesh of c r is in log_begins (network b starts links) settled end of.positions of.received of.sent of.held mesh.runners of.whole of.wired only c at.start r at.starts_so is)

  pub lists_begin : (ch : Channel) (s : V) (kind : PortKind) → IsChannel (network b starts links) ch s kind → IsPrefix (of.sent ch.from) (transcript kind ch (sends_on ch (global_until (network b starts links) end)) end)
  lists_begin ch s kind way = sent_begins (network b starts links) settled end of.positions of.received of.sent of.held mesh.runners of.whole of.wired only ch s kind way

  module _ (ended : HaveEnded b mesh.runners) where
    pub logs_are : (c : ℕ) (r : Runner V) → slice_get mesh.runners c ≡ Some r → r.log ≡ log_of c (global_until (network b starts links) end)
    logs_are c r is = (let at : IsStanding b settled starts links end mesh of c r = standing b settled starts links end mesh of c r is in log_ends (network b starts links) settled end of.positions of.received of.sent of.held mesh.runners of.whole of.wired only ended c at.start r at.starts_so is)

    pub lists_are : (ch : Channel) (s : V) (kind : PortKind) → IsChannel (network b starts links) ch s kind → of.sent ch.from ≡ transcript kind ch (sends_on ch (global_until (network b starts links) end)) end
    lists_are ch s kind way = sent_ends (network b starts links) settled end of.positions of.received of.sent of.held mesh.runners of.whole of.wired only ended ch s kind way
