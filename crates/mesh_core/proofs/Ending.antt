-- Where all is processed and received, what was sent is what the global run has, and all of it was received.
use Rattle.std.proofs.Common.{◌≡◌, ℕ, List, [], Some, slice_get, sym, ap, ◌∙◌, append-nil}
use Rattle.std.proofs.lemmas.List.{append_cancel_left}
use Rattle.cs_base.specs.declared.link.Link.{Link}
use Rattle.device_api.specs.Behaviour.{Behaviour, IsLawful}
use Rattle.device_api.specs.Channels.{Channel, channels}
use Rattle.device_api.specs.GlobalCounts.{messages_of}
use Rattle.global_model.specs.Step.{network}
use Rattle.sync_laws.specs.Whole.{HaveEnded}
use Rattle.sync_laws.proofs.Begins.{sent_ends}
use Rattle.sync_laws.proofs.Changed.{get_mapped}
use Rattle.sync_laws.proofs.Fronts.{only, from, way, messages_are}
use Rattle.mesh_channel.proofs.Counted.{are_idle}
use Rattle.mesh_core.specs.State.{State, way_of}
use Rattle.mesh_core.specs.MeshOf.{HasCarrier, IsMeshOf}
use Rattle.mesh_core.specs.ToCome.{IsOver}

module _ {V : Type 0} (b : Behaviour V) (settled : V → ℕ → Type 0) (starts : List V) (links : List Link) (end : ℕ) (mesh : State V) (of : IsMeshOf b settled starts links end mesh) (over : IsOver b mesh) where
  pub received_all : (k : ℕ) (ch : Channel) → slice_get (channels links) k ≡ Some ch → of.held ch.from ≡ []
  received_all k ch is =
      let own : HasCarrier _ ch k (of.sent ch.from) (of.received ch.to) mesh.carriers = of.carriers k ch is in
      let idle = over.received k (way_of ch) own.carrier (record { leads = ap (λ ways. slice_get ways k) of.ways ∙ get_mapped way_of (channels links) k ch is; between = own.there }) in
      let all : of.sent ch.from ≡ of.received ch.to = (are_idle own.carrier (of.sent ch.from) (of.received ch.to) own.carries).0 idle in
      append_cancel_left (of.received ch.to) (of.held ch.from) [] (sym (of.whole.joined k ch is).between ∙ all ∙ sym (append-nil (of.received ch.to)))

module _ {V : Type 0} (b : Behaviour V) (settled : V → ℕ → Type 0) (lawful : IsLawful b settled) (starts : List V) (links : List Link) (end : ℕ) (mesh : State V) (of : IsMeshOf b settled starts links end mesh) (ended : HaveEnded b mesh.runners) where
  pub sent_whole : (k : ℕ) (ch : Channel) → slice_get (channels links) k ≡ Some ch → of.sent ch.from ≡ messages_of (network b starts links) end ch
  sent_whole k ch is =
      let port = from (network b starts links) settled end of.positions of.received of.sent of.held mesh.runners of.whole of.wired lawful k ch is in
      sent_ends (network b starts links) settled end of.positions of.received of.sent of.held mesh.runners of.whole of.wired (only (network b starts links) settled end of.positions of.received of.sent of.held mesh.runners of.whole of.wired lawful) ended ch port.start port.kind (way (network b starts links) settled end of.positions of.received of.sent of.held mesh.runners of.whole of.wired lawful k ch is)
      ∙ sym (messages_are (network b starts links) settled end of.positions of.received of.sent of.held mesh.runners of.whole of.wired lawful k ch is)
