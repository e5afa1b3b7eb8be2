-- The queue of a channel at its start, where no link goes by proxy.
use Rattle.std.proofs.Common.{◌≡◌, ℕ, zero, suc, List, [], ◌∷◌, map, Some, slice_get, ap}
use Rattle.std.proofs.lemmas.Option.{none-some, same_Some}
use Rattle.cs_base.specs.declared.link.Link.{Link}
use Rattle.cs_base.specs.declared.port_kind.PortKind.{PortKind}
use Rattle.cs_base.specs.Plan.{IsPlan, kind_at}
use Rattle.device_api.specs.Behaviour.{Behaviour}
use Rattle.device_api.specs.Channels.{Channel, channels}
use Rattle.global_model.specs.Step.{network}
use Rattle.port_queue.specs.Plain.{Plain}
use Rattle.run_laws.proofs.Channels.{channel_joined}
use Rattle.mesh_core.specs.Start.{two_each, queue_to, queues_of}
use Rattle.mesh_core.proofs.Started.{kind_there}

-- it is to a port of its kind
pub record HasQueue (kinds : List (List PortKind)) (links : List Link) (k : ℕ) (ch : Channel) : Type 0 where
  pub queue : Plain
  pub there : slice_get (queues_of kinds links) k ≡ Some queue
  pub kind : kind_at kinds ch.to ≡ Some queue.kind

slots_at : (kinds : List (List PortKind)) (links : List Link) (k : ℕ) (ch : Channel) → slice_get (channels links) k ≡ Some ch → (slots : ℕ) × (slice_get (queues_of kinds links) k ≡ Some (queue_to kinds slots ch.to))
unfolding two_each
slots_at kinds [] k ch is = absurd (none-some ch is)
slots_at kinds (link ∷ more) zero ch is = (link.slots, ap (λ (x : Channel). Some (queue_to kinds link.slots x.to)) (same_Some _ ch is))
slots_at kinds (link ∷ more) (suc zero) ch is = (link.slots, ap (λ (x : Channel). Some (queue_to kinds link.slots x.to)) (same_Some _ ch is))
slots_at kinds (link ∷ more) (suc (suc k)) ch is = slots_at kinds more k ch is

pub queue_at : {V : Type 0} (b : Behaviour V) (starts : List V) (links : List Link) (end : ℕ) → IsPlan end (map b.ports starts) links → (k : ℕ) (ch : Channel) → slice_get (channels links) k ≡ Some ch → HasQueue (map b.ports starts) links k ch
queue_at b starts links end wired k ch is =
    let slots = slots_at (map b.ports starts) links k ch is in
    record { queue = queue_to (map b.ports starts) slots.0 ch.to; there = slots.1; kind = kind_there (kind_at (map b.ports starts) ch.to) (channel_joined (network b starts links) wired k ch is).at_receiver }
