-- How many steps of a mesh are to come.
use Rattle.std.specs.Prelude.{ℕ, ◌≡◌, ◌+◌, ◌-◌, ◌↔◌, List, [], ◌∷◌, Option, Some, None, slice_get}
use Rattle.cs_base.specs.declared.link.Link.{Link}
use Rattle.device_api.specs.Behaviour.{Behaviour}
use Rattle.device_api.specs.Channels.{Channel, channels}
use Rattle.device_api.specs.GlobalCounts.{messages_of}
use Rattle.global_model.specs.Step.{network}
use Rattle.mesh_channel.specs.declared.carrier.Carrier.{Carrier}
use Rattle.mesh_channel.specs.Left.{work_of, left_between}
use Rattle.mesh_channel.specs.Standing.{IsIdle}
use Rattle.run_steps.specs.declared.step.Step.{Step}
use Rattle.sb_message.specs.declared.message.Msg.{Msg}
use Rattle.sync_laws.specs.ToCome.{total, left}
use Rattle.sync_laws.specs.Whole.{HaveEnded}
use Rattle.mesh_core.specs.State.{State}
use Rattle.mesh_core.specs.declared.way.Way.{Way}
use Rattle.mesh_core.specs.Steps.{IsLine, Leads, counted}
use Rattle.mesh_core.specs.MeshOf.{IsMeshOf}

-- what is to be done with some messages between the ends of a carrier
abbrev pub work_on : Carrier → List Msg → ℕ
work_on carrier [] = 0
work_on carrier (message ∷ more) = work_of carrier message + work_on carrier more

-- the steps between the ends of a channel that are to come: those of the messages that are to be sent, of which all are told,
-- and what is left of those that were sent and aren't received
abbrev pub work_to_come : Option Carrier → List Msg → List Msg → List Msg → ℕ
work_to_come None whole sent held = 0
work_to_come (Some carrier) whole sent held = (work_on carrier whole - work_on carrier sent) + left_between carrier held

-- what is left of the run that a mesh is in: each byte that moves is counted as one step
abbrev pub steps_to_come : {V : Type 0} {b : Behaviour V} {settled : V → ℕ → Type 0} {starts : List V} {links : List Link} {end : ℕ} {mesh : State V} → IsMeshOf b settled starts links end mesh → ℕ
steps_to_come {V} {b} {settled} {starts} {links} {end} {mesh} of = left (network b starts links) end of.positions of.received of.sent mesh.runners + total (λ k (ch : Channel). work_to_come (slice_get mesh.carriers k) (messages_of (network b starts links) end ch) (of.sent ch.from) (of.held ch.from)) (channels links)

-- a mesh of a system of which, after a step, as many less than n are to come as the step counts
pub record IsOneLess {V : Type 0} (b : Behaviour V) (settled : V → ℕ → Type 0) (starts : List V) (links : List Link) (end : ℕ) (n : ℕ) (step : Step) (mesh : State V) : Type 0 where
  pub of : IsMeshOf b settled starts links end mesh
  pub one_less : n ≡ steps_to_come of + counted step

-- a step that leads somewhere leads to such a mesh
abbrev pub StepsLowerIt : {V : Type 0} → Behaviour V → (V → ℕ → Type 0) → Type 0
StepsLowerIt {V} b settled = (starts : List V) (links : List Link) (end : ℕ) (old new : State V) (step : Step) → (of : IsMeshOf b settled starts links end old) → Leads b step old new → IsOneLess b settled starts links end (steps_to_come of) step new

-- all is processed and received: all components have ended, and on no channel anything is under way
pub record IsOver {V : Type 0} (b : Behaviour V) (mesh : State V) : Type 0 where
  pub ended : HaveEnded b mesh.runners
  pub received : (k : ℕ) (way : Way) (carrier : Carrier) → IsLine mesh k way carrier → IsIdle carrier

-- no step is to come exactly where all is processed and received
abbrev pub NoneIsToCome : {V : Type 0} → Behaviour V → (V → ℕ → Type 0) → Type 0
NoneIsToCome {V} b settled = (starts : List V) (links : List Link) (end : ℕ) (mesh : State V) → (of : IsMeshOf b settled starts links end mesh) → (steps_to_come of ≡ 0) ↔ IsOver b mesh

-- the number is one of the mesh alone: whatever it is taken for, the same is to come
abbrev pub IsOneNumber : {V : Type 0} → Behaviour V → (V → ℕ → Type 0) → Type 0
IsOneNumber {V} b settled = (mesh : State V) (starts others : List V) (links other_links : List Link) (end other_end : ℕ) → (of : IsMeshOf b settled starts links end mesh) (of' : IsMeshOf b settled others other_links other_end mesh) → steps_to_come of ≡ steps_to_come of'
