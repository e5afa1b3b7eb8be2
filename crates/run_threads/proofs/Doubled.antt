-- The queues of channels of which none goes by proxy.
use Rattle.std.proofs.Common.{◌≡◌, ℕ, zero, suc, ◌+◌, ◌<◌, List, [], ◌∷◌, ◌++◌, length, All, Some, refl, sym, ap, ◌∙◌, arith}
use Rattle.std.specs.Prelude.{slice_get, option_and_then}
use Rattle.std.specs.List.{flat_map}
use Rattle.std.proofs.lemmas.List.Elements.{All-head, All-tail}
use Rattle.cs_base.specs.declared.link.Link.{Link}
use Rattle.cs_base.specs.declared.port_kind.PortKind.{PortKind}
use Rattle.cs_base.specs.declared.port_kind.Via.TheVariants.{Queue as ByQueue}
use Rattle.cs_base.specs.Plan.{first_end, second_end}
use Rattle.mesh_core.specs.Start.{queue_to, queues_of, two_each}
use Rattle.slot_queue.specs.Ends.{Named, Sender, Receiver}
use Rattle.run_threads.specs.Queues.{AreNew}
use Rattle.run_threads.specs.Proxied.{as_often, queues_along, AreAllNew, others_of, queues_on, near_places, far_places, near_of, far_of}

two_along : (kinds : List (List PortKind)) (links : List Link) → All (λ (link : Link). link.via ≡ ByQueue) links → flat_map (queues_along kinds) links ≡ queues_of kinds links
unfolding two_each
two_along kinds [] all = refl
two_along kinds (link ∷ more) all = ap (λ v. (as_often v (queue_to kinds link.slots (second_end link)) ++ as_often v (queue_to kinds link.slots (first_end link))) ++ flat_map (queues_along kinds) more) (All-head (λ (x : Link). x.via ≡ ByQueue) link more all) ∙ ap (λ l. queue_to kinds link.slots (second_end link) ∷ (queue_to kinds link.slots (first_end link) ∷ l)) (two_along kinds more (All-tail (λ (x : Link). x.via ≡ ByQueue) link more all))

pub new_by_queues : (kinds : List (List PortKind)) (links : List Link) (queues : List Named) (producers : List Sender) (consumers : List Receiver) → All (λ (link : Link). link.via ≡ ByQueue) links → AreAllNew kinds links queues producers consumers → AreNew kinds links queues producers consumers
new_by_queues kinds links queues producers consumers all new = record { queues_are = new.queues_are ∙ two_along kinds links all; producers_are = new.sides.producers_are; consumers_are = new.sides.consumers_are }

-- THE PLACES OF QUEUES

-- how many queues are on a link by queue
two_on : (link : Link) → link.via ≡ ByQueue → queues_on link ≡ 2
two_on link is = ap (λ v. (others_of v + 1) + (others_of v + 1)) is

near_place : (at : ℕ) (links : List Link) → All (λ (link : Link). link.via ≡ ByQueue) links → (k : ℕ) → k < length links + length links → slice_get (near_places at links) k ≡ Some (at + k)
unfolding near_places
near_place at [] all k below = absurd (omega arith)
near_place at (link ∷ more) all zero below = ap Some (let same : at ≡ at + 0 = omega arith in same)
near_place at (link ∷ more) all (suc zero) below = ap (λ v. Some (at + (others_of v + 1))) (All-head (λ (x : Link). x.via ≡ ByQueue) link more all)
near_place at (link ∷ more) all (suc (suc k)) below = near_place (at + queues_on link) more (All-tail (λ (x : Link). x.via ≡ ByQueue) link more all) k (omega arith) ∙ ap Some (let two : queues_on link ≡ 2 = two_on link (All-head (λ (x : Link). x.via ≡ ByQueue) link more all) in omega arith)

far_place : (at : ℕ) (links : List Link) → All (λ (link : Link). link.via ≡ ByQueue) links → (k : ℕ) → k < length links + length links → slice_get (far_places at links) k ≡ Some (at + k)
unfolding far_places
far_place at [] all k below = absurd (omega arith)
far_place at (link ∷ more) all zero below = ap (λ v. Some (at + others_of v)) (All-head (λ (x : Link). x.via ≡ ByQueue) link more all)
far_place at (link ∷ more) all (suc zero) below = ap (λ v. Some (at + (others_of v + 1) + others_of v)) (All-head (λ (x : Link). x.via ≡ ByQueue) link more all) ∙ ap Some (let same : at + 1 + 0 ≡ at + 1 = omega arith in same)
far_place at (link ∷ more) all (suc (suc k)) below = far_place (at + queues_on link) more (All-tail (λ (x : Link). x.via ≡ ByQueue) link more all) k (omega arith) ∙ ap Some (let two : queues_on link ≡ 2 = two_on link (All-head (λ (x : Link). x.via ≡ ByQueue) link more all) in omega arith)

pub one_place : (links : List Link) (queues : List Named) → All (λ (link : Link). link.via ≡ ByQueue) links → (k : ℕ) → k < length links + length links → (near_of links queues k ≡ slice_get queues k) × (far_of links queues k ≡ slice_get queues k)
one_place links queues all k below = (ap (option_and_then (slice_get queues)) (near_place 0 links all k below) ∙ ap (slice_get queues) (let same : 0 + k ≡ k = omega arith in same), ap (option_and_then (slice_get queues)) (far_place 0 links all k below) ∙ ap (slice_get queues) (let same : 0 + k ≡ k = omega arith in same))
