-- What a crew is made from.
use Rattle.std.proofs.Common.{◌≡◌, ℕ, suc, ◌≤◌, List, [], ◌∷◌, length, map, All, Option, Some, refl, sym, ap, ◌∙◌, subst, arith}
use Rattle.std.specs.Prelude.{slice_get}
use Rattle.cs_base.specs.declared.link.Link.{Link}
use Rattle.cs_base.specs.declared.port_kind.PortKind.{PortKind}
use Rattle.cs_base.specs.Plan.{IsPlan}
use Rattle.device_api.specs.Behaviour.{Behaviour}
use Rattle.device_api.specs.Channels.{Channel, channels}
use Rattle.mesh_core.specs.declared.way.Seat.{Seat}
use Rattle.mesh_core.specs.declared.way.Way.{Way}
use Rattle.mesh_core.specs.Start.{numbered, first_runner, first_runners, queues_of}
use Rattle.mesh_core.specs.State.{seat_of, way_of}
use Rattle.slot_queue.specs.Ends.{Named, Sender, Receiver}
use Rattle.sync_laws.proofs.Changed.{map_mapped}
use Rattle.sync_rule.specs.declared.runner.Runner.{Runner}
use Rattle.worker_rounds.specs.Rounds.{Work}
use Rattle.run_threads.specs.Building.{starts_of}
use Rattle.run_threads.specs.Dealing.{AreDealt, AreIdle, AreNumbered}
use Rattle.run_threads.specs.Queues.{as_empty, its_sender, its_receiver}
use Rattle.run_threads.specs.Stock.{HaveSides, froms_of, tos_of}
use Rattle.run_threads.proofs.Placed.{first_sides}

-- the ports of the channels
module _ (links : List Link) (ways : List Way) (ways_are : ways ≡ map way_of (channels links)) (seats : List Seat) where
  pub froms_are : seats ≡ map (λ (way : Way). way.from) ways → seats ≡ froms_of links
  froms_are are = are ∙ ap (map (λ (way : Way). way.from)) ways_are ∙ map_mapped (λ (way : Way). way.from) way_of (λ (ch : Channel). seat_of ch.from) (channels links) (λ ch. refl)

  pub tos_are : seats ≡ map (λ (way : Way). way.to) ways → seats ≡ tos_of links
  tos_are are = are ∙ ap (map (λ (way : Way). way.to)) ways_are ∙ map_mapped (λ (way : Way). way.to) way_of (λ (ch : Channel). seat_of ch.to) (channels links) (λ ch. refl)

-- workers without members
pub none_dealt : {M : Type 0} (count : ℕ) (workers : List (Work M)) → 1 ≤ count → AreIdle count workers → AreDealt workers []
none_dealt count workers some idle = record {
  some_worker = (let many : length workers ≡ count = idle.as_many in omega arith);
  dealt = λ w k worker at. ap (λ o. slice_get o.members k) (idle.each w worker at);
  no_fault = λ w worker at. ap (λ o. o.fault) (idle.each w worker at);
}

pub are_numbered : {M : Type 0} (count : ℕ) (workers : List (Work M)) → AreIdle count workers → AreNumbered workers
are_numbered count workers idle = record { each = λ w worker at. ap (λ o. o.number) (idle.each w worker at) }

-- the runners of devices at their start
starts_numbered : {V : Type 0} (b : Behaviour V) (links : List Link) (end n : ℕ) (devices : List V) → starts_of (numbered (first_runner b links end) n devices) ≡ devices
unfolding numbered
starts_numbered b links end n [] = refl
starts_numbered b links end n (device ∷ more) = ap (λ l. device ∷ l) (starts_numbered b links end (suc n) more)

module _ {V : Type 0} (b : Behaviour V) (settled : V → ℕ → Type 0) (links : List Link) (end : ℕ) (devices : List V) (runners : List (Runner V)) (are : runners ≡ first_runners b links end devices) where
  pub starts_are : starts_of runners ≡ devices
  starts_are = ap starts_of are ∙ starts_numbered b links end 0 devices

  pub are_first : runners ≡ first_runners b links end (starts_of runners)
  are_first = are ∙ ap (first_runners b links end) (sym starts_are)

  module _ (kinds : List (List PortKind)) (matches : map b.ports devices ≡ kinds) (at_start : All (λ (device : V). settled device 0) devices) where
    pub matches_so : map b.ports (starts_of runners) ≡ kinds
    matches_so = ap (map b.ports) starts_are ∙ matches

    pub at_start_so : All (λ (device : V). settled device 0) (starts_of runners)
    at_start_so = subst (All (λ (device : V). settled device 0)) (sym starts_are) at_start

-- the sides of all channels' queues in slots
module _ {V : Type 0} (b : Behaviour V) (devices : List V) (kinds : List (List PortKind)) (links : List Link) (end : ℕ) (wired : IsPlan end kinds links) (matches : map b.ports devices ≡ kinds) (queues : List Named) (queues_are : map as_empty queues ≡ queues_of kinds links) where
  wired_so : IsPlan end (map b.ports devices) links
  wired_so = subst (λ k. IsPlan end k links) (sym matches) wired

  queues_so : map as_empty queues ≡ queues_of (map b.ports devices) links
  queues_so = queues_are ∙ ap (λ k. queues_of k links) (sym matches)

  pub senders_there : (producers : List Sender) → producers ≡ map its_sender queues → (froms : List Seat) → froms ≡ froms_of links → (slots : List (Option Sender)) → slots ≡ map Some producers → HaveSides its_sender queues froms slots 0
  senders_there producers producers_are froms froms_so slots are = subst (λ seats. HaveSides its_sender queues seats slots 0) (sym froms_so) (first_sides b devices links end wired_so queues queues_so its_sender (λ ch. ch.from) producers slots producers_are are)

  pub receivers_there : (consumers : List Receiver) → consumers ≡ map its_receiver queues → (tos : List Seat) → tos ≡ tos_of links → (slots : List (Option Receiver)) → slots ≡ map Some consumers → HaveSides its_receiver queues tos slots 0
  receivers_there consumers consumers_are tos tos_so slots are = subst (λ seats. HaveSides its_receiver queues seats slots 0) (sym tos_so) (first_sides b devices links end wired_so queues queues_so its_receiver (λ ch. ch.to) consumers slots consumers_are are)
