-- The workers of a run, and what stands between their rounds.
use Rattle.std.specs.Prelude.{ℕ, ◌≡◌, ◌+◌, ◌*◌, ◌/◌, ◌%◌, ◌<◌, List, [], length, map, slice_get, Option, Some, None, option_map, option_and_then}
use Rattle.atomic_table.specs.Seated.{TableId}
use Rattle.cs_base.specs.declared.link.Link.{Link}
use Rattle.cs_base.specs.Plan.{End, IsPlan}
use Rattle.device_api.specs.Behaviour.{Behaviour}
use Rattle.device_api.specs.Channels.{Channel, channels}
use Rattle.mesh_core.specs.Start.{plans_of}
use Rattle.slot_queue.specs.declared.ends.TxEnd.{TxEnd}
use Rattle.slot_queue.specs.declared.ends.RxEnd.{RxEnd}
use Rattle.slot_queue.specs.Ends.{Sender, Receiver}
use Rattle.sync_rule.specs.Ports.{Out}
use Rattle.worker_rounds.specs.Crew.{AreSound}
use Rattle.worker_rounds.specs.Rounds.{Work}
use Rattle.run_threads.specs.declared.part.Part.{Part}
use Rattle.run_threads.specs.Parts.{PartFits, PartStands}

-- component c is member c / n of worker c modulo n, of n workers
abbrev pub members_of : {V : Type 0} → Option (Work (Part V)) → List (Part V)
members_of None = []
members_of (Some worker) = worker.members

abbrev pub part_at : {V : Type 0} → List (Work (Part V)) → ℕ → Option (Part V)
part_at workers c = slice_get (members_of (slice_get workers (c % length workers)))
    (c / length workers)

-- the sides of queues that the ends at a port hold
abbrev pub sender_at : {V : Type 0} → List (Work (Part V)) → End → Option Sender
sender_at workers at = option_and_then
    (λ part. option_map (λ (end : TxEnd). end.seat) (slice_get part.driver.txs.items at.port))
    (part_at workers at.component)

abbrev pub receiver_at : {V : Type 0} → List (Work (Part V)) → End → Option Receiver
receiver_at workers at = option_and_then
    (λ part. option_map (λ (end : RxEnd). end.seat) (slice_get part.driver.rxs.items at.port))
    (part_at workers at.component)

-- the part of a component that started in this state: its sending ends are those of its channels'
-- near queues, and its receiving ends those of the far ones, whose names are told by the numbers of
-- the channels. The two are one where a channel goes by queue
pub record IsPartOf {V : Type 0} (b : Behaviour V) (settled : V → ℕ → Type 0) (links : List Link)
    (end : ℕ) (near far : List TableId) (c : ℕ) (start : V) (part : Part V) : Type 0 where
  pub component : part.component ≡ c
  pub stands : PartStands b settled start part
  pub end_is : part.driver.runner.end ≡ end
  pub plans : map (λ (o : Out). o.plan) part.driver.runner.outgoing ≡ plans_of links c
      (b.ports start)
  pub departs : (k : ℕ) (ch : Channel) → slice_get (channels links) k ≡ Some ch
      → ch.from.component ≡ c → slice_get part.departures ch.from.port ≡ Some k
  pub arrives : (k : ℕ) (ch : Channel) → slice_get (channels links) k ≡ Some ch
      → ch.to.component ≡ c → slice_get part.arrivals ch.to.port ≡ Some k
  pub sends_on : (k : ℕ) (ch : Channel) (one : TxEnd) → slice_get (channels links) k ≡ Some ch
      → ch.from.component ≡ c → slice_get part.driver.txs.items ch.from.port ≡ Some one
      → slice_get near k ≡ Some one.seat.queue
  pub receives_on : (k : ℕ) (ch : Channel) (one : RxEnd) → slice_get (channels links) k ≡ Some ch
      → ch.to.component ≡ c → slice_get part.driver.rxs.items ch.to.port ≡ Some one
      → slice_get far k ≡ Some one.seat.queue

-- a component has its place on a worker
pub record HasPart {V : Type 0} (b : Behaviour V) (settled : V → ℕ → Type 0) (links : List Link)
    (end : ℕ) (near far : List TableId) (workers : List (Work (Part V))) (c : ℕ)
    (start : V) : Type 0 where
  pub part : Part V
  pub there : part_at workers c ≡ Some part
  pub is : IsPartOf b settled links end near far c start part

-- the workers of a run of devices that started in these states, joined by these links, until `end`,
-- by near and far queues of these names
pub record IsCrewOf {V : Type 0} (b : Behaviour V) (settled : V → ℕ → Type 0) (starts : List V)
    (links : List Link) (end : ℕ) (near far : List TableId)
    (workers : List (Work (Part V))) : Type 0 where
  pub wired : IsPlan end (map b.ports starts) links
  pub some_worker : 0 < length workers
  pub sound : AreSound (PartFits b settled) workers
  pub parts : (c : ℕ) (start : V) → slice_get starts c ≡ Some start
      → HasPart b settled links end near far workers c start
  -- and no other
  pub dealt : (w k : ℕ) (part : Part V) → w < length workers
      → slice_get (members_of (slice_get workers w)) k ≡ Some part
      → w + k * length workers < length starts
