-- What is left of a crew that is taken apart.
use Rattle.std.specs.Prelude.{ℕ, ◌≡◌, List, map}
use Rattle.cs_base.specs.declared.link.Link.{Link}
use Rattle.cs_base.specs.declared.wire_end.WireEnd.{WireEnd}
use Rattle.device_api.specs.declared.counts.Count.{Count}
use Rattle.device_api.specs.declared.logs.Line.{Line}
use Rattle.proxy_crew.specs.declared.proxied.Proxied.{Proxied}
use Rattle.proxy_crew.specs.Ending.{end_of, near_side, far_side}
use Rattle.slot_queue.specs.Ends.{Named, Sender, Receiver}
use Rattle.worker_rounds.specs.Rounds.{Work}
use Rattle.run_threads.specs.declared.crew.Crew.{Crew}
use Rattle.run_threads.specs.declared.part.Part.{Part}
use Rattle.run_threads.specs.Leaving.{IsLeft}
use Rattle.run_threads.specs.Merging.{vias_of, with_behind, with_before}
use Rattle.run_threads.specs.Proxied.{near_names, far_names}
use Rattle.run_threads.specs.Seating.{AreSeats}
use Rattle.run_threads.specs.Whole.{IsDismissed}

-- some system's crew, whose ends are off its workers
pub record MayFinish {V O I : Type 0} (crew : Crew V O I) : Type 0 where
  pub components : ℕ
  pub links : List Link
  pub queues : List Named
  pub parts : List (Work (Part V))
  pub ends : List (Proxied O I)
  pub dismissed : IsDismissed components links queues parts ends crew

-- what it leaves: logs and counts of the components, both sides of each queue in the order of the queues,
-- and what is left of the channels by proxy
pub record HasFinished {V O I : Type 0} (components : ℕ) (links : List Link) (queues : List Named)
    (parts : List (Work (Part V))) (ends : List (Proxied O I)) (logs : List (List Line))
    (counts : List Count) (producers : List Sender) (consumers : List Receiver)
    (wire_ends : List (WireEnd O I)) : Type 0 where
  -- the sides that the components have
  pub senders : List Sender
  pub receivers : List Receiver
  pub left : IsLeft components links parts logs counts senders receivers
  pub seats : AreSeats links (near_names links queues) (far_names links queues) senders receivers
  -- with those that the ends of channels by proxy had
  pub producers_are : producers ≡ with_behind (vias_of links) senders (map far_side ends)
  pub consumers_are : consumers ≡ with_before (vias_of links) receivers (map near_side ends)
  pub ends_are : wire_ends ≡ map end_of ends

-- whatever system's crew it is
abbrev pub Finishes : {V O I : Type 0} → Crew V O I → List (List Line) → List Count → List Sender
    → List Receiver → List (WireEnd O I) → Type 0
Finishes {V} {O} {I} crew logs counts producers consumers wire_ends = (components : ℕ)
    (links : List Link) (queues : List Named) (parts : List (Work (Part V)))
    (ends : List (Proxied O I)) → IsDismissed components links queues parts ends crew
    → HasFinished components links queues parts ends logs counts producers consumers wire_ends
