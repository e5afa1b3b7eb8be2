-- What the parts of a crew are made from: the sides of the near and the far queues, each in a slot
-- by the number of its channel, until the part of its component is made.
use Rattle.std.specs.Prelude.{ℕ, ◌≡◌, ◌≤◌, List, length, map, slice_get, Option, Some}
use Rattle.cs_base.specs.declared.link.Link.{Link}
use Rattle.device_api.specs.Channels.{Channel, channels}
use Rattle.mesh_core.specs.declared.way.Seat.{Seat}
use Rattle.mesh_core.specs.State.{seat_of}
use Rattle.slot_queue.specs.Ends.{Named}
use Rattle.slot_queue.specs.declared.ends.TxEnd.{TxEnd}
use Rattle.slot_queue.specs.declared.ends.RxEnd.{RxEnd}
use Rattle.sync_rule.specs.declared.runner.Runner.{Runner}
use Rattle.run_threads.specs.Numbers.{AreNumbers}
use Rattle.run_threads.specs.Queues.{its_sender, its_receiver}
use Rattle.run_threads.specs.declared.part.Part.{Part}

-- the ports out of which the channels lead, and those into which they lead, by the channels' numbers
abbrev pub froms_of : List Link → List Seat
froms_of links = map (λ (ch : Channel). seat_of ch.from) (channels links)

abbrev pub tos_of : List Link → List Seat
tos_of links = map (λ (ch : Channel). seat_of ch.to) (channels links)

-- the side of a channel's queue, unused, is in its slot
pub record HasSide {S : Type 0} (side_of : Named → S) (queues : List Named)
    (slots : List (Option S)) (number : ℕ) : Type 0 where
  pub queue : Named
  pub named : slice_get queues number ≡ Some queue
  pub there : slice_get slots number ≡ Some (Some (side_of queue))

-- so are those of all channels at ports of this component and of later ones
pub record HaveSides {S : Type 0} (side_of : Named → S) (queues : List Named) (seats : List Seat)
    (slots : List (Option S)) (component : ℕ) : Type 0 where
  pub each : (number : ℕ) (one : Seat) → slice_get seats number ≡ Some one
      → component ≤ one.component → HasSide side_of queues slots number

-- an end is of this channel's queue, and unused
pub record IsFresh {S : Type 0} (side_of : Named → S) (queues : List Named) (number : ℕ)
    (seat : S) : Type 0 where
  pub queue : Named
  pub named : slice_get queues number ≡ Some queue
  pub unused : seat ≡ side_of queue

-- ends of the channels with these numbers, each unused
pub record AreFresh {E S : Type 0} (seat_of : E → S) (side_of : Named → S) (queues : List Named)
    (numbers : List ℕ) (ends : List E) : Type 0 where
  pub as_many : length ends ≡ length numbers
  pub each : (port number : ℕ) (one : E) → slice_get numbers port ≡ Some number
      → slice_get ends port ≡ Some one → IsFresh side_of queues number (seat_of one)

-- the part of a component with so many ports before its first turn
pub record IsNewPart {V : Type 0} (nears fars : List Named) (froms tos : List Seat)
    (component ports : ℕ) (runner : Runner V) (part : Part V) : Type 0 where
  pub component_is : part.component ≡ component
  pub runner_is : part.driver.runner ≡ runner
  pub departures : AreNumbers froms component ports part.departures
  pub arrivals : AreNumbers tos component ports part.arrivals
  pub sending : AreFresh (λ (end : TxEnd). end.seat) its_sender nears part.departures
      part.driver.txs.items
  pub receiving : AreFresh (λ (end : RxEnd). end.seat) its_receiver fars part.arrivals
      part.driver.rxs.items
