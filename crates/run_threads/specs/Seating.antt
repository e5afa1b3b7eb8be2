-- Which part sits where on the workers, and that its ends are those of its channels' near and far
-- queues. Of this nothing changes, whatever the turns of the parts do or meet.
use Rattle.std.specs.Prelude.{ℕ, ◌≡◌, ◌+◌, ◌*◌, ◌<◌, List, length, slice_get, Some}
use Rattle.atomic_table.specs.Seated.{TableId}
use Rattle.cs_base.specs.declared.link.Link.{Link}
use Rattle.cs_base.specs.Plan.{End}
use Rattle.device_api.specs.Channels.{Channel, channels}
use Rattle.slot_queue.specs.declared.ends.TxEnd.{TxEnd}
use Rattle.slot_queue.specs.declared.ends.RxEnd.{RxEnd}
use Rattle.slot_queue.specs.Ends.{Sender, Receiver}
use Rattle.worker_rounds.specs.Rounds.{Work}
use Rattle.run_threads.specs.declared.part.Part.{Part}
use Rattle.run_threads.specs.CrewOf.{members_of, part_at}
use Rattle.run_threads.specs.Parting.{txs_of, rxs_of, departures_of, arrivals_of}

-- the names of the queues whose ends these are
abbrev pub tx_name : TxEnd → TableId
tx_name end = end.seat.queue

abbrev pub rx_name : RxEnd → TableId
rx_name end = end.seat.queue

-- the part at a port of which channel number k has an end: the end there is of that channel's queue,
-- and the part knows it by that number
pub record HasEnd {V E : Type 0} (ends_of : Part V → List E) (numbers_of : Part V → List ℕ)
    (name : E → TableId) (names : List TableId) (workers : List (Work (Part V))) (at : End)
    (k : ℕ) : Type 0 where
  pub part : Part V
  pub there : part_at workers at.component ≡ Some part
  pub one : E
  pub here : slice_get (ends_of part) at.port ≡ Some one
  pub numbered : slice_get (numbers_of part) at.port ≡ Some k
  pub named : slice_get names k ≡ Some (name one)

-- a channel has its end at this port
pub record HasChannel (side : Channel → End) (links : List Link) (c p : ℕ) : Type 0 where
  pub number : ℕ
  pub channel : Channel
  pub at_number : slice_get (channels links) number ≡ Some channel
  pub component_is : (side channel).component ≡ c
  pub port_is : (side channel).port ≡ p

-- each channel has its end at a port of a part, and each end of a part is that of a channel
pub record AreAtPorts {V E : Type 0} (ends_of : Part V → List E) (numbers_of : Part V → List ℕ)
    (name : E → TableId) (side : Channel → End) (links : List Link) (names : List TableId)
    (workers : List (Work (Part V))) : Type 0 where
  pub of_channel : (k : ℕ) (ch : Channel) → slice_get (channels links) k ≡ Some ch
      → HasEnd ends_of numbers_of name names workers (side ch) k
  pub of_part : (c p : ℕ) (part : Part V) → part_at workers c ≡ Some part
      → p < length (ends_of part) → HasChannel side links c p

-- the workers of so many components, joined by these links by near and far queues of these names
pub record IsSeated {V : Type 0} (components : ℕ) (links : List Link) (near far : List TableId)
    (workers : List (Work (Part V))) : Type 0 where
  pub some_worker : 0 < length workers
  pub each : (c : ℕ) → c < components → (part : Part V) × (part_at workers c ≡ Some part)
  pub no_other : (w k : ℕ) (part : Part V) → w < length workers
      → slice_get (members_of (slice_get workers w)) k ≡ Some part
      → w + k * length workers < components
  pub sending : AreAtPorts txs_of departures_of tx_name (λ (ch : Channel). ch.from) links near
      workers
  pub receiving : AreAtPorts rxs_of arrivals_of rx_name (λ (ch : Channel). ch.to) links far
      workers

-- the sending side of each channel's near queue, and the receiving side of its far one, in the
-- order of the channels
pub record AreSeats (links : List Link) (near far : List TableId) (senders : List Sender)
    (receivers : List Receiver) : Type 0 where
  pub sender_each : length senders ≡ length (channels links)
  pub receiver_each : length receivers ≡ length (channels links)
  pub senders_are : (k : ℕ) (sender : Sender) → slice_get senders k ≡ Some sender
      → slice_get near k ≡ Some sender.queue
  pub receivers_are : (k : ℕ) (receiver : Receiver) → slice_get receivers k ≡ Some receiver
      → slice_get far k ≡ Some receiver.queue

-- whatever system a crew's parts are seated for
abbrev pub StaysSeated : {V : Type 0} → List (Work (Part V)) → List (Work (Part V)) → Type 0
StaysSeated {V} old new = (components : ℕ) (links : List Link)
    (near far : List TableId) → IsSeated components links near far old
    → IsSeated components links near far new
