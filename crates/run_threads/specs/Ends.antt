-- Sides of the queues at some places.
use Rattle.std.specs.Prelude.{ℕ, ◌≡◌, List, length, slice_get, Some}
use Rattle.slot_queue.specs.Ends.{Named, Sender, Receiver}

-- each of these sides, in order, is that of the queue at its place
pub record AreSendersOf (queues : List Named) (places : List ℕ) (sides : List Sender) : Type 0 where
  pub as_many : length sides ≡ length places
  pub each : (i place : ℕ) (side : Sender) → slice_get places i ≡ Some place
      → slice_get sides i ≡ Some side → (queue : Named) × (slice_get queues place ≡ Some queue)
      × (side.queue ≡ queue.name)

pub record AreReceiversOf (queues : List Named) (places : List ℕ)
    (sides : List Receiver) : Type 0 where
  pub as_many : length sides ≡ length places
  pub each : (i place : ℕ) (side : Receiver) → slice_get places i ≡ Some place
      → slice_get sides i ≡ Some side → (queue : Named) × (slice_get queues place ≡ Some queue)
      × (side.queue ≡ queue.name)
