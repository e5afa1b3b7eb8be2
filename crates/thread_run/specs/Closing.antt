-- The queues of a run, when they are closed.
use Rattle.std.specs.Prelude.{ℕ, ◌≡◌, ◌≤◌, ◌++◌, ◌∷◌, List, [], All, length, map, vec_capacity}
use Rattle.std.specs.List.{AllZip, flat_map}
use Rattle.cs_base.specs.declared.link.Link.{Link}
use Rattle.cs_base.specs.declared.port_kind.Via.{Via}
use Rattle.cs_base.specs.declared.port_kind.Via.TheVariants.{Queue, Proxy}
use Rattle.slot_queue.specs.Closing.{Remains}
use Rattle.slot_queue.specs.Ends.{Named, Sender, Receiver}
use Rattle.thread_run.specs.declared.closing.Rooms.{Rooms}

-- as often as a channel that goes so has queues
abbrev pub each_queue : Via → ℕ → List ℕ
each_queue Queue slots = slots ∷ []
each_queue Proxy slots = slots ∷ slots ∷ []

-- the numbers of slots of the queues of the two channels of each link
abbrev pub slots_along : Link → List ℕ
slots_along link = each_queue link.via link.slots ++ each_queue link.via link.slots

abbrev pub slots_of : List Link → List ℕ
slots_of links = flat_map slots_along links

-- nothing is in it yet, and there is room for so many messages
abbrev pub IsRoom : ℕ → Remains → Type 0
IsRoom slots room = (room.messages ≡ []) × (slots ≤ room.spare)

-- rooms behind others: one for each of these numbers of slots
pub record HasMoreRooms (slots : List ℕ) (old new : List Remains) : Type 0 where
  pub more : List Remains
  pub each : AllZip IsRoom slots more
  pub longer : new ≡ old ++ more

-- room for all that may be left of queues with these numbers of slots
pub record HasRooms (slots : List ℕ) (rooms : Rooms) : Type 0 where
  pub each : AllZip IsRoom slots rooms.rooms
  pub none_closed : rooms.rests.items ≡ []
  pub for_all : length slots ≤ vec_capacity rooms.rests

-- these are the two sides of each queue, in the order of the queues
pub record AreSidesOf (queues : List Named) (senders : List Sender)
    (receivers : List Receiver) : Type 0 where
  pub senders_are : map (λ s. s.queue) senders ≡ map (λ q. q.name) queues
  pub receivers_are : map (λ r. r.queue) receivers ≡ map (λ q. q.name) queues

-- queues were closed with these sides: of each queue, in order, all that its sides sent and received,
-- and what was sent and not received
pub record AreClosed (senders : List Sender) (receivers : List Receiver)
    (rests : List Remains) : Type 0 where
  pub sent : map (λ rest. rest.sent) rests ≡ map (λ s. s.sent) senders
  pub received : map (λ rest. rest.received) rests ≡ map (λ r. r.received) receivers
  pub left : All (λ rest. rest.received ++ rest.messages ≡ rest.sent) rests
