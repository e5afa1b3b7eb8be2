-- The queues of a run and their two sides, by the numbers of the channels.
use Rattle.std.specs.Prelude.{ℕ, ◌≡◌, List, [], ◌∷◌, ◌++◌, map}
use Rattle.atomic_table.specs.Seated.{TableId}
use Rattle.cs_base.specs.declared.link.Link.{Link}
use Rattle.cs_base.specs.declared.port_kind.PortKind.{PortKind}
use Rattle.mesh_core.specs.Start.{queues_of}
use Rattle.port_queue.specs.Plain.{Plain}
use Rattle.slot_queue.specs.Ends.{Named, Sender, Receiver, new_sender, new_receiver}

-- a queue with nothing in it: the kind of its receiver's port, and its number of slots
abbrev pub as_empty : Named → Plain
as_empty queue = record { kind = queue.kind; slots = queue.name.slots; held = [] }

-- the names of queues
abbrev pub names_of : List Named → List TableId
names_of queues = map (λ (queue : Named). queue.name) queues

-- the two sides of a queue of which nothing was used
abbrev pub its_sender : Named → Sender
its_sender queue = new_sender queue.name queue.kind

abbrev pub its_receiver : Named → Receiver
its_receiver queue = new_receiver queue.name queue.kind

-- the queues of the two channels of each link, as the links ask, and both sides of each, unused
pub record AreNew (kinds : List (List PortKind)) (links : List Link) (queues : List Named)
    (producers : List Sender) (consumers : List Receiver) : Type 0 where
  pub queues_are : map as_empty queues ≡ queues_of kinds links
  pub producers_are : producers ≡ map its_sender queues
  pub consumers_are : consumers ≡ map its_receiver queues

-- lists after one queue more, of so many slots and to a port of this kind
pub record Added (slots : ℕ) (kind : PortKind) (queues : List Named) (producers : List Sender)
    (consumers : List Receiver) (queues' : List Named) (producers' : List Sender)
    (consumers' : List Receiver) : Type 0 where
  pub queue : Named
  pub asked : as_empty queue ≡ record { kind = kind; slots = slots; held = [] }
  pub queues_are : queues' ≡ queues ++ queue ∷ []
  pub producers_are : producers' ≡ producers ++ its_sender queue ∷ []
  pub consumers_are : consumers' ≡ consumers ++ its_receiver queue ∷ []
