-- The queues of a run of which links may go by proxy. A channel by queue has one. A channel by proxy
-- has two: into the near one its sender pushes, and out of the far one its receiver pops.
use Rattle.std.specs.Prelude.{ℕ, ◌≡◌, ◌+◌, ◌++◌, ◌∷◌, [], ◌<◌, List, length, map, slice_get, Option, option_and_then, All}
use Rattle.std.specs.List.{flat_map, filter_map}
use Rattle.atomic_table.specs.Seated.{TableId}
use Rattle.cs_base.specs.declared.link.Link.{Link}
use Rattle.cs_base.specs.declared.port_kind.PortKind.{PortKind}
use Rattle.cs_base.specs.declared.port_kind.Via.{Via}
use Rattle.cs_base.specs.declared.port_kind.Via.TheVariants.{Queue as ByQueue, Proxy as ByProxy}
use Rattle.cs_base.specs.Plan.{first_end, second_end}
use Rattle.mesh_core.specs.Start.{queue_to}
use Rattle.port_queue.specs.Plain.{Plain}
use Rattle.slot_queue.specs.Ends.{Named, Sender, Receiver}
use Rattle.run_threads.specs.Queues.{as_empty, names_of, its_sender, its_receiver, AreNew}

-- a channel's queue, or its near and its far one
abbrev pub as_often : Via → Plain → List Plain
as_often ByQueue queue = queue ∷ []
as_often ByProxy queue = queue ∷ queue ∷ []

-- the queues of the two channels of a link
abbrev pub queues_along : List (List PortKind) → Link → List Plain
queues_along kinds link = as_often link.via (queue_to kinds link.slots (second_end link))
    ++ as_often link.via (queue_to kinds link.slots (first_end link))

-- both sides of each queue, unused
pub record AreSides (queues : List Named) (producers : List Sender)
    (consumers : List Receiver) : Type 0 where
  pub producers_are : producers ≡ map its_sender queues
  pub consumers_are : consumers ≡ map its_receiver queues

-- the queues of all channels in their order, and both sides of each, unused
pub record AreAllNew (kinds : List (List PortKind)) (links : List Link) (queues : List Named)
    (producers : List Sender) (consumers : List Receiver) : Type 0 where
  pub queues_are : map as_empty queues ≡ flat_map (queues_along kinds) links
  pub sides : AreSides queues producers consumers

-- lists after the queues of one channel more
pub record ChannelAdded (via : Via) (slots : ℕ) (kind : PortKind) (queues : List Named)
    (producers : List Sender) (consumers : List Receiver) (queues' : List Named)
    (producers' : List Sender) (consumers' : List Receiver) : Type 0 where
  pub queues_are : map as_empty queues'
      ≡ map as_empty queues ++ as_often via (record { kind = kind; slots = slots; held = [] })
  pub sides : AreSides queues producers consumers → AreSides queues' producers' consumers'

-- how many queues a channel has before its last one, and after its first
abbrev pub others_of : Via → ℕ
others_of ByQueue = 0
others_of ByProxy = 1

-- how many queues the two channels of a link have together
abbrev pub queues_on : Link → ℕ
queues_on link = (others_of link.via + 1) + (others_of link.via + 1)

-- among all queues, of which so many are those of other links, the place of each channel's first one,
-- and of its last
unfoldable pub near_places : ℕ → List Link → List ℕ
near_places at [] = []
near_places at (link ∷ more) = at ∷ ((at + (others_of link.via + 1))
    ∷ near_places (at + queues_on link) more)

unfoldable pub far_places : ℕ → List Link → List ℕ
far_places at [] = []
far_places at (link ∷ more) = (at + others_of link.via)
    ∷ ((at + (others_of link.via + 1) + others_of link.via)
    ∷ far_places (at + queues_on link) more)

-- the queue that the sender of a channel pushes into, and that out of which its receiver pops
abbrev pub near_of : List Link → List Named → ℕ → Option Named
near_of links queues k = option_and_then (slice_get queues) (slice_get (near_places 0 links) k)

abbrev pub far_of : List Link → List Named → ℕ → Option Named
far_of links queues k = option_and_then (slice_get queues) (slice_get (far_places 0 links) k)

-- the queues at these places, in order
abbrev pub queues_at : List Named → List ℕ → List Named
queues_at queues places = filter_map (slice_get queues) places

-- the near and the far queues of all channels, by the channels' numbers, and their names
abbrev pub near_queues : List Link → List Named → List Named
near_queues links queues = queues_at queues (near_places 0 links)

abbrev pub far_queues : List Link → List Named → List Named
far_queues links queues = queues_at queues (far_places 0 links)

abbrev pub near_names : List Link → List Named → List TableId
near_names links queues = names_of (near_queues links queues)

abbrev pub far_names : List Link → List Named → List TableId
far_names links queues = names_of (far_queues links queues)

-- what is only where a channel goes by proxy
abbrev pub only_proxied : {X : Type 0} → Via → List X → List X
only_proxied ByQueue xs = []
only_proxied ByProxy xs = xs

-- the numbers of the channels that go by proxy, of which the first has this number
unfoldable pub proxied_from : ℕ → List Link → List ℕ
proxied_from k [] = []
proxied_from k (link ∷ more) = only_proxied link.via (k ∷ (k + 1) ∷ []) ++ proxied_from (k + 2) more

abbrev pub proxied : List Link → List ℕ
proxied links = proxied_from 0 links

-- where no link goes by proxy these are the queues of the channels, one each
abbrev pub AreNewByQueue : Type 0
AreNewByQueue = (kinds : List (List PortKind)) (links : List Link) (queues : List Named)
    (producers : List Sender) (consumers : List Receiver)
    → All (λ (link : Link). link.via ≡ ByQueue) links
    → AreAllNew kinds links queues producers consumers
    → AreNew kinds links queues producers consumers

-- and the near and the far queue of each channel are the same
abbrev pub NearIsFar : Type 0
NearIsFar = (links : List Link) (queues : List Named)
    → All (λ (link : Link). link.via ≡ ByQueue) links → (k : ℕ)
    → k < length links + length links
    → (near_of links queues k ≡ slice_get queues k) × (far_of links queues k ≡ slice_get queues k)
