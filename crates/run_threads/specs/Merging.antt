-- The sides of all queues in the order of the queues, of those that the parts have and those
-- between near and far queues.
use Rattle.std.specs.Prelude.{ℕ, ◌≡◌, ◌<◌, List, [], ◌∷◌, ◌++◌, length, map, take, drop, slice_get, Option, Some, option_and_then}
use Rattle.std.specs.List.{flat_map, filter_map}
use Rattle.cs_base.specs.declared.link.Link.{Link}
use Rattle.cs_base.specs.declared.port_kind.Via.{Via}
use Rattle.cs_base.specs.declared.port_kind.PortKind.{PortKind}
use Rattle.device_api.specs.Channels.{channels}
use Rattle.slot_queue.specs.Ends.{Named, Sender, Receiver}
use Rattle.run_threads.specs.Proxied.{others_of, only_proxied, near_places, far_places, proxied, near_names, far_names, AreAllNew}
use Rattle.run_threads.specs.Queues.{names_of}
use Rattle.run_threads.specs.Seating.{AreSeats}

-- how the channels go, by their numbers
abbrev pub vias_of : List Link → List Via
vias_of links = flat_map (λ (link : Link). link.via ∷ link.via ∷ []) links

-- of each channel its own side, and behind it, where it goes by proxy, the next of the others
abbrev pub with_behind : {S : Type 0} → List Via → List S → List S → List S
with_behind [] own others = []
with_behind (via ∷ vias) own others = take 1 own ++ (only_proxied via (take 1 others)
    ++ with_behind vias (drop 1 own) (drop (others_of via) others))

-- of each channel its own side, and before it, where it goes by proxy, the next of the others
abbrev pub with_before : {S : Type 0} → List Via → List S → List S → List S
with_before [] own others = []
with_before (via ∷ vias) own others = only_proxied via (take 1 others) ++ (take 1 own
    ++ with_before vias (drop 1 own) (drop (others_of via) others))

-- the element of a list that belongs to a channel's near queue, or to its far one, where the list has
-- one for each queue in order
abbrev pub at_near : {X : Type 0} → List Link → List X → ℕ → Option X
at_near links all k = option_and_then (slice_get all) (slice_get (near_places 0 links) k)

abbrev pub at_far : {X : Type 0} → List Link → List X → ℕ → Option X
at_far links all k = option_and_then (slice_get all) (slice_get (far_places 0 links) k)

-- the sides of all queues in order, and where those of each channel stand
pub record AreMerged (links : List Link) (queues : List Named) (senders : List Sender)
    (receivers : List Receiver) (outs : List Receiver) (ins : List Sender)
    (producers : List Sender) (consumers : List Receiver) : Type 0 where
  pub producers_named : map (λ (side : Sender). side.queue) producers ≡ names_of queues
  pub consumers_named : map (λ (side : Receiver). side.queue) consumers ≡ names_of queues
  pub near_sender : (k : ℕ) → k < length (channels links)
      → at_near links producers k ≡ slice_get senders k
  pub far_receiver : (k : ℕ) → k < length (channels links)
      → at_far links consumers k ≡ slice_get receivers k
  -- of the channels by proxy, in order, the sides between their near and far queues
  pub near_receiver : (i k : ℕ) → slice_get (proxied links) i ≡ Some k
      → at_near links consumers k ≡ slice_get outs i
  pub far_sender : (i k : ℕ) → slice_get (proxied links) i ≡ Some k
      → at_far links producers k ≡ slice_get ins i
  -- each other channel has one queue
  pub one_queue : (k : ℕ) → k < length (channels links)
      → ((i : ℕ) → slice_get (proxied links) i ≡ Some k → ⊥)
      → slice_get (near_places 0 links) k ≡ slice_get (far_places 0 links) k

-- whatever system these are the sides of
abbrev pub SidesMerge : Type 0
SidesMerge = (kinds : List (List PortKind)) (links : List Link) (queues : List Named)
    (new_producers : List Sender) (new_consumers : List Receiver) (senders : List Sender)
    (receivers outs : List Receiver) (ins : List Sender)
    → AreAllNew kinds links queues new_producers new_consumers
    → AreSeats links (near_names links queues) (far_names links queues) senders receivers
    → map (λ (side : Receiver). side.queue) outs
    ≡ filter_map (slice_get (near_names links queues)) (proxied links)
    → map (λ (side : Sender). side.queue) ins
    ≡ filter_map (slice_get (far_names links queues)) (proxied links)
    → AreMerged links queues senders receivers outs ins
    (with_behind (vias_of links) senders ins) (with_before (vias_of links) receivers outs)
