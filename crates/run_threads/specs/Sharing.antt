-- How the queues of a run are shared out, with their sides: to the parts of the components, by the
-- numbers of the channels, and to what carries the channels by proxy from the near to the far ones.
use Rattle.std.specs.Prelude.{ℕ, ◌≡◌, ◌+◌, ◌++◌, ◌∷◌, [], List, drop, map, reverse}
use Rattle.cs_base.specs.declared.link.Link.{Link}
use Rattle.cs_base.specs.declared.port_kind.Via.{Via}
use Rattle.slot_queue.specs.Ends.{Named}
use Rattle.slot_queue.specs.declared.ends.TxEnd.{TxEnd}
use Rattle.slot_queue.specs.declared.ends.RxEnd.{RxEnd}
use Rattle.run_threads.specs.declared.sharing.Left.{Left}
use Rattle.run_threads.specs.declared.sharing.Shares.{Shares}
use Rattle.run_threads.specs.Proxied.{others_of, only_proxied, proxied, queues_at, near_queues, far_queues}
use Rattle.run_threads.specs.Queues.{its_sender, its_receiver}
use Rattle.run_threads.specs.Stock.{AreFresh}

-- of the channels by proxy, in order: the receiving ends of their near queues, and the sending ends
-- of their far ones, all unused
pub record AreBetween (links : List Link) (queues : List Named) (outs : List RxEnd)
    (ins : List TxEnd) : Type 0 where
  pub outs_of : AreFresh (λ (end : RxEnd). end.seat) its_receiver (near_queues links queues)
      (proxied links) outs
  pub ins_of : AreFresh (λ (end : TxEnd). end.seat) its_sender (far_queues links queues)
      (proxied links) ins

-- queues of channels: the near and the far one of each, and the same of each that goes by proxy
pub record Shared : Type 0 where
  pub nears : List Named
  pub fars : List Named
  pub between_near : List Named
  pub between_far : List Named

abbrev pub none_shared : Shared
none_shared = record { nears = []; fars = []; between_near = []; between_far = [] }

-- those of one channel more, whose first queue is at this place
abbrev pub share_more : List Named → Via → ℕ → Shared → Shared
share_more queues via at of = record {
  nears = of.nears ++ queues_at queues (at ∷ []);
  fars = of.fars ++ queues_at queues ((at + others_of via) ∷ []);
  between_near = of.between_near ++ queues_at queues (only_proxied via (at ∷ []));
  between_far = of.between_far ++ queues_at queues (only_proxied via ((at + others_of via) ∷ []));
}

-- these queues, with the unused sides that their channels' senders and receivers have, and the ends
-- between them
pub record AreOf (of : Shared) (shares : Shares) : Type 0 where
  pub nears_are : map (λ queue. queue.now) shares.nears.items ≡ of.nears
  pub fars_are : map (λ queue. queue.now) shares.fars.items ≡ of.fars
  pub senders_are : shares.senders.items ≡ map its_sender of.nears
  pub receivers_are : shares.receivers.items ≡ map its_receiver of.fars
  pub outs_are : map (λ (end : RxEnd). end.seat) shares.outs.items
      ≡ map its_receiver of.between_near
  pub ins_are : map (λ (end : TxEnd). end.seat) shares.ins.items ≡ map its_sender of.between_far

-- so were the queues of a whole wiring
pub record AreShared (links : List Link) (queues : List Named) (shares : Shares) : Type 0 where
  pub nears_are : map (λ queue. queue.now) shares.nears.items ≡ near_queues links queues
  pub fars_are : map (λ queue. queue.now) shares.fars.items ≡ far_queues links queues
  pub senders_are : shares.senders.items ≡ map its_sender (near_queues links queues)
  pub receivers_are : shares.receivers.items ≡ map its_receiver (far_queues links queues)
  pub between : AreBetween links queues shares.outs.items shares.ins.items

-- the sides of the queues from a place on, in turned order
pub record AreLeft (queues : List Named) (left : Left) : Type 0 where
  pub producers_are : reverse left.producers ≡ map its_sender (drop left.at queues)
  pub consumers_are : reverse left.consumers ≡ map its_receiver (drop left.at queues)
