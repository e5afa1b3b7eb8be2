-- Sides of queues that are handed on, one queue after another.
use Rattle.std.proofs.Common.{◌≡◌, ℕ, zero, suc, ◌+◌, ◌<◌, ◌≤◌, List, [], ◌∷◌, ◌++◌, length, map, drop, reverse, get_or, Some, refl, sym, ap, ap₂, ◌∙◌, subst, arith}
use Rattle.std.specs.Prelude.{slice_get}
use Rattle.std.specs.List.{flat_map, AllZip}
use Rattle.std.proofs.lemmas.List.{length-map, reverse-append, reverse-reverse, drop_all}
use Rattle.std.proofs.lemmas.Option.{none-some, same_Some, slice_get_within, slice_get_read}
use Rattle.cs_base.specs.declared.link.Link.{Link}
use Rattle.cs_base.specs.declared.port_kind.PortKind.{PortKind}
use Rattle.cs_base.specs.Plan.{first_end, second_end}
use Rattle.mesh_core.specs.Start.{queue_to}
use Rattle.slot_queue.specs.Ends.{Named, Sender, Receiver}
use Rattle.slot_queue.specs.declared.ends.TxEnd.{TxEnd}
use Rattle.slot_queue.specs.declared.ends.RxEnd.{RxEnd}
use Rattle.sync_laws.proofs.Changed.{mapped_at, get_mapped}
use Rattle.run_threads.specs.declared.sharing.Left.{Left}
use Rattle.run_threads.specs.declared.sharing.Shares.{Shares}
use Rattle.run_threads.specs.Proxied.{AreAllNew, others_of, queues_on, queues_along, near_queues, far_queues, proxied}
use Rattle.run_threads.specs.Queues.{as_empty, its_sender, its_receiver}
use Rattle.run_threads.specs.Sharing.{Shared, none_shared, share_more, AreLeft, AreOf, AreShared}
use Rattle.run_threads.specs.Stock.{IsFresh, AreFresh}
use Rattle.run_threads.proofs.SharedOut.{from_there, AreOnLink, on_link, share_along, share_whole, IsWhole}

-- the next of the sides that are left in turned order
module _ {S : Type 0} (side_of : Named → S) (queues : List Named) (at : ℕ) (left : List S) (are : reverse left ≡ map side_of (drop at queues)) (queue : Named) (there : slice_get queues at ≡ Some queue) where
  next_first : reverse left ≡ side_of queue ∷ map side_of (drop (at + 1) queues)
  next_first = are ∙ ap (map side_of) (from_there queues at queue there)

  pub one_left : left ≡ [] → ⊥
  one_left none = (let long : 0 ≡ suc (length (map side_of (drop (at + 1) queues))) = ap length (ap reverse (sym none) ∙ next_first) in omega arith)

  module _ (left' : List S) (x : S) (last : left ≡ left' ++ x ∷ []) where
    both : x ∷ reverse left' ≡ side_of queue ∷ map side_of (drop (at + 1) queues)
    both = sym (ap reverse last ∙ reverse-append left' (x ∷ [])) ∙ next_first

    pub next_is : x ≡ side_of queue
    next_is = same_Some x (side_of queue) (ap (λ l. slice_get l 0) both)

    pub rest_is : reverse left' ≡ map side_of (drop (at + 1) queues)
    rest_is = ap (drop 1) both

-- ends of the queues that were picked
picked_many : (all : List Named) (numbers : List ℕ) (picked : List Named) → AllZip (λ k (q : Named). slice_get all k ≡ Some q) numbers picked → length picked ≡ length numbers
picked_many all [] [] picks = refl
picked_many all [] (q ∷ picked) picks = absurd picks
picked_many all (k ∷ numbers) [] picks = absurd picks
picked_many all (k ∷ numbers) (q ∷ picked) picks = ap suc (picked_many all numbers picked picks.1)

picked_at : (all : List Named) (numbers : List ℕ) (picked : List Named) → AllZip (λ k (q : Named). slice_get all k ≡ Some q) numbers picked → (i k : ℕ) (q : Named) → slice_get numbers i ≡ Some k → slice_get picked i ≡ Some q → slice_get all k ≡ Some q
picked_at all [] picked picks i k q at got = absurd (none-some k at)
picked_at all (n ∷ numbers) [] picks i k q at got = absurd (none-some q got)
picked_at all (n ∷ numbers) (p ∷ picked) picks zero k q at got = ap (slice_get all) (sym (same_Some n k at)) ∙ picks.0 ∙ got
picked_at all (n ∷ numbers) (p ∷ picked) picks (suc i) k q at got = picked_at all numbers picked picks.1 i k q at got

fresh_ends : {E S : Type 0} (seat_of : E → S) (side_of : Named → S) (all : List Named) (numbers : List ℕ) (picked : List Named) (ends : List E) → AllZip (λ k (q : Named). slice_get all k ≡ Some q) numbers picked → map seat_of ends ≡ map side_of picked → AreFresh seat_of side_of all numbers ends
fresh_ends {E} {S} seat_of side_of all numbers picked ends picks are = record {
  as_many = sym (length-map ends seat_of) ∙ ap length are ∙ length-map picked side_of ∙ picked_many all numbers picked picks;
  each = each;
}
  where
    each : (port number : ℕ) (one : E) → slice_get numbers port ≡ Some number → slice_get ends port ≡ Some one → IsFresh side_of all number (seat_of one)
    each port number one at got =
        let found = mapped_at side_of picked (map seat_of ends) port (seat_of one) (sym are) (get_mapped seat_of ends port one got) in
        record { queue = found.0; named = picked_at all numbers picked picks port number found.0 at found.1; unused = sym found.2 }

-- the queues of some links are shared out, and the sides of the others are left
pub record AreSharing (queues : List Named) (links : List Link) (i : ℕ) (shares : Shares) (left : Left) : Type 0 where
  pub kinds : List (List PortKind)
  pub asked : map as_empty queues ≡ flat_map (queues_along kinds) links
  pub of : Shared
  pub are : AreOf of shares
  pub along : share_along kinds queues left.at (drop i links) of ≡ share_along kinds queues 0 links none_shared
  pub sides : AreLeft queues left
  pub enough : map as_empty (drop left.at queues) ≡ flat_map (queues_along kinds) (drop i links)

module _ (queues : List Named) (links : List Link) (i : ℕ) (shares : Shares) (left : Left) (link : Link) (so_far : AreSharing queues links i shares left) (within : i < length links) (is : link ≡ get_or links i link) where
  abbrev n : ℕ
  n = others_of link.via + 1

  next_link : drop i links ≡ link ∷ drop (i + 1) links
  next_link = from_there links i link (slice_get_read links (length links) i link refl within is)

  on : AreOnLink queues left.at link.via (queue_to so_far.kinds link.slots (second_end link)) (queue_to so_far.kinds link.slots (first_end link)) (flat_map (queues_along so_far.kinds) (drop (i + 1) links))
  on = on_link so_far.kinds queues left.at link (drop (i + 1) links) (so_far.enough ∙ ap (flat_map (queues_along so_far.kinds)) next_link)

  pub first_enough : left.at + (others_of link.via + 1) ≤ length queues
  first_enough = (let below : left.at + others_of link.via < length queues = slice_get_within queues (left.at + others_of link.via) on.far_there.queue on.far_there.there in omega arith)

  pub second_enough : (at : ℕ) → at ≡ left.at + (others_of link.via + 1) → at + (others_of link.via + 1) ≤ length queues
  second_enough at is_at = (let below : left.at + (others_of link.via + 1) + others_of link.via < length queues = slice_get_within queues (left.at + (others_of link.via + 1) + others_of link.via) on.far_back.queue on.far_back.there in omega arith)

  pub sharing_more : (shares1 shares2 : Shares) (left1 left2 : Left) → ((of : Shared) → AreOf of shares → AreOf (share_more queues link.via left.at of) shares1) → left1.at ≡ left.at + (others_of link.via + 1) → ((of : Shared) → AreOf of shares1 → AreOf (share_more queues link.via left1.at of) shares2) → left2.at ≡ left1.at + (others_of link.via + 1) → AreLeft queues left2 → AreSharing queues links (i + 1) shares2 left2
  sharing_more shares1 shares2 left1 left2 first first_at second second_at sides =
      let past : left2.at ≡ left.at + queues_on link = omega arith in
      let once : Shared = share_more queues link.via left.at so_far.of in
      record {
        kinds = so_far.kinds;
        asked = so_far.asked;
        of = share_more queues link.via left1.at once;
        are = second once (first so_far.of so_far.are);
        along = ap₂ (λ a m. share_along so_far.kinds queues a (drop (i + 1) links) (share_more queues link.via m once)) past first_at ∙ ap (λ l. share_along so_far.kinds queues left.at l so_far.of) (sym next_link) ∙ so_far.along;
        sides = sides;
        enough = ap (λ a. map as_empty (drop a queues)) past ∙ on.others;
      }

-- all queues of a wiring
pub all_shared : (kinds : List (List PortKind)) (links : List Link) (queues : List Named) (got : Shared) (shares : Shares) → IsWhole kinds queues links got → AreOf got shares → AreShared links queues shares
all_shared kinds links queues got shares whole are = record {
  nears_are = are.nears_are ∙ whole.nears;
  fars_are = are.fars_are ∙ whole.fars;
  senders_are = are.senders_are ∙ ap (map its_sender) whole.nears;
  receivers_are = are.receivers_are ∙ ap (map its_receiver) whole.fars;
  between = record {
    outs_of = fresh_ends (λ (end : RxEnd). end.seat) its_receiver (near_queues links queues) (proxied links) got.between_near shares.outs.items whole.near_picked are.outs_are;
    ins_of = fresh_ends (λ (end : TxEnd). end.seat) its_sender (far_queues links queues) (proxied links) got.between_far shares.ins.items whole.far_picked are.ins_are;
  };
}

pub none_yet : (shares : Shares) → shares.nears.items ≡ [] → shares.fars.items ≡ [] → shares.senders.items ≡ [] → shares.receivers.items ≡ [] → shares.outs.items ≡ [] → shares.ins.items ≡ [] → AreOf none_shared shares
none_yet shares nears fars senders receivers outs ins = record { nears_are = rw nears; fars_are = rw fars; senders_are = senders; receivers_are = receivers; outs_are = rw outs; ins_are = rw ins }

pub sharing_starts : (kinds : List (List PortKind)) (links : List Link) (queues : List Named) (producers : List Sender) (consumers : List Receiver) → AreAllNew kinds links queues producers consumers → (shares : Shares) → AreOf none_shared shares → (left : Left) → left.at ≡ 0 → left.producers ≡ reverse producers → left.consumers ≡ reverse consumers → AreSharing queues links 0 shares left
sharing_starts kinds links queues producers consumers new shares none left at_is producers_are consumers_are = record {
  kinds = kinds;
  asked = new.queues_are;
  of = none_shared;
  are = none;
  along = ap (λ a. share_along kinds queues a links none_shared) at_is;
  sides = record {
    producers_are = ap reverse producers_are ∙ reverse-reverse producers ∙ new.sides.producers_are ∙ ap (λ a. map its_sender (drop a queues)) (sym at_is);
    consumers_are = ap reverse consumers_are ∙ reverse-reverse consumers ∙ new.sides.consumers_are ∙ ap (λ a. map its_receiver (drop a queues)) (sym at_is);
  };
  enough = ap (λ a. map as_empty (drop a queues)) at_is ∙ new.queues_are;
}

pub sharing_ends : (queues : List Named) (links : List Link) (i : ℕ) (shares : Shares) (left : Left) → AreSharing queues links i shares left → length links ≤ i → AreShared links queues shares
sharing_ends queues links i shares left so_far past =
    let none : drop i links ≡ [] = drop_all i links past in
    let got : so_far.of ≡ share_along so_far.kinds queues 0 links none_shared = sym (ap (λ l. share_along so_far.kinds queues left.at l so_far.of) none) ∙ so_far.along in
    all_shared so_far.kinds links queues (share_along so_far.kinds queues 0 links none_shared) shares (share_whole so_far.kinds queues links so_far.asked) (subst (λ (of : Shared). AreOf of shares) got so_far.are)
