-- Room that is reserved for the queues of one link after another.
use Rattle.std.proofs.Common.{◌≡◌, ℕ, ◌+◌, ◌≤◌, ◌<◌, List, [], ◌∷◌, ◌++◌, length, map, drop, get_or, suc, refl, sym, ap, ap₂, ◌∙◌, subst, append_assoc, append-nil, drop-cons, arith}
use Rattle.std.proofs.Math.ListN.{drop_of_length-le}
use Rattle.std.specs.List.{AllZip, flat_map}
use Rattle.cs_base.specs.declared.link.Link.{Link}
use Rattle.std.proofs.lemmas.List.{map-append}
use Rattle.cs_base.specs.declared.port_kind.PortKind.{PortKind}
use Rattle.cs_base.specs.declared.port_kind.Via.{Via}
use Rattle.cs_base.specs.declared.port_kind.Via.TheVariants.{Queue as ByQueue, Proxy as ByProxy}
use Rattle.cs_base.specs.Plan.{first_end, second_end}
use Rattle.mesh_core.specs.Start.{queue_to}
use Rattle.port_queue.specs.Plain.{Plain}
use Rattle.run_threads.specs.Proxied.{as_often, queues_along}
use Rattle.run_threads.specs.Queues.{as_empty}
use Rattle.slot_queue.specs.Ends.{Named}
use Rattle.slot_queue.specs.Closing.{Remains}
use Rattle.thread_run.specs.Closing.{slots_of, slots_along, each_queue, IsRoom, HasMoreRooms}

-- with rooms for the links from k on there is room for all
abbrev pub AreReserved : List Link → ℕ → List Remains → Type 0
AreReserved links k rooms = (more : List Remains) → AllZip IsRoom (slots_of (drop k links)) more → AllZip IsRoom (slots_of links) (rooms ++ more)

pub zip_on : (ns ms : List ℕ) (xs ys : List Remains) → AllZip IsRoom ns xs → AllZip IsRoom ms ys → AllZip IsRoom (ns ++ ms) (xs ++ ys)
zip_on [] ms [] ys each more = more
zip_on [] ms (x ∷ xs) ys each more = absurd each
zip_on (n ∷ ns) ms [] ys each more = absurd each
zip_on (n ∷ ns) ms (x ∷ xs) ys each more = (each.0, zip_on ns ms xs ys each.1 more)

pub one_more : (slots : ℕ) (old new : List Remains) (room : Remains) → IsRoom slots room → new ≡ old ++ room ∷ [] → HasMoreRooms (slots ∷ []) old new
one_more slots old new room fits is = record { more = room ∷ []; each = (fits, tt); longer = is }

pub then_more : (ns ms : List ℕ) (old mid new : List Remains) → HasMoreRooms ns old mid → HasMoreRooms ms mid new → HasMoreRooms (ns ++ ms) old new
then_more ns ms old mid new first second = record {
  more = first.more ++ second.more;
  each = zip_on ns ms first.more second.more first.each second.each;
  longer = second.longer ∙ ap (λ l. l ++ second.more) first.longer ∙ append_assoc old first.more second.more;
}

module _ (links : List Link) (k : ℕ) (rooms : List Remains) where
  pub reserved_more : (mid after : List Remains) (link : Link) → k < length links → link ≡ get_or links k link → AreReserved links k rooms → HasMoreRooms (each_queue link.via link.slots) rooms mid → HasMoreRooms (each_queue link.via link.slots) mid after → AreReserved links (k + 1) after
  reserved_more mid after link lt is so_far first second = λ more each.
      let both : HasMoreRooms (slots_along link) rooms after = then_more _ _ rooms mid after first second in
      let split : drop k links ≡ link ∷ drop (k + 1) links = drop-cons links k link lt ∙ ap₂ (λ (x : Link) (n : ℕ). x ∷ drop n links) (sym is) (let same : suc k ≡ k + 1 = omega arith in same) in
      let grown : AllZip IsRoom (slots_of (link ∷ drop (k + 1) links)) (both.more ++ more) = zip_on (slots_along link) (slots_of (drop (k + 1) links)) both.more more both.each each in
      let whole : AllZip IsRoom (slots_of links) (rooms ++ (both.more ++ more)) = so_far (both.more ++ more) (subst (λ (l : List Link). AllZip IsRoom (slots_of l) (both.more ++ more)) (sym split) grown) in
      let lists : after ++ more ≡ rooms ++ (both.more ++ more) = ap (λ l. l ++ more) both.longer ∙ append_assoc rooms both.more more in
      subst (AllZip IsRoom (slots_of links)) (sym lists) whole

  pub reserved_all : length links ≤ k → AreReserved links k rooms → AllZip IsRoom (slots_of links) rooms
  reserved_all past so_far =
      let none : AllZip IsRoom (slots_of (drop k links)) [] = subst (λ (l : List Link). AllZip IsRoom (slots_of l) []) (sym (drop_of_length-le links past)) tt in
      subst (AllZip IsRoom (slots_of links)) (append-nil rooms) (so_far [] none)

pub reserved_starts : (links : List Link) (rooms : List Remains) → rooms ≡ [] → AreReserved links 0 rooms
reserved_starts links rooms none = λ more each. subst (λ l. AllZip IsRoom (slots_of links) (l ++ more)) (sym none) each

pub as_many_rooms : (slots : List ℕ) (rooms : List Remains) → AllZip IsRoom slots rooms → length slots ≡ length rooms
as_many_rooms [] [] each = refl
as_many_rooms [] (room ∷ rooms) each = absurd each
as_many_rooms (n ∷ slots) [] each = absurd each
as_many_rooms (n ∷ slots) (room ∷ rooms) each = ap suc (as_many_rooms slots rooms each.1)

-- the queues of a wiring have as many slots as its links ask for
slots_often : (via : Via) (kind : PortKind) (slots : ℕ) → map (λ (p : Plain). p.slots) (as_often via (record { kind = kind; slots = slots; held = [] })) ≡ each_queue via slots
slots_often ByQueue kind slots = refl
slots_often ByProxy kind slots = refl

slots_asked : (kinds : List (List PortKind)) (links : List Link) → map (λ (p : Plain). p.slots) (flat_map (queues_along kinds) links) ≡ slots_of links
slots_asked kinds [] = refl
slots_asked kinds (link ∷ more) =
    let there = queue_to kinds link.slots (second_end link) in
    let back = queue_to kinds link.slots (first_end link) in
    map-append (λ (p : Plain). p.slots) (as_often link.via there ++ as_often link.via back) (flat_map (queues_along kinds) more)
    ∙ ap (λ l. l ++ map (λ (p : Plain). p.slots) (flat_map (queues_along kinds) more)) (map-append (λ (p : Plain). p.slots) (as_often link.via there) (as_often link.via back) ∙ ap₂ (λ a c. a ++ c) (slots_often link.via there.kind link.slots) (slots_often link.via back.kind link.slots))
    ∙ ap (λ l. slots_along link ++ l) (slots_asked kinds more)

slots_plain : (queues : List Named) → map (λ (q : Named). q.name.slots) queues ≡ map (λ (p : Plain). p.slots) (map as_empty queues)
slots_plain [] = refl
slots_plain (q ∷ qs) = ap (λ l. q.name.slots ∷ l) (slots_plain qs)

pub slots_of_new : (kinds : List (List PortKind)) (links : List Link) (queues : List Named) → map as_empty queues ≡ flat_map (queues_along kinds) links → slots_of links ≡ map (λ (q : Named). q.name.slots) queues
slots_of_new kinds links queues new = sym (slots_plain queues ∙ ap (map (λ (p : Plain). p.slots)) new ∙ slots_asked kinds links)
