-- A crew whole, as it is made.
use Rattle.std.proofs.Common.{◌≡◌, ℕ, zero, suc, ◌+◌, ◌<◌, ◌≤◌, List, [], ◌∷◌, ◌++◌, ◌%◌, length, map, take, All, Option, Some, None, refl, sym, ap, ap₂, ◌∙◌, subst, append-nil, arith}
use Rattle.std.specs.Prelude.{slice_get, option_map}
use Rattle.std.proofs.lemmas.List.{length-map}
use Rattle.std.proofs.lemmas.List.Elements.{All-from_get_or}
use Rattle.std.proofs.lemmas.Option.{none-some, same_Some, slice_get_within, slice_get-get_or}
use Rattle.cs_base.specs.declared.link.Link.{Link}
use Rattle.cs_base.specs.declared.port_kind.PortKind.{PortKind}
use Rattle.cs_base.specs.Wires.{DialerSeen, OutSeen, InSeen}
use Rattle.crew_members.specs.Staffing.{AreUnused, as_hands}
use Rattle.device_api.specs.Behaviour.{Behaviour}
use Rattle.proxy_crew.specs.declared.proxied.Proxied.{Proxied}
use Rattle.proxy_crew.specs.declared.route.Route.{Route}
use Rattle.proxy_crew.specs.Dialing.{AreDialed, DialedAll, DialedSome, route_of, channel_of, kind_of, near_end_of, far_end_of}
use Rattle.proxy_crew.specs.Engaging.{Workers, AreEngaged}
use Rattle.proxy_crew.specs.Engaging.AreEngaged.{none_came, one_came}
use Rattle.proxy_crew.specs.Ending.{HasRoom}
use Rattle.run_laws.proofs.Lists.{there_below}
use Rattle.slot_queue.specs.declared.ends.RxEnd.{RxEnd}
use Rattle.slot_queue.specs.declared.ends.TxEnd.{TxEnd}
use Rattle.slot_queue.specs.Ends.{Named, Sender, Receiver}
use Rattle.sync_laws.proofs.Changed.{all_at, get_mapped, map_mapped, length_replaced}
use Rattle.worker_rounds.specs.Crew.{AreSound}
use Rattle.worker_rounds.specs.Rounds.{Work, IsSound}
use Rattle.run_threads.specs.declared.build.Ready.{Ready}
use Rattle.run_threads.specs.declared.crew.Crew.{Crew}
use Rattle.run_threads.specs.declared.part.Part.{Part}
use Rattle.run_threads.specs.Building.{IsNewCrew}
use Rattle.run_threads.specs.Closing.{HasRoomFor}
use Rattle.run_threads.specs.CrewOf.{IsCrewOf}
use Rattle.run_threads.specs.Dealing.{AreNumbered}
use Rattle.run_threads.specs.Proxied.{AreAllNew, proxied, near_queues, far_queues, near_names, far_names}
use Rattle.run_threads.specs.Queues.{its_sender, its_receiver}
use Rattle.run_threads.specs.Ready.{IsReady, Builds}
use Rattle.run_threads.specs.Routes.{routes_of}
use Rattle.run_threads.specs.Sharing.{AreBetween}
use Rattle.run_threads.specs.Stock.{AreFresh}
use Rattle.run_threads.specs.Whole.{IsBuilt}
use Rattle.run_threads.proofs.Routed.{fresh_kinds, numbers_are}
use Rattle.run_threads.proofs.SharedOut.{nears_are_new, fars_are_new}

-- ---- before the dials

pub are_unused : {M : Type 0} (fits : M → Type 0) (workers : List (Work M)) → AreNumbered workers → AreSound fits workers → AreUnused workers
are_unused fits workers numbered sound = record {
  number = numbered.each;
  no_fault = λ w worker at. (all_at (IsSound fits) workers sound w worker at).no_fault;
}

each_is : {X : Type 0} (P : X → Type 0) (xs : List X) → ((i : ℕ) (x : X) → slice_get xs i ≡ Some x → P x) → All P xs
each_is P xs each k d within = each k _ (slice_get-get_or xs k d within)

-- unused ends of queues hold that which their sides hold
fresh_are : {E S X : Type 0} (seat_of : E → S) (side_of : Named → S) (get : S → X) (x : X) → ((queue : Named) → get (side_of queue) ≡ x) → (all : List Named) (numbers : List ℕ) (ends : List E) → AreFresh seat_of side_of all numbers ends → All (λ end. get (seat_of end) ≡ x) ends
fresh_are {E} {S} {X} seat_of side_of get x same all numbers ends fresh = each_is (λ end. get (seat_of end) ≡ x) ends each
  where
    each : (i : ℕ) (end : E) → slice_get ends i ≡ Some end → get (seat_of end) ≡ x
    each i end at =
        let number = there_below numbers i (let within : i < length ends = slice_get_within ends i end at in let many : length ends ≡ length numbers = fresh.as_many in omega arith) in
        let one = fresh.each i number.0 end number.1 at in
        ap get one.unused ∙ same one.queue

pub none_received : (links : List Link) (queues : List Named) (outs : List RxEnd) (ins : List TxEnd) → AreBetween links queues outs ins → All (λ (end : RxEnd). end.seat.received ≡ []) outs
none_received links queues outs ins between = fresh_are (λ (end : RxEnd). end.seat) its_receiver (λ (seat : Receiver). seat.received) [] (λ queue. refl) (near_queues links queues) (proxied links) outs between.outs_of

pub none_sent : (links : List Link) (queues : List Named) (outs : List RxEnd) (ins : List TxEnd) → AreBetween links queues outs ins → All (λ (end : TxEnd). end.seat.sent ≡ []) ins
none_sent links queues outs ins between = fresh_are (λ (end : TxEnd). end.seat) its_sender (λ (seat : Sender). seat.sent) [] (λ queue. refl) (far_queues links queues) (proxied links) ins between.ins_of

pub as_many_outs : (kinds : List (List PortKind)) (links : List Link) (queues : List Named) (outs : List RxEnd) (ins : List TxEnd) → AreBetween links queues outs ins → length outs ≡ length (routes_of kinds links)
as_many_outs kinds links queues outs ins between = between.outs_of.as_many ∙ ap length (sym (numbers_are kinds links)) ∙ length-map (routes_of kinds links) channel_of

module _ {V O I : Type 0} (b : Behaviour V) (settled : V → ℕ → Type 0) where
  pub is_ready : (starts : List V) (kinds : List (List PortKind)) (links : List Link) (end : ℕ) (queues : List Named) (producers : List Sender) (consumers : List Receiver) → AreAllNew kinds links queues producers consumers → map b.ports starts ≡ kinds → (ready : Ready V O I) → IsCrewOf b settled starts links end (near_names links queues) (far_names links queues) ready.staffed.workers.items → IsNewCrew b starts links end (near_queues links queues) (far_queues links queues) ready.staffed.workers.items → AreNumbered ready.staffed.workers.items → AreBetween links queues ready.staffed.outs.items ready.staffed.ins.items → ready.routes.items ≡ routes_of kinds links → HasRoomFor (length kinds) links ready.closing → HasRoom (length ready.routes.items) ready.dismissed → IsReady b settled starts kinds links end queues ready
  is_ready starts kinds links end queues producers consumers new matches ready crew fresh numbered between routes room room_between = record {
    parts_are = crew;
    new_parts = fresh;
    unused = are_unused _ ready.staffed.workers.items numbered crew.sound;
    between = between;
    near_kinds = fresh_kinds (λ (end : RxEnd). end.seat) its_receiver (λ (seat : Receiver). seat.kind) (λ queue. refl) kinds links (near_queues links queues) (nears_are_new kinds queues links new.queues_are) ready.staffed.outs.items between.outs_of;
    far_kinds = fresh_kinds (λ (end : TxEnd). end.seat) its_sender (λ (seat : Sender). seat.kind) (λ queue. refl) kinds links (far_queues links queues) (fars_are_new kinds queues links new.queues_are) ready.staffed.ins.items between.ins_of;
    routes_are = routes;
    room = subst (λ n. HasRoomFor n links ready.closing) (ap length (sym matches) ∙ length-map starts b.ports) room;
    room_between = subst (λ n. HasRoom n ready.dismissed) (ap length routes) room_between;
  }

-- ---- after them

-- what is made of two lists is the same at each place of a third that they are made from
same_at : {X Y : Type 0} (f g : X → Y) (xs : List X) → map f xs ≡ map g xs → All (λ x. f x ≡ g x) xs
same_at f g xs same = each_is (λ x. f x ≡ g x) xs (λ i x at. same_Some (f x) (g x) (sym (get_mapped f xs i x at) ∙ ap (λ l. slice_get l i) same ∙ get_mapped g xs i x at))

module _ {V O I : Type 0} (b : Behaviour V) (settled : V → ℕ → Type 0) (out : O → OutSeen) (wire : I → InSeen) where
  pub is_built : (ready : Ready V O I) (ends : List (Proxied O I)) (crew : Crew V O I) → AreDialed out wire ready.routes.items ready.staffed.outs.items ready.staffed.ins.items ends → AreEngaged ready.staffed.workers.items ends crew.workers.items → crew.routes ≡ ready.routes.items → crew.dismissed ≡ ready.dismissed → crew.closing ≡ ready.closing → Builds b settled out wire ready crew
  is_built ready ends crew dialed engaged to_dismiss dismissed closing starts kinds links end queues is = record {
    parts = ready.staffed.workers.items;
    ends = ends;
    engaged = engaged;
    parts_are = is.parts_are;
    new_parts = is.new_parts;
    new_ends = dialed.new;
    routes = dialed.routes_are ∙ is.routes_are;
    between = subst (λ l. AreBetween links queues l (map far_end_of ends)) (sym dialed.near_are) (subst (AreBetween links queues ready.staffed.outs.items) (sym dialed.far_are) is.between);
    near_kinds = same_at (λ (one : Proxied O I). one.sending.near.seat.kind) (λ (one : Proxied O I). one.route.kind) ends (sym (map_mapped (λ (end : RxEnd). end.seat.kind) near_end_of (λ (one : Proxied O I). one.sending.near.seat.kind) ends (λ one. refl)) ∙ ap (map (λ (end : RxEnd). end.seat.kind)) dialed.near_are ∙ is.near_kinds ∙ ap (map kind_of) (sym (dialed.routes_are ∙ is.routes_are)) ∙ map_mapped kind_of route_of (λ (one : Proxied O I). one.route.kind) ends (λ one. refl));
    far_kinds = same_at (λ (one : Proxied O I). one.receiving.far.seat.kind) (λ (one : Proxied O I). one.route.kind) ends (sym (map_mapped (λ (end : TxEnd). end.seat.kind) far_end_of (λ (one : Proxied O I). one.receiving.far.seat.kind) ends (λ one. refl)) ∙ ap (map (λ (end : TxEnd). end.seat.kind)) dialed.far_are ∙ is.far_kinds ∙ ap (map kind_of) (sym (dialed.routes_are ∙ is.routes_are)) ∙ map_mapped kind_of route_of (λ (one : Proxied O I). one.route.kind) ends (λ one. refl));
    to_dismiss = to_dismiss ∙ is.routes_are;
    room = subst (HasRoomFor (length starts) links) (sym closing) is.room;
    room_between = subst (HasRoom (length (routes_of kinds links))) (sym dismissed) is.room_between;
  }

-- ---- what the dialer tells

none_more : (before : Option (List ℕ)) → before ≡ option_map (λ l. l ++ []) before
none_more None = refl
none_more (Some l) = ap Some (sym (append-nil l))

pub none_dialed : (channels : List ℕ) (old new : DialerSeen) → new ≡ old → DialedSome channels old new
none_dialed channels old new same = record {
  count = 0;
  within = omega arith;
  dialed = ap (λ (d : DialerSeen). d.dialed) same ∙ none_more old.dialed;
  never_falls = (let e : new.faults ≡ old.faults = ap (λ (d : DialerSeen). d.faults) same in omega arith);
}

take_whole : {X : Type 0} (xs : List X) → take (length xs) xs ≡ xs
take_whole [] = refl
take_whole (x ∷ xs) = ap (λ l. x ∷ l) (take_whole xs)

pub all_are_some : (channels : List ℕ) (old new : DialerSeen) → DialedAll channels old new → DialedSome channels old new
all_are_some channels old new all = record {
  count = length channels;
  within = omega arith;
  dialed = all.dialed ∙ ap (λ l. option_map (λ before. before ++ l) old.dialed) (sym (take_whole channels));
  never_falls = (let e : new.faults ≡ old.faults = all.no_fault in omega arith);
}

pub as_many_engaged : {C O I : Type 0} (parts : List (Work C)) (ends : List (Proxied O I)) (workers : Workers C O I) → AreEngaged parts ends workers → length workers ≡ length parts
as_many_engaged parts _ _ (none_came workers is) = ap length is ∙ length-map parts as_hands
as_many_engaged parts _ _ (one_came before one old mid new engaged first last) = ap length last.is ∙ length_replaced mid (one.route.receiver % length parts) _ ∙ ap length first.is ∙ length_replaced old (one.route.sender % length parts) _ ∙ as_many_engaged parts before old engaged
