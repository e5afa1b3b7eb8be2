-- A crew whole, after its rounds.
use Rattle.std.proofs.Common.{inl, ◌≡◌, ℕ, zero, suc, ◌+◌, ◌<◌, ◌≤◌, List, [], ◌∷◌, ◌++◌, length, map, get_or, All, Option, Some, None, refl, sym, ap, ap₂, ◌∙◌, subst, arith}
use Rattle.std.specs.Prelude.{slice_get, Result, Ok, Err}
use Rattle.std.specs.List.{filter_map, cons_option}
use Rattle.std.proofs.lemmas.List.{length-map}
use Rattle.std.proofs.lemmas.Option.{none-some, same_Some, slice_get_within, slice_get-get_or}
use Rattle.atomic_table.specs.Seated.{TableId}
use Rattle.cs_base.specs.declared.link.Link.{Link}
use Rattle.cs_base.specs.declared.port_kind.PortKind.{PortKind}
use Rattle.cs_base.specs.declared.wire_end.WireEnd.{WireEnd}
use Rattle.cs_base.specs.Wires.{OutSeen, InSeen}
use Rattle.crew_members.specs.Faring.{AllFared, OneFailed}
use Rattle.crew_members.specs.Hands.{HandIs, HandDid, HandFailed, component_of}
use Rattle.crew_members.specs.Sorts.{of_sort, among}
use Rattle.device_api.specs.Behaviour.{Behaviour}
use Rattle.mesh_core.proofs.Outcomes.{same_lists}
use Rattle.proxy_crew.specs.declared.proxied.Proxied.{Proxied}
use Rattle.proxy_crew.specs.declared.route.Route.{Route}
use Rattle.proxy_crew.specs.Dialing.{AreNewEnds, route_of, channel_of, near_end_of, far_end_of}
use Rattle.proxy_crew.specs.Ending.{HasRoom, HasDismissed, MayDismiss, Dismisses, end_of}
use Rattle.proxy_crew.specs.declared.dismissing.Dismissed.{Dismissed}
use Rattle.proxy_members.specs.Inward.{InFits, InDid, InFailed}
use Rattle.proxy_members.specs.Outward.{OutFits, OutDid, OutFailed}
use Rattle.proxy_crew.specs.Engaging.{Workers, AreEngaged, EngagedKeepComponents, RoundsKeepEnds, EndsFit, HasFared, HaveFared, IsMetBy, StayEngaged}
use Rattle.proxy_crew.specs.Engaging.IsMetBy.{by_component, by_sending, by_receiving}
use Rattle.proxy_members.specs.Differing.{AreInOrder, AllAgree, AgreeBelow, IsFirstToDiffer}
use Rattle.proxy_members.specs.declared.in_member.InMember.{InMember}
use Rattle.proxy_members.specs.declared.out_member.OutMember.{OutMember}
use Rattle.crew_members.specs.declared.hand.Hand.{Hand}
use Rattle.run_threads.specs.Closing.{HasRoomFor}
use Rattle.run_laws.proofs.Lists.{there_below}
use Rattle.slot_queue.specs.declared.ends.RxEnd.{RxEnd}
use Rattle.slot_queue.specs.declared.ends.TxEnd.{TxEnd}
use Rattle.slot_queue.specs.Ends.{Named, Sender, Receiver}
use Rattle.sync_laws.proofs.Changed.{all_at, get_mapped, mapped_at}
use Rattle.worker_rounds.specs.declared.mesh_bad.MeshBad.{MeshBad}
use Rattle.worker_rounds.specs.Crew.{AreSound, AllWorked, NoneKept, IsFirstKept}
use Rattle.worker_rounds.specs.Rounds.{Work, IsSound}
use Rattle.run_threads.specs.declared.crew.Crew.{Crew}
use Rattle.run_threads.specs.declared.part.Part.{Part}
use Rattle.run_threads.specs.Comparing.{EndsAgree, IsLeastToDiffer}
use Rattle.run_threads.specs.CrewOf.{IsCrewOf}
use Rattle.run_threads.specs.Laws.{AreSeated, ComingLeaves, WhateverComes, RoundsKeepIt, HaveEnded}
use Rattle.run_threads.specs.Parts.{PartFits, PartDid, PartFailed}
use Rattle.run_threads.specs.Proxied.{proxied, near_queues, far_queues, near_names, far_names}
use Rattle.run_threads.specs.Queues.{names_of, its_sender, its_receiver}
use Rattle.run_threads.specs.Routes.{routes_of}
use Rattle.run_threads.specs.Stock.{AreFresh}
use Rattle.run_threads.specs.Whole.{IsBuilt, AreEndsAt, EndsHold, IsDismissed, IsWholeCause, HasRun}
use Rattle.run_threads.specs.Whole.IsWholeCause.{by_component as whole_component, by_sending as whole_sending, by_receiving as whole_receiving, by_difference}
use Rattle.run_threads.proofs.Crews.{element}
use Rattle.run_threads.proofs.Routed.{AreFrom, proxied_rise, numbers_are}

each_is : {X : Type 0} (P : X → Type 0) (xs : List X) → ((i : ℕ) (x : X) → slice_get xs i ≡ Some x → P x) → All P xs
each_is P xs each k d within = each k _ (slice_get-get_or xs k d within)

-- ---- the ends, before the rounds and after

module _ {O I : Type 0} (out : O → OutSeen) (wire : I → InSeen) where
  pub new_ends_fit : (ends : List (Proxied O I)) → All (AreNewEnds out wire) ends → All (EndsFit out wire) ends
  new_ends_fit ends new k d within = (let one = new k d within in record { sending = one.sending.fits; receiving = one.receiving.fits })

  module _ (before after : List (Proxied O I)) (fared : HaveFared out wire before after) where
    -- what both ends keep
    kept_at : {X : Type 0} (f : Proxied O I → X) → ((a b : Proxied O I) → HasFared out wire a b → f b ≡ f a) → map f after ≡ map f before
    kept_at {X} f same = same_lists (map f after) (map f before) (length-map after f ∙ fared.as_many ∙ sym (length-map before f)) each
      where
        each : (i : ℕ) (x y : X) → slice_get (map f after) i ≡ Some x → slice_get (map f before) i ≡ Some y → x ≡ y
        each i x y at at' =
            let b = mapped_at f after (map f after) i x refl at in
            let a = mapped_at f before (map f before) i y refl at' in
            sym b.2 ∙ same a.0 b.0 (fared.each i a.0 b.0 a.1 b.1) ∙ a.2

    pub same_routes : map route_of after ≡ map route_of before
    same_routes = kept_at route_of (λ a b has. has.route)

    pub same_near : map (λ (one : Proxied O I). one.sending.near.seat.queue) after ≡ map (λ (one : Proxied O I). one.sending.near.seat.queue) before
    same_near = kept_at (λ (one : Proxied O I). one.sending.near.seat.queue) (λ a b has. has.sending.queue)

    pub same_far : map (λ (one : Proxied O I). one.receiving.far.seat.queue) after ≡ map (λ (one : Proxied O I). one.receiving.far.seat.queue) before
    same_far = kept_at (λ (one : Proxied O I). one.receiving.far.seat.queue) (λ a b has. has.receiving.queue)

    pub ends_hold : (links : List Link) (queues : List Named) → AreFresh (λ (end : RxEnd). end.seat) its_receiver (near_queues links queues) (proxied links) (map near_end_of before) → All (AreNewEnds out wire) before → All (λ (one : Proxied O I). one.sending.near.seat.kind ≡ one.route.kind) before → All (λ (one : Proxied O I). one.receiving.far.seat.kind ≡ one.route.kind) before → All (EndsHold out wire) after
    ends_hold links queues fresh new near_kinds far_kinds = each_is (EndsHold out wire) after each
      where
        each : (i : ℕ) (b : Proxied O I) → slice_get after i ≡ Some b → EndsHold out wire b
        each i b at =
            let old = there_below before i (let within : i < length after = slice_get_within after i b at in let many : length after ≡ length before = fared.as_many in omega arith) in
            let a : Proxied O I = old.0 in
            let has : HasFared out wire a b = fared.each i a b old.1 at in
            let is = all_at (AreNewEnds out wire) before new i a old.1 in
            let number = there_below (proxied links) i (let within : i < length before = slice_get_within before i a old.1 in let many : length (map near_end_of before) ≡ length (proxied links) = fresh.as_many in let same : length (map near_end_of before) ≡ length before = length-map before near_end_of in omega arith) in
            let unused = fresh.each i number.0 (near_end_of a) number.1 (get_mapped near_end_of before i a old.1) in
            record {
              sending = has.frames is.sending.fits;
              stream = has.sending.stream (inl (ap (λ (seat : Receiver). seat.received) unused.unused));
              receiving = has.pushed is.receiving.fits;
              sending_channel = has.sending.channel ∙ is.sending.channel_is ∙ ap channel_of (sym has.route);
              receiving_channel = has.receiving.channel ∙ is.receiving.channel_is ∙ ap channel_of (sym has.route);
              near_kind = has.sending.kind ∙ all_at (λ (one : Proxied O I). one.sending.near.seat.kind ≡ one.route.kind) before near_kinds i a old.1 ∙ ap (λ (r : Route). r.kind) (sym has.route);
              far_kind = has.receiving.kind ∙ all_at (λ (one : Proxied O I). one.receiving.far.seat.kind ≡ one.route.kind) before far_kinds i a old.1 ∙ ap (λ (r : Route). r.kind) (sym has.route);
            }

-- ---- the queues at which they stand

-- unused ends of the queues with these numbers are of those, in their order
fresh_names : {E S : Type 0} (seat_of : E → S) (side_of : Named → S) (name_in : S → TableId) → ((queue : Named) → name_in (side_of queue) ≡ queue.name) → (all : List Named) (numbers : List ℕ) (ends : List E) → AreFresh seat_of side_of all numbers ends → map (λ end. name_in (seat_of end)) ends ≡ filter_map (slice_get (names_of all)) numbers
fresh_names seat_of side_of name_in same all [] [] fresh = refl
fresh_names seat_of side_of name_in same all [] (e ∷ ends) fresh = absurd (let many : suc (length ends) ≡ 0 = fresh.as_many in omega arith)
fresh_names seat_of side_of name_in same all (k ∷ numbers) [] fresh = absurd (let many : 0 ≡ suc (length numbers) = fresh.as_many in omega arith)
fresh_names seat_of side_of name_in same all (k ∷ numbers) (e ∷ ends) fresh =
    let one = fresh.each 0 k e refl refl in
    let named : slice_get (names_of all) k ≡ Some (name_in (seat_of e)) = get_mapped (λ (queue : Named). queue.name) all k one.queue one.named ∙ ap Some (sym (ap name_in one.unused ∙ same one.queue)) in
    ap (λ l. name_in (seat_of e) ∷ l) (fresh_names seat_of side_of name_in same all numbers ends (record { as_many = (let many : suc (length ends) ≡ suc (length numbers) = fresh.as_many in omega arith); each = λ port number x at got. fresh.each (suc port) number x at got }))
    ∙ ap (λ o. cons_option o (filter_map (slice_get (names_of all)) numbers)) (sym named)

map_again : {X Y Z : Type 0} (g : Y → Z) (f : X → Y) (xs : List X) → map (λ x. g (f x)) xs ≡ map g (map f xs)
map_again g f [] = refl
map_again g f (x ∷ xs) = ap (λ l. g (f x) ∷ l) (map_again g f xs)

pub ends_at : {O I : Type 0} (out : O → OutSeen) (wire : I → InSeen) (links : List Link) (queues : List Named) (before after : List (Proxied O I)) → AreFresh (λ (end : RxEnd). end.seat) its_receiver (near_queues links queues) (proxied links) (map near_end_of before) → AreFresh (λ (end : TxEnd). end.seat) its_sender (far_queues links queues) (proxied links) (map far_end_of before) → HaveFared out wire before after → AreEndsAt links queues after
ends_at {O} {I} out wire links queues before after outs ins fared = record {
  near = same_near out wire before after fared ∙ map_again (λ (end : RxEnd). end.seat.queue) near_end_of before ∙ fresh_names (λ (end : RxEnd). end.seat) its_receiver (λ (seat : Receiver). seat.queue) (λ queue. refl) (near_queues links queues) (proxied links) (map near_end_of before) outs;
  far = same_far out wire before after fared ∙ map_again (λ (end : TxEnd). end.seat.queue) far_end_of before ∙ fresh_names (λ (end : TxEnd). end.seat) its_sender (λ (seat : Sender). seat.queue) (λ queue. refl) (far_queues links queues) (proxied links) (map far_end_of before) ins;
}

-- ---- the order in which they are compared

pub in_order : {O I : Type 0} (kinds : List (List PortKind)) (links : List Link) (ends : List (Proxied O I)) → map route_of ends ≡ routes_of kinds links → ((i : ℕ) (one : Proxied O I) → slice_get ends i ≡ Some one → one.sending.channel ≡ one.route.channel) → AreInOrder (map end_of ends)
in_order {O} {I} kinds links ends routes same = record { rising = rising }
  where
    number_at : (i : ℕ) (one : Proxied O I) → slice_get ends i ≡ Some one → slice_get (proxied links) i ≡ Some one.sending.channel
    number_at i one at = ap (λ l. slice_get l i) (sym (numbers_are kinds links)) ∙ get_mapped channel_of (routes_of kinds links) i one.route (ap (λ l. slice_get l i) (sym routes) ∙ get_mapped route_of ends i one at) ∙ ap Some (sym (same i one at))

    rising : (i j : ℕ) (a b : WireEnd O I) → i < j → slice_get (map end_of ends) i ≡ Some a → slice_get (map end_of ends) j ≡ Some b → a.channel < b.channel
    rising i j a b less at at' =
        let x = mapped_at end_of ends (map end_of ends) i a refl at in
        let y = mapped_at end_of ends (map end_of ends) j b refl at' in
        let lt : x.0.sending.channel < y.0.sending.channel = (proxied_rise links).rising i j x.0.sending.channel y.0.sending.channel less (number_at i x.0 x.1) (number_at j y.0 y.1) in
        subst (λ (e : WireEnd O I). a.channel < e.channel) y.2 (subst (λ (e : WireEnd O I). e.channel < y.0.sending.channel) x.2 lt)

-- ---- the faults that are kept

-- a worker that is there, in what is made of all
made_at : {X Y : Type 0} (f : X → Y) (xs : List X) (k : ℕ) (d : X) (e : Y) → k < length xs → get_or (map f xs) k e ≡ f (get_or xs k d)
made_at f xs k d e within = element (map f xs) k (f (get_or xs k d)) e (get_mapped f xs k (get_or xs k d) (slice_get-get_or xs k d within))

module _ {H M : Type 0} (sort : H → Option M) (workers : List (Work H)) where
  as_many_among : length (among sort workers) ≡ length workers
  as_many_among = length-map workers (of_sort sort)

  pub none_kept : (fits : H → Type 0) → AreSound fits workers → NoneKept (among sort workers) (length (among sort workers))
  none_kept fits sound = record { none = none }
    where
      none : (k : ℕ) (d : Work M) → k < length (among sort workers) → (get_or (among sort workers) k d).fault ≡ None
      none k d within =
          let below : k < length workers = (let many : length (among sort workers) ≡ length workers = as_many_among in omega arith) in
          let one = there_below workers k below in
          ap (λ (x : Work M). x.fault) (made_at (of_sort sort) workers k one.0 d below) ∙ (sound k one.0 below).no_fault

  pub first_kept : (fault : MeshBad) → IsFirstKept workers (length workers) fault → IsFirstKept (among sort workers) (length (among sort workers)) fault
  first_kept fault is = record {
    place = is.place;
    within = (let many : length (among sort workers) ≡ length workers = as_many_among in let below : is.place < length workers = is.within in omega arith);
    kept = λ d. (let one = there_below workers is.place is.within in ap (λ (x : Work M). x.fault) (made_at (of_sort sort) workers is.place one.0 d is.within) ∙ is.kept one.0);
    first = λ k d other within kept. (let below : k < length workers = (let many : length (among sort workers) ≡ length workers = as_many_among in omega arith) in let one = there_below workers k below in is.first k one.0 other below (ap (λ (x : Work M). x.fault) (sym (made_at (of_sort sort) workers k one.0 d below)) ∙ kept));
  }

-- ---- the whole

err_not_ok : {T : Type 0} (fault : MeshBad) (done : T) → (let answer : Result T MeshBad = Err fault in answer ≡ Ok done) → ⊥
err_not_ok fault done e = absurd cc

ok_not_err : {T : Type 0} (fault : MeshBad) (done : T) → (let answer : Result T MeshBad = Ok done in answer ≡ Err fault) → ⊥
ok_not_err fault done e = absurd cc

same_fault : {T : Type 0} (fault other : MeshBad) → (let answer : Result T MeshBad = Err fault in answer ≡ Err other) → fault ≡ other
same_fault fault other e = cc

any_default : {X : Type 0} (xs : List X) (k : ℕ) (d e : X) → k < length xs → get_or xs k d ≡ get_or xs k e
any_default xs k d e within = (let one = there_below xs k within in element xs k one.0 d one.1 ∙ sym (element xs k one.0 e one.1))

module _ {V O I : Type 0} (b : Behaviour V) (settled : V → ℕ → Type 0) (out : O → OutSeen) (wire : I → InSeen) (starts : List V) (kinds : List (List PortKind)) (links : List Link) (end : ℕ) (queues : List Named) (old : Crew V O I) (built : IsBuilt b settled out wire starts kinds links end queues old) (mid : Workers (Part V) O I) (stay : StayEngaged (PartDid b settled) PartFailed out wire built.ends old.workers.items mid) where
  routes_stay : map route_of stay.ends ≡ routes_of kinds links
  routes_stay = same_routes out wire built.ends stay.ends stay.fared ∙ built.routes

  pub routes_left : map route_of stay.ends ≡ old.routes
  routes_left = routes_stay ∙ sym built.to_dismiss

  pub may_dismiss : MayDismiss mid old.routes old.dismissed
  may_dismiss = record {
    parts = among component_of mid;
    ends = stay.ends;
    engaged = stay.engaged;
    routes_are = routes_left;
    room = subst (λ l. HasRoom (length l) old.dismissed) (sym built.to_dismiss) built.room_between;
  }

  hold : All (EndsHold out wire) stay.ends
  hold = ends_hold out wire built.ends stay.ends stay.fared links queues built.between.outs_of built.new_ends built.near_kinds built.far_kinds

  pub ends_in_order : AreInOrder (map end_of stay.ends)
  ends_in_order = in_order kinds links stay.ends routes_stay (λ i one at. (all_at (EndsHold out wire) stay.ends hold i one at).sending_channel)

  module _ (same : among component_of old.workers.items ≡ built.parts) (many : length mid ≡ length old.workers.items) (seats : AreSeated b settled) (come : ComingLeaves b settled built.parts (among component_of mid)) (new : Crew V O I) (gone : HasDismissed (among component_of mid) stay.ends new.workers.items new.dismissed) (closing : new.closing ≡ old.closing) where
    run_with : {T : Type 0} (result : Result T MeshBad) → ((done : T) → result ≡ Ok done → IsCrewOf b settled starts links end (near_names links queues) (far_names links queues) (among component_of mid)) → ((done : T) → result ≡ Ok done → HaveEnded b (among component_of mid)) → ((done : T) → result ≡ Ok done → AllAgree (map end_of stay.ends)) → ((fault : MeshBad) → result ≡ Err fault → IsWholeCause b out wire starts links (among component_of mid) stay.ends fault) → HasRun b settled out wire starts kinds links end queues new result
    run_with result crew ended agree cause = record {
      parts = among component_of mid;
      ends = stay.ends;
      dismissed = record {
        workers_are = gone.workers_are;
        seated = come.seated (length starts) links (near_names links queues) (far_names links queues) (seats starts links end (near_names links queues) (far_names links queues) built.parts built.parts_are);
        ends_at = ends_at out wire links queues built.ends stay.ends built.between.outs_of built.between.ins_of stay.fared;
        left = gone.left_are;
        room = subst (HasRoomFor (length starts) links) (sym closing) built.room;
      };
      introduced = come.introduced starts links end (near_names links queues) (far_names links queues) built.parts_are;
      routes = routes_stay;
      hold = hold;
      parts_are = crew;
      have_ended = ended;
      agree = agree;
      cause = cause;
    }

    -- the workers' first fault was met by a component or by an end
    module _ (fault : MeshBad) (first : IsFirstKept mid (length mid) fault) where
      within_old : first.place < length old.workers.items
      within_old = (let below : first.place < length mid = first.within in omega (arith, many))

      among_old : length (among component_of old.workers.items) ≡ length old.workers.items
      among_old = length-map old.workers.items (of_sort component_of)

      among_mid : length (among component_of mid) ≡ length mid
      among_mid = length-map mid (of_sort component_of)

      in_old : first.place < length (among component_of old.workers.items)
      in_old = (let below : first.place < length old.workers.items = within_old in omega (arith, among_old))

      in_mid : first.place < length (among component_of mid)
      in_mid = (let below : first.place < length mid = first.within in omega (arith, among_mid))

      at_any : (d e : Work (Part V)) → OneFailed (PartDid b settled) PartFailed (get_or (among component_of old.workers.items) first.place d).members (get_or (among component_of mid) first.place d).members fault → OneFailed (PartDid b settled) PartFailed (get_or built.parts first.place e).members (get_or (among component_of mid) first.place e).members fault
      at_any d e failed =
          subst (λ (l : List (Work (Part V))). OneFailed (PartDid b settled) PartFailed (get_or l first.place e).members (get_or (among component_of mid) first.place e).members fault) same
          (subst (λ (x : Work (Part V)). OneFailed (PartDid b settled) PartFailed x.members (get_or (among component_of mid) first.place e).members fault) (any_default (among component_of old.workers.items) first.place d e in_old)
          (subst (λ (x : Work (Part V)). OneFailed (PartDid b settled) PartFailed (get_or (among component_of old.workers.items) first.place d).members x.members fault) (any_default (among component_of mid) first.place d e in_mid) failed))

      cause_of : (d : Work (Part V)) → IsMetBy (PartDid b settled) PartFailed out wire (get_or (among component_of old.workers.items) first.place d).members (get_or (among component_of mid) first.place d).members stay.ends fault → IsWholeCause b out wire starts links (among component_of mid) stay.ends fault
      cause_of d (by_component failed) = whole_component (first_kept component_of mid fault first) (come.cause first.place fault (subst (λ (l : List (Work (Part V))). first.place < length l) same in_old) (λ e. at_any d e failed) starts links end (near_names links queues) (far_names links queues) built.parts_are)
      cause_of d (by_sending k one at says) = whole_sending k one (first_kept component_of mid fault first) at says
      cause_of d (by_receiving k one at says) = whole_receiving k one (first_kept component_of mid fault first) at says

      whole_cause : IsWholeCause b out wire starts links (among component_of mid) stay.ends fault
      whole_cause =
          let d = there_below (among component_of mid) first.place in_mid in
          let e = there_below mid first.place first.within in
          cause_of d.0 (stay.met (new_ends_fit out wire built.ends built.new_ends) first.place d.0 e.0 fault within_old (first.kept e.0))

      pub after_fault : {T : Type 0} → HasRun {T = T} b settled out wire starts kinds links end queues new (Err fault)
      after_fault = run_with (Err fault) (λ done is. absurd (err_not_ok fault done is)) (λ done is. absurd (err_not_ok fault done is)) (λ done is. absurd (err_not_ok fault done is)) (λ other is. subst (IsWholeCause b out wire starts links (among component_of mid) stay.ends) (same_fault fault other is) whole_cause)

    pub after_rounds : {T : Type 0} (fits : Hand (Part V) (OutMember O) (InMember I) → Type 0) → AreSound fits mid → IsCrewOf b settled starts links end (near_names links queues) (far_names links queues) (among component_of mid) → HaveEnded b (among component_of mid) → (result : Result T MeshBad) → EndsAgree new.dismissed.ends.items result → HasRun b settled out wire starts kinds links end queues new result
    after_rounds fits sound crew ended (Ok done) agrees = run_with (Ok done) (λ any is. crew) (λ any is. ended) (λ any is. subst AllAgree gone.left_are.ends_are agrees) (λ fault is. absurd (ok_not_err fault done is))
    after_rounds fits sound crew ended (Err fault) least = run_with (Err fault) (λ done is. absurd (err_not_ok fault done is)) (λ done is. absurd (err_not_ok fault done is)) (λ done is. absurd (err_not_ok fault done is)) (λ other is. subst (IsWholeCause b out wire starts links (among component_of mid) stay.ends) (same_fault fault other is) (by_difference least.channel least.differ (none_kept component_of mid fits sound) least.fault_is (subst (λ l. IsFirstToDiffer l least.channel least.differ) gone.left_are.ends_are least.differs) (subst (λ l. AgreeBelow l least.channel) gone.left_are.ends_are least.below)))

-- ---- what the laws of members and of parts make of rounds

module _ {V O I : Type 0} (b : Behaviour V) (settled : V → ℕ → Type 0) (out : O → OutSeen) (wire : I → InSeen) where
  abbrev pub FitHands : Hand (Part V) (OutMember O) (InMember I) → Type 0
  FitHands = HandIs (PartFits b settled) (OutFits out) (InFits wire)

  abbrev pub Rounds : Workers (Part V) O I → Workers (Part V) O I → Type 0
  Rounds old new = AllWorked (HandDid (PartDid b settled) (OutDid out) (InDid wire)) (HandFailed PartFailed (OutFailed out) (InFailed wire)) FitHands old new

  module _ (components : EngagedKeepComponents (Part V) O I) (rounds : RoundsKeepEnds (PartDid b settled) PartFailed (PartFits b settled) out wire) (fared : (old new : Workers (Part V) O I) → Rounds old new → AllFared (PartDid b settled) PartFailed (among component_of old) (among component_of new)) (comes : WhateverComes b settled) (seats : AreSeated b settled) (starts : List V) (kinds : List (List PortKind)) (links : List Link) (end : ℕ) (queues : List Named) (old : Crew V O I) (built : IsBuilt b settled out wire starts kinds links end queues old) (mid : Workers (Part V) O I) (worked : Rounds old.workers.items mid) where
    pub stay : StayEngaged (PartDid b settled) PartFailed out wire built.ends old.workers.items mid
    stay = rounds built.parts built.ends old.workers.items mid built.engaged worked

    pub same_parts : among component_of old.workers.items ≡ built.parts
    same_parts = components built.parts built.ends old.workers.items built.engaged

    pub come : ComingLeaves b settled built.parts (among component_of mid)
    come = comes built.parts (among component_of mid) (subst (λ l. AllFared (PartDid b settled) PartFailed l (among component_of mid)) same_parts (fared old.workers.items mid worked))

    pub dismiss_fits : (now : Workers (Part V) O I) → now ≡ mid → MayDismiss now old.routes old.dismissed
    dismiss_fits now is = subst (λ ws. MayDismiss ws old.routes old.dismissed) (sym is) (may_dismiss b settled out wire starts kinds links end queues old built mid stay)

    module _ (now : Workers (Part V) O I) (is : now ≡ mid) (after : Workers (Part V) O I) (left : Dismissed O I) (dismisses : Dismisses old.routes now after left) where
      gone : HasDismissed (among component_of mid) stay.ends after left
      gone = dismisses (among component_of mid) stay.ends (subst (AreEngaged (among component_of mid) stay.ends) (sym is) stay.engaged) (routes_left b settled out wire starts kinds links end queues old built mid stay)

      pub left_in_order : AreInOrder left.ends.items
      left_in_order = subst AreInOrder (sym gone.left_are.ends_are) (ends_in_order b settled out wire starts kinds links end queues old built mid stay)

      module _ (new : Crew V O I) (workers_are : new.workers.items ≡ after) (left_is : new.dismissed ≡ left) (closing : new.closing ≡ old.closing) where
        gone_so : HasDismissed (among component_of mid) stay.ends new.workers.items new.dismissed
        gone_so = subst (λ ws. HasDismissed (among component_of mid) stay.ends ws new.dismissed) (sym workers_are) (subst (HasDismissed (among component_of mid) stay.ends after) (sym left_is) gone)

        pub has_failed : {T : Type 0} (fault : MeshBad) → IsFirstKept mid (length mid) fault → HasRun {T = T} b settled out wire starts kinds links end queues new (Err fault)
        has_failed fault first = after_fault b settled out wire starts kinds links end queues old built mid stay same_parts worked.as_many seats come new gone_so closing fault first

        pub has_ended : {T : Type 0} → AreSound FitHands mid → IsCrewOf b settled starts links end (near_names links queues) (far_names links queues) (among component_of mid) → HaveEnded b (among component_of mid) → (result : Result T MeshBad) → EndsAgree left.ends.items result → HasRun b settled out wire starts kinds links end queues new result
        has_ended sound crew ended result agrees = after_rounds b settled out wire starts kinds links end queues old built mid stay same_parts worked.as_many seats come new gone_so closing FitHands sound crew ended result (subst (λ (d : Dismissed O I). EndsAgree d.ends.items result) (sym left_is) agrees)

    -- rounds of all that met no fault kept the crew
    pub crew_kept : RoundsKeepIt b settled → ((before after : Workers (Part V) O I) → Rounds before after → AreSound FitHands after → AllWorked (PartDid b settled) PartFailed (PartFits b settled) (among component_of before) (among component_of after)) → ((ws : Workers (Part V) O I) → AreSound FitHands ws → AreSound (PartFits b settled) (among component_of ws)) → AreSound FitHands mid → IsCrewOf b settled starts links end (near_names links queues) (far_names links queues) (among component_of mid)
    crew_kept keeps worked_too sound_too sound = keeps built.parts (among component_of mid) (subst (λ l. AllWorked (PartDid b settled) PartFailed (PartFits b settled) l (among component_of mid)) same_parts (worked_too old.workers.items mid worked sound)) (sound_too mid sound) starts links end (near_names links queues) (far_names links queues) built.parts_are
