-- The channels that go by proxy: their numbers, and the kinds of their queues.
use Rattle.std.proofs.Common.{◌≡◌, ℕ, zero, suc, ◌+◌, ◌<◌, ◌≤◌, List, [], ◌∷◌, ◌++◌, length, map, drop, All, Option, Some, refl, sym, ap, ap₂, ◌∙◌, subst, append_assoc, append-nil, length-append, arith}
use Rattle.std.specs.Prelude.{slice_get, option_map}
use Rattle.std.specs.List.{flat_map}
use Rattle.std.proofs.lemmas.List.{length-map, drop_all}
use Rattle.std.proofs.lemmas.Option.{none-some, same_Some, slice_get_read}
use Rattle.cs_base.specs.declared.link.Link.{Link}
use Rattle.cs_base.specs.declared.port_kind.PortKind.{PortKind}
use Rattle.cs_base.specs.declared.port_kind.Via.{Via}
use Rattle.cs_base.specs.declared.port_kind.Via.TheVariants.{Queue as ByQueue, Proxy as ByProxy}
use Rattle.cs_base.specs.Plan.{first_end, second_end}
use Rattle.mesh_core.proofs.Outcomes.{same_lists}
use Rattle.mesh_core.specs.Start.{queue_to, queues_of, two_each}
use Rattle.port_queue.specs.Plain.{Plain}
use Rattle.proxy_crew.specs.declared.route.Route.{Route}
use Rattle.proxy_crew.specs.Dialing.{channel_of, kind_of}
use Rattle.slot_queue.specs.Ends.{Named}
use Rattle.sync_laws.proofs.Changed.{mapped_at, get_mapped}
use Rattle.run_threads.specs.Proxied.{only_proxied, proxied_from, proxied, queues_along, near_queues, far_queues}
use Rattle.run_threads.specs.Queues.{as_empty}
use Rattle.run_threads.specs.Routes.{route_along, routes_from, routes_of}
use Rattle.run_threads.specs.Stock.{AreFresh}
use Rattle.run_threads.proofs.SharedOut.{from_there}

-- ---- one link after another

pub next_route : (kinds : List (List PortKind)) (links : List Link) (i k : ℕ) (link : Link) (routes routes' all : List Route) → slice_get links i ≡ Some link → routes' ≡ routes ++ only_proxied link.via (route_along kinds k (first_end link) (second_end link) ∷ (route_along kinds (k + 1) (second_end link) (first_end link) ∷ [])) → routes ++ routes_from kinds k (drop i links) ≡ all → routes' ++ routes_from kinds (k + 2) (drop (i + 1) links) ≡ all
unfolding routes_from
next_route kinds links i k link routes routes' all there is so_far =
    ap (λ l. l ++ routes_from kinds (k + 2) (drop (i + 1) links)) is
    ∙ append_assoc routes (only_proxied link.via (route_along kinds k (first_end link) (second_end link) ∷ (route_along kinds (k + 1) (second_end link) (first_end link) ∷ []))) (routes_from kinds (k + 2) (drop (i + 1) links))
    ∙ ap (λ l. routes ++ routes_from kinds k l) (sym (from_there links i link there))
    ∙ so_far

-- ---- their numbers

numbers_link : (via : Via) (first second : Route) (k j : ℕ) (routes : List Route) (numbers : List ℕ) → first.channel ≡ k → second.channel ≡ j → map channel_of routes ≡ numbers → map channel_of (only_proxied via (first ∷ (second ∷ [])) ++ routes) ≡ only_proxied via (k ∷ (j ∷ [])) ++ numbers
numbers_link ByQueue first second k j routes numbers one two later = later
numbers_link ByProxy first second k j routes numbers one two later = ap₂ (λ x y. x ∷ (y ∷ map channel_of routes)) one two ∙ ap (λ l. k ∷ (j ∷ l)) later

numbers_from : (kinds : List (List PortKind)) (k : ℕ) (links : List Link) → map channel_of (routes_from kinds k links) ≡ proxied_from k links
unfolding routes_from proxied_from
numbers_from kinds k [] = refl
numbers_from kinds k (link ∷ more) = numbers_link link.via (route_along kinds k (first_end link) (second_end link)) (route_along kinds (k + 1) (second_end link) (first_end link)) k (k + 1) (routes_from kinds (k + 2) more) (proxied_from (k + 2) more) refl refl (numbers_from kinds (k + 2) more)

pub numbers_are : (kinds : List (List PortKind)) (links : List Link) → map channel_of (routes_of kinds links) ≡ proxied links
numbers_are kinds links = numbers_from kinds 0 links

-- they rise
pub record AreFrom (k : ℕ) (numbers : List ℕ) : Type 0 where
  pub above : (i a : ℕ) → slice_get numbers i ≡ Some a → k ≤ a
  pub rising : (i j a b : ℕ) → i < j → slice_get numbers i ≡ Some a → slice_get numbers j ≡ Some b → a < b

none_from : (k : ℕ) → AreFrom k []
none_from k = record { above = λ i a at. absurd (none-some a at); rising = λ i j a b lt at. absurd (none-some a at) }

one_from : (k j : ℕ) (numbers : List ℕ) → k < j → AreFrom j numbers → AreFrom k (k ∷ numbers)
one_from k j numbers lt from = record { above = above; rising = rising }
  where
    above : (i a : ℕ) → slice_get (k ∷ numbers) i ≡ Some a → k ≤ a
    above zero a at = (let same : k ≡ a = same_Some k a at in omega arith)
    above (suc i) a at = (let le : j ≤ a = from.above i a at in omega arith)

    rising : (i m a b : ℕ) → i < m → slice_get (k ∷ numbers) i ≡ Some a → slice_get (k ∷ numbers) m ≡ Some b → a < b
    rising zero zero a b less at at' = absurd (omega arith)
    rising (suc i) zero a b less at at' = absurd (omega arith)
    rising zero (suc m) a b less at at' = (let same : k ≡ a = same_Some k a at in let le : j ≤ b = from.above m b at' in omega arith)
    rising (suc i) (suc m) a b less at at' = from.rising i m a b (omega arith) at at'

later_from : (k j : ℕ) (numbers : List ℕ) → k ≤ j → AreFrom j numbers → AreFrom k numbers
later_from k j numbers le from = record { above = λ i a at. (let above : j ≤ a = from.above i a at in omega arith); rising = from.rising }

rising_link : (via : Via) (k : ℕ) (numbers : List ℕ) → AreFrom (k + 2) numbers → AreFrom k (only_proxied via (k ∷ ((k + 1) ∷ [])) ++ numbers)
rising_link ByQueue k numbers from = later_from k (k + 2) numbers (omega arith) from
rising_link ByProxy k numbers from = one_from k (k + 1) ((k + 1) ∷ numbers) (omega arith) (one_from (k + 1) (k + 2) numbers (omega arith) from)

rising_from : (k : ℕ) (links : List Link) → AreFrom k (proxied_from k links)
unfolding proxied_from
rising_from k [] = none_from k
rising_from k (link ∷ more) = rising_link link.via k (proxied_from (k + 2) more) (rising_from (k + 2) more)

pub proxied_rise : (links : List Link) → AreFrom 0 (proxied links)
proxied_rise links = rising_from 0 links

-- ---- the kinds of their queues

-- among all queues, that of a channel by its number is of the channel's kind
abbrev HasKind : List Plain → Route → Type 0
HasKind all route = (queue : Plain) × (slice_get all route.channel ≡ Some queue) × (queue.kind ≡ route.kind)

get_behind : {X : Type 0} (front : List X) (x : X) (rest : List X) (n : ℕ) → length front ≡ n → slice_get (front ++ x ∷ rest) n ≡ Some x
get_behind [] x rest n is = ap (slice_get (x ∷ rest)) (sym is)
get_behind (y ∷ front) x rest n is = ap (slice_get ((y ∷ front) ++ x ∷ rest)) (sym is) ∙ get_behind front x rest (length front) refl

abbrev EachHasKind : List Plain → List Route → Type 0
EachHasKind all routes = (i : ℕ) (route : Route) → slice_get routes i ≡ Some route → HasKind all route

link_kinds : (via : Via) (front : List Plain) (k : ℕ) (there back : Plain) (rest : List Plain) (first second : Route) (routes : List Route) → length front ≡ k → first.channel ≡ k → second.channel ≡ k + 1 → there.kind ≡ first.kind → back.kind ≡ second.kind → EachHasKind (front ++ there ∷ (back ∷ rest)) routes → EachHasKind (front ++ there ∷ (back ∷ rest)) (only_proxied via (first ∷ (second ∷ [])) ++ routes)
link_kinds ByQueue front k there back rest first second routes many one two kind kind' later = later
link_kinds ByProxy front k there back rest first second routes many one two kind kind' later = at
  where
    first_has : HasKind (front ++ there ∷ (back ∷ rest)) first
    first_has = (there, ap (slice_get (front ++ there ∷ (back ∷ rest))) one ∙ get_behind front there (back ∷ rest) k many, kind)

    second_has : HasKind (front ++ there ∷ (back ∷ rest)) second
    second_has = (back, ap (slice_get (front ++ there ∷ (back ∷ rest))) two ∙ ap (λ l. slice_get l (k + 1)) (sym (append_assoc front (there ∷ []) (back ∷ rest))) ∙ get_behind (front ++ there ∷ []) back rest (k + 1) (let long : length (front ++ there ∷ []) ≡ length front + 1 = length-append front (there ∷ []) in omega arith), kind')

    at : EachHasKind (front ++ there ∷ (back ∷ rest)) (first ∷ (second ∷ routes))
    at zero route is = subst (HasKind (front ++ there ∷ (back ∷ rest))) (same_Some first route is) first_has
    at (suc zero) route is = subst (HasKind (front ++ there ∷ (back ∷ rest))) (same_Some second route is) second_has
    at (suc (suc i)) route is = later i route is

kinds_from : (kinds : List (List PortKind)) (front : List Plain) (k : ℕ) (links : List Link) → length front ≡ k → EachHasKind (front ++ queues_of kinds links) (routes_from kinds k links)
unfolding routes_from two_each
kinds_from kinds front k [] many = λ i route at. absurd (none-some route at)
kinds_from kinds front k (link ∷ more) many =
    let there : Plain = queue_to kinds link.slots (second_end link) in
    let back : Plain = queue_to kinds link.slots (first_end link) in
    let longer : length (front ++ there ∷ (back ∷ [])) ≡ k + 2 = (let long : length (front ++ there ∷ (back ∷ [])) ≡ length front + 2 = length-append front (there ∷ (back ∷ [])) in omega arith) in
    let later : EachHasKind (front ++ there ∷ (back ∷ queues_of kinds more)) (routes_from kinds (k + 2) more) = subst (λ l. EachHasKind l (routes_from kinds (k + 2) more)) (append_assoc front (there ∷ (back ∷ [])) (queues_of kinds more)) (kinds_from kinds (front ++ there ∷ (back ∷ [])) (k + 2) more longer) in
    link_kinds link.via front k there back (queues_of kinds more) (route_along kinds k (first_end link) (second_end link)) (route_along kinds (k + 1) (second_end link) (first_end link)) (routes_from kinds (k + 2) more) many refl refl refl refl later

-- unused ends of the queues of these channels, near or far, are of the channels' kinds
pub fresh_kinds : {E S : Type 0} (seat_of : E → S) (side_of : Named → S) (kind_in : S → PortKind) → ((queue : Named) → kind_in (side_of queue) ≡ queue.kind) → (kinds : List (List PortKind)) (links : List Link) (all : List Named) → map as_empty all ≡ queues_of kinds links → (ends : List E) → AreFresh seat_of side_of all (proxied links) ends → map (λ end. kind_in (seat_of end)) ends ≡ map kind_of (routes_of kinds links)
fresh_kinds {E} seat_of side_of kind_in kinds_same kinds links all are ends fresh = same_lists (map (λ end. kind_in (seat_of end)) ends) (map kind_of (routes_of kinds links)) (length-map ends (λ end. kind_in (seat_of end)) ∙ fresh.as_many ∙ ap length (sym (numbers_are kinds links)) ∙ length-map (routes_of kinds links) channel_of ∙ sym (length-map (routes_of kinds links) kind_of)) each
  where
    each : (i : ℕ) (x y : PortKind) → slice_get (map (λ end. kind_in (seat_of end)) ends) i ≡ Some x → slice_get (map kind_of (routes_of kinds links)) i ≡ Some y → x ≡ y
    each i x y at at' =
        let end = mapped_at (λ end. kind_in (seat_of end)) ends (map (λ end. kind_in (seat_of end)) ends) i x refl at in
        let route = mapped_at kind_of (routes_of kinds links) (map kind_of (routes_of kinds links)) i y refl at' in
        let number : slice_get (proxied links) i ≡ Some (route.0).channel = ap (λ l. slice_get l i) (sym (numbers_are kinds links)) ∙ get_mapped channel_of (routes_of kinds links) i route.0 route.1 in
        let one = fresh.each i (route.0).channel end.0 number end.1 in
        let has = kinds_from kinds [] 0 links refl i route.0 route.1 in
        let asked = mapped_at as_empty all (queues_of kinds links) (route.0).channel has.0 are has.1 in
        let same : one.queue ≡ asked.0 = same_Some one.queue asked.0 (sym one.named ∙ asked.1) in
        sym end.2 ∙ ap kind_in one.unused ∙ kinds_same one.queue ∙ ap (λ (q : Named). q.kind) same ∙ ap (λ (p : Plain). p.kind) asked.2 ∙ has.2 ∙ route.2

-- all of them
pub all_routes : (kinds : List (List PortKind)) (links : List Link) (i k : ℕ) (routes all : List Route) → length links ≤ i → routes ++ routes_from kinds k (drop i links) ≡ all → routes ≡ all
unfolding routes_from
all_routes kinds links i k routes all past so_far = sym (append-nil routes) ∙ ap (λ l. routes ++ routes_from kinds k l) (sym (drop_all i links past)) ∙ so_far
