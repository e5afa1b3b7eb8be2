-- The ports that a channel joins, and the channels by proxy with their numbers.
use Rattle.std.specs.Prelude.{◌⊎◌}
use Rattle.std.proofs.Common.{◌≡◌, ℕ, zero, suc, ◌+◌, ◌<◌, List, [], ◌∷◌, ◌++◌, length, map, Option, Some, None, true, inl, inr, refl, sym, ap, subst, append_assoc, length-append, ◌∙◌, arith}
use Rattle.std.specs.Prelude.{slice_get, option_map, option_and_then, sum_by, is_some}
use Rattle.std.specs.List.{AllByRecursion, flat_map}
use Rattle.std.proofs.lemmas.Option.{none-some, same_Some, slice_get_within}
use Rattle.std.proofs.lemmas.List.Sums.{sum_by-cons}
use Rattle.cs_base.specs.declared.link.Link.{Link}
use Rattle.cs_base.specs.declared.port_kind.PortKind.{PortKind}
use Rattle.cs_base.specs.declared.port_kind.PortKind.TheVariants as kind
use Rattle.cs_base.specs.declared.port_kind.Via.{Via}
use Rattle.cs_base.specs.declared.port_kind.Via.TheVariants.{Queue as ByQueue, Proxy as ByProxy}
use Rattle.cs_base.specs.Plan.{End, Joins, kind_at, partner, first_end, second_end}
use Rattle.device_api.specs.Channels.{Channel, channels}
use Rattle.mesh_core.specs.Start.{kind_or, queue_to}
use Rattle.port_queue.specs.Plain.{Plain}
use Rattle.proxy_crew.specs.declared.route.Route.{Route}
use Rattle.run_threads.specs.Proxied.{near_places, far_places, queues_along, as_often, queues_on, others_of, only_proxied}
use Rattle.run_threads.specs.Routes.{route_along, routes_from, routes_of}

twice : (k : PortKind) → partner (partner k) ≡ k
twice kind.Eth = refl
twice kind.PcieDev = refl
twice kind.PcieHost = refl
twice kind.MemDev = refl
twice kind.MemHost = refl

turned : (a b : Option PortKind) → b ≡ option_map partner a → a ≡ option_map partner b
turned None b is = ap (option_map partner) (sym is)
turned (Some k) b is = ap Some (sym (twice k)) ∙ ap (option_map partner) (sym is)

-- a channel leads from a port to one of the partner's kind
partners_all : (kinds : List (List PortKind)) (links : List Link) → AllByRecursion (Joins kinds) links → (k : ℕ) (ch : Channel) → slice_get (channels links) k ≡ Some ch → kind_at kinds ch.from ≡ option_map partner (kind_at kinds ch.to)
partners_all kinds [] joined k ch is = absurd (none-some ch is)
partners_all kinds (link ∷ more) joined zero ch is = subst (λ (c : Channel). kind_at kinds c.from ≡ option_map partner (kind_at kinds c.to)) (same_Some _ ch is) (turned _ _ joined.0.ports.to_partner)
partners_all kinds (link ∷ more) joined (suc zero) ch is = subst (λ (c : Channel). kind_at kinds c.from ≡ option_map partner (kind_at kinds c.to)) (same_Some _ ch is) joined.0.ports.to_partner
partners_all kinds (link ∷ more) joined (suc (suc k)) ch is = partners_all kinds more joined.1 k ch is

pub partners : (kinds : List (List PortKind)) (links : List Link) → AllByRecursion (Joins kinds) links → (k : ℕ) (ch : Channel) (from to : PortKind) → slice_get (channels links) k ≡ Some ch → kind_at kinds ch.from ≡ Some from → kind_at kinds ch.to ≡ Some to → from ≡ partner to
partners kinds links joined k ch from to at is_from is_to = same_Some from (partner to) (sym is_from ∙ partners_all kinds links joined k ch at ∙ ap (option_map partner) is_to)

-- ---- the channels by proxy

abbrev IsOfChannel : List (List PortKind) → List Channel → Route → Type 0
IsOfChannel kinds all route = (ch : Channel) × (slice_get all route.channel ≡ Some ch) × (route.kind ≡ kind_or (kind_at kinds ch.to))

get_behind : {X : Type 0} (front : List X) (x : X) (rest : List X) (n : ℕ) → length front ≡ n → slice_get (front ++ x ∷ rest) n ≡ Some x
get_behind [] x rest n is = ap (slice_get (x ∷ rest)) (sym is)
get_behind (y ∷ front) x rest n is = ap (slice_get ((y ∷ front) ++ x ∷ rest)) (sym is) ∙ get_behind front x rest (length front) refl

routes_along : (kinds : List (List PortKind)) (front : List Channel) (k : ℕ) (links : List Link) → length front ≡ k → (i : ℕ) (route : Route) → slice_get (routes_from kinds k links) i ≡ Some route → IsOfChannel kinds (front ++ channels links) route
unfolding routes_from
routes_along kinds front k [] many i route at = absurd (none-some route at)
routes_along kinds front k (link ∷ more) many i route is = at link.via (routes_along kinds (front ++ there ∷ (back ∷ [])) (k + 2) more (let long : length (front ++ there ∷ (back ∷ [])) ≡ length front + 2 = length-append front (there ∷ (back ∷ [])) in omega arith)) i route is
  where
    there : Channel
    there = record { from = first_end link; to = second_end link; latency = link.latency; interval = link.interval }

    back : Channel
    back = record { from = second_end link; to = first_end link; latency = link.latency; interval = link.interval }

    first : Route
    first = route_along kinds k (first_end link) (second_end link)

    second : Route
    second = route_along kinds (k + 1) (second_end link) (first_end link)

    first_is : IsOfChannel kinds (front ++ there ∷ (back ∷ channels more)) first
    first_is = (there, get_behind front there (back ∷ channels more) k many, refl)

    second_is : IsOfChannel kinds (front ++ there ∷ (back ∷ channels more)) second
    second_is = (back, ap (λ l. slice_get l (k + 1)) (sym (append_assoc front (there ∷ []) (back ∷ channels more))) ∙ get_behind (front ++ there ∷ []) back (channels more) (k + 1) (let long : length (front ++ there ∷ []) ≡ length front + 1 = length-append front (there ∷ []) in omega arith), refl)

    at : (via : Via) → ((i : ℕ) (route : Route) → slice_get (routes_from kinds (k + 2) more) i ≡ Some route → IsOfChannel kinds ((front ++ there ∷ (back ∷ [])) ++ channels more) route) → (i : ℕ) (route : Route) → slice_get (only_proxied via (first ∷ (second ∷ [])) ++ routes_from kinds (k + 2) more) i ≡ Some route → IsOfChannel kinds (front ++ there ∷ (back ∷ channels more)) route
    at ByQueue later i route is = subst (λ l. IsOfChannel kinds l route) (append_assoc front (there ∷ (back ∷ [])) (channels more)) (later i route is)
    at ByProxy later zero route is = subst (IsOfChannel kinds (front ++ there ∷ (back ∷ channels more))) (same_Some first route is) first_is
    at ByProxy later (suc zero) route is = subst (IsOfChannel kinds (front ++ there ∷ (back ∷ channels more))) (same_Some second route is) second_is
    at ByProxy later (suc (suc i)) route is = subst (λ l. IsOfChannel kinds l route) (append_assoc front (there ∷ (back ∷ [])) (channels more)) (later i route is)

pub route_is : (kinds : List (List PortKind)) (links : List Link) (i : ℕ) (route : Route) → slice_get (routes_of kinds links) i ≡ Some route → (ch : Channel) × (slice_get (channels links) route.channel ≡ Some ch) × (route.kind ≡ kind_or (kind_at kinds ch.to))
route_is kinds links i route is = routes_along kinds [] 0 links refl i route is

-- ---- numbers of queues

pub near_each : (at : ℕ) (links : List Link) → length (near_places at links) ≡ length (channels links)
unfolding near_places
near_each at [] = refl
near_each at (link ∷ more) = ap (λ n. suc (suc n)) (near_each (at + queues_on link) more)

pub far_all : (at : ℕ) (links : List Link) → length (far_places at links) ≡ length (channels links)
unfolding far_places
far_all at [] = refl
far_all at (link ∷ more) = ap (λ n. suc (suc n)) (far_all (at + queues_on link) more)

length_often : (via : Via) (queue : Plain) → length (as_often via queue) ≡ others_of via + 1
length_often ByQueue queue = refl
length_often ByProxy queue = refl

together : (a b c : List Plain) (n m : ℕ) → length a ≡ n → length b ≡ n → length c ≡ m → length ((a ++ b) ++ c) ≡ (n + n) + m
together a b c n m first second more =
    let whole : length ((a ++ b) ++ c) ≡ length (a ++ b) + length c = length-append (a ++ b) c in
    let both : length (a ++ b) ≡ length a + length b = length-append a b in
    omega arith

pub queues_each : (kinds : List (List PortKind)) (links : List Link) → length (flat_map (queues_along kinds) links) ≡ sum_by queues_on links
queues_each kinds [] = refl
queues_each kinds (link ∷ more) =
    let there = queue_to kinds link.slots (second_end link) in
    let back = queue_to kinds link.slots (first_end link) in
    together (as_often link.via there) (as_often link.via back) (flat_map (queues_along kinds) more) (others_of link.via + 1) (sum_by queues_on more) (length_often link.via there) (length_often link.via back) (queues_each kinds more)
    ∙ sym (sum_by-cons queues_on link more)

-- ---- lists

same_or_not : (n k : ℕ) → (n ≡ k) ⊎ (n ≡ k → ⊥)
same_or_not zero zero = inl refl
same_or_not zero (suc k) = inr (λ e. omega arith)
same_or_not (suc n) zero = inr (λ e. omega arith)
same_or_not (suc n) (suc k) = at (same_or_not n k)
  where
    at : (n ≡ k) ⊎ (n ≡ k → ⊥) → (suc n ≡ suc k) ⊎ (suc n ≡ suc k → ⊥)
    at (inl e) = inl (ap suc e)
    at (inr never) = inr (λ e. never (omega arith))

-- a number stands in a list, or it doesn't
pub stands_in : (numbers : List ℕ) (k : ℕ) → ((i : ℕ) × (slice_get numbers i ≡ Some k)) ⊎ ((i : ℕ) → slice_get numbers i ≡ Some k → ⊥)
stands_in [] k = inr (λ i is. none-some k is)
stands_in (n ∷ numbers) k = at (same_or_not n k) (stands_in numbers k)
  where
    at : (n ≡ k) ⊎ (n ≡ k → ⊥) → ((i : ℕ) × (slice_get numbers i ≡ Some k)) ⊎ ((i : ℕ) → slice_get numbers i ≡ Some k → ⊥) → ((i : ℕ) × (slice_get (n ∷ numbers) i ≡ Some k)) ⊎ ((i : ℕ) → slice_get (n ∷ numbers) i ≡ Some k → ⊥)
    at (inl e) found = inl (0, ap Some e)
    at (inr never) (inl (i, is)) = inl (suc i, is)
    at (inr never) (inr none) = inr nowhere
      where
        nowhere : (i : ℕ) → slice_get (n ∷ numbers) i ≡ Some k → ⊥
        nowhere zero is = never (same_Some n k is)
        nowhere (suc i) is = none i is

pub and_then_some : {A B : Type 0} (f : A → Option B) (o : Option A) (y : B) → option_and_then f o ≡ Some y → (x : A) × (o ≡ Some x) × (f x ≡ Some y)
and_then_some f None y is = absurd (none-some y is)
and_then_some f (Some x) y is = (x, refl, is)

pub map_map : {A B C : Type 0} (f : A → B) (g : B → C) (xs : List A) → map g (map f xs) ≡ map (λ x. g (f x)) xs
map_map f g [] = refl
map_map f g (x ∷ xs) = ap (λ l. g (f x) ∷ l) (map_map f g xs)
