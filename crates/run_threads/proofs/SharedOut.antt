-- The near and the far queues of a wiring, and how the queues are shared out one channel after another.
use Rattle.std.proofs.Common.{◌≡◌, ℕ, zero, suc, ◌+◌, List, [], ◌∷◌, ◌++◌, length, map, drop, All, Some, refl, sym, ap, ap₂, ◌∙◌, subst, append_assoc, append-nil, length-append, drop-drop, arith}
use Rattle.std.specs.Prelude.{slice_get}
use Rattle.std.specs.List.{flat_map, cons_option, AllZip}
use Rattle.std.proofs.lemmas.List.{drop-map}
use Rattle.std.proofs.lemmas.List.Elements.{All-head, All-tail, filter_map-append}
use Rattle.std.proofs.lemmas.Option.{none-some, same_Some}
use Rattle.cs_base.specs.declared.link.Link.{Link}
use Rattle.cs_base.specs.declared.port_kind.PortKind.{PortKind}
use Rattle.cs_base.specs.declared.port_kind.Via.{Via}
use Rattle.cs_base.specs.declared.port_kind.Via.TheVariants.{Queue as ByQueue, Proxy as ByProxy}
use Rattle.cs_base.specs.Plan.{first_end, second_end}
use Rattle.mesh_core.specs.Start.{queue_to, queues_of, two_each}
use Rattle.port_queue.specs.Plain.{Plain}
use Rattle.slot_queue.specs.Ends.{Named}
use Rattle.sync_laws.proofs.Changed.{mapped_at}
use Rattle.run_threads.specs.Proxied.{as_often, queues_along, others_of, queues_on, near_places, far_places, queues_at, near_queues, far_queues, only_proxied, proxied_from, proxied}
use Rattle.run_threads.specs.Queues.{as_empty}
use Rattle.run_threads.specs.Sharing.{Shared, share_more, none_shared}

-- ---- a list from a place on

get_dropped : {X : Type 0} (xs : List X) (n i : ℕ) → slice_get (drop n xs) i ≡ slice_get xs (n + i)
get_dropped xs zero i = ap (slice_get xs) (let same : i ≡ 0 + i = omega arith in same)
get_dropped [] (suc n) i = refl
get_dropped (x ∷ xs) (suc n) i = get_dropped xs n i ∙ ap (slice_get (x ∷ xs)) (let same : suc (n + i) ≡ suc n + i = omega arith in same)

pub from_there : {X : Type 0} (xs : List X) (n : ℕ) (x : X) → slice_get xs n ≡ Some x → drop n xs ≡ x ∷ drop (n + 1) xs
from_there [] n x there = absurd (none-some x there)
from_there (y ∷ xs) zero x there = ap (λ z. z ∷ xs) (same_Some y x there)
from_there (y ∷ xs) (suc n) x there = from_there xs n x there ∙ ap (λ m. x ∷ drop m (y ∷ xs)) (let same : suc (n + 1) ≡ suc n + 1 = omega arith in same)

-- ---- the queues of one link among all queues

-- the queue at a place is as it was asked for
pub record IsAsked (queues : List Named) (place : ℕ) (asked : Plain) : Type 0 where
  pub queue : Named
  pub there : slice_get queues place ≡ Some queue
  pub is : as_empty queue ≡ asked

asked_at : (queues : List Named) (at i place : ℕ) (plains : List Plain) (asked : Plain) → map as_empty (drop at queues) ≡ plains → slice_get plains i ≡ Some asked → at + i ≡ place → IsAsked queues place asked
asked_at queues at i place plains asked are there same =
    let found = mapped_at as_empty (drop at queues) plains i asked are there in
    record { queue = found.0; there = ap (slice_get queues) (sym same) ∙ sym (get_dropped queues at i) ∙ found.1; is = found.2 }

rest_at : (queues : List Named) (at n place : ℕ) (plains : List Plain) → map as_empty (drop at queues) ≡ plains → at + n ≡ place → map as_empty (drop place queues) ≡ drop n plains
rest_at queues at n place plains are same = ap (λ m. map as_empty (drop m queues)) (sym same) ∙ ap (map as_empty) (sym (drop-drop n at queues)) ∙ sym (drop-map as_empty n (drop at queues)) ∙ ap (drop n) are

pub record AreOnLink (queues : List Named) (at : ℕ) (via : Via) (there back : Plain) (rest : List Plain) : Type 0 where
  pub near_there : IsAsked queues at there
  pub far_there : IsAsked queues (at + others_of via) there
  pub near_back : IsAsked queues (at + (others_of via + 1)) back
  pub far_back : IsAsked queues (at + (others_of via + 1) + others_of via) back
  pub others : map as_empty (drop (at + ((others_of via + 1) + (others_of via + 1))) queues) ≡ rest

along_link : (queues : List Named) (at : ℕ) (via : Via) (there back : Plain) (rest : List Plain) → map as_empty (drop at queues) ≡ (as_often via there ++ as_often via back) ++ rest → AreOnLink queues at via there back rest
along_link queues at ByQueue there back rest are = record {
  near_there = asked_at queues at 0 at _ there are refl (omega arith);
  far_there = asked_at queues at 0 (at + 0) _ there are refl (omega arith);
  near_back = asked_at queues at 1 (at + (0 + 1)) _ back are refl (omega arith);
  far_back = asked_at queues at 1 (at + (0 + 1) + 0) _ back are refl (omega arith);
  others = rest_at queues at 2 (at + ((0 + 1) + (0 + 1))) _ are (omega arith);
}
along_link queues at ByProxy there back rest are = record {
  near_there = asked_at queues at 0 at _ there are refl (omega arith);
  far_there = asked_at queues at 1 (at + 1) _ there are refl (omega arith);
  near_back = asked_at queues at 2 (at + (1 + 1)) _ back are refl (omega arith);
  far_back = asked_at queues at 3 (at + (1 + 1) + 1) _ back are refl (omega arith);
  others = rest_at queues at 4 (at + ((1 + 1) + (1 + 1))) _ are (omega arith);
}

two_there : (queues : List Named) (a b : ℕ) (rest : List ℕ) (x y : Named) → slice_get queues a ≡ Some x → slice_get queues b ≡ Some y → queues_at queues (a ∷ (b ∷ rest)) ≡ x ∷ (y ∷ queues_at queues rest)
two_there queues a b rest x y first second = ap₂ (λ o p. cons_option o (cons_option p (queues_at queues rest))) first second

-- the two queues of a channel by proxy
pub share_two : (queues : List Named) (via : Via) (at after : ℕ) (near far : Named) → via ≡ ByProxy → slice_get queues at ≡ Some near → after ≡ at + 1 → slice_get queues after ≡ Some far → (of : Shared) → record { nears = of.nears ++ near ∷ []; fars = of.fars ++ far ∷ []; between_near = of.between_near ++ near ∷ []; between_far = of.between_far ++ far ∷ [] } ≡ share_more queues via at of
share_two queues via at after near far is here next there of =
    let first : near ∷ [] ≡ queues_at queues (at ∷ []) = sym (ap (λ o. cons_option o []) here) in
    let second : far ∷ [] ≡ queues_at queues ((at + 1) ∷ []) = sym (ap (λ o. cons_option o []) (ap (slice_get queues) (sym next) ∙ there)) in
    let both : record { nears = of.nears ++ near ∷ []; fars = of.fars ++ far ∷ []; between_near = of.between_near ++ near ∷ []; between_far = of.between_far ++ far ∷ [] } ≡ share_more queues ByProxy at of = ap₂ (λ (x y : List Named). record { nears = of.nears ++ x; fars = of.fars ++ y; between_near = of.between_near ++ x; between_far = of.between_far ++ y }) first second in
    both ∙ ap (λ v. share_more queues v at of) (sym is)

-- ---- the near and the far queues are as their channels ask

module _ (kinds : List (List PortKind)) (queues : List Named) where
  pub on_link : (at : ℕ) (link : Link) (more : List Link) → map as_empty (drop at queues) ≡ flat_map (queues_along kinds) (link ∷ more) → AreOnLink queues at link.via (queue_to kinds link.slots (second_end link)) (queue_to kinds link.slots (first_end link)) (flat_map (queues_along kinds) more)
  on_link at link more are = along_link queues at link.via (queue_to kinds link.slots (second_end link)) (queue_to kinds link.slots (first_end link)) (flat_map (queues_along kinds) more) are

  nears_from : (at : ℕ) (links : List Link) → map as_empty (drop at queues) ≡ flat_map (queues_along kinds) links → map as_empty (queues_at queues (near_places at links)) ≡ queues_of kinds links
  unfolding near_places two_each
  nears_from at [] are = refl
  nears_from at (link ∷ more) are =
      let on = on_link at link more are in
      ap (map as_empty) (two_there queues at (at + (others_of link.via + 1)) (near_places (at + queues_on link) more) on.near_there.queue on.near_back.queue on.near_there.there on.near_back.there)
      ∙ ap₂ (λ x y. x ∷ (y ∷ map as_empty (queues_at queues (near_places (at + queues_on link) more)))) on.near_there.is on.near_back.is
      ∙ ap (λ l. queue_to kinds link.slots (second_end link) ∷ (queue_to kinds link.slots (first_end link) ∷ l)) (nears_from (at + queues_on link) more on.others)

  fars_from : (at : ℕ) (links : List Link) → map as_empty (drop at queues) ≡ flat_map (queues_along kinds) links → map as_empty (queues_at queues (far_places at links)) ≡ queues_of kinds links
  unfolding far_places two_each
  fars_from at [] are = refl
  fars_from at (link ∷ more) are =
      let on = on_link at link more are in
      ap (map as_empty) (two_there queues (at + others_of link.via) (at + (others_of link.via + 1) + others_of link.via) (far_places (at + queues_on link) more) on.far_there.queue on.far_back.queue on.far_there.there on.far_back.there)
      ∙ ap₂ (λ x y. x ∷ (y ∷ map as_empty (queues_at queues (far_places (at + queues_on link) more)))) on.far_there.is on.far_back.is
      ∙ ap (λ l. queue_to kinds link.slots (second_end link) ∷ (queue_to kinds link.slots (first_end link) ∷ l)) (fars_from (at + queues_on link) more on.others)

  pub nears_are_new : (links : List Link) → map as_empty queues ≡ flat_map (queues_along kinds) links → map as_empty (near_queues links queues) ≡ queues_of kinds links
  nears_are_new links are = nears_from 0 links are

  pub fars_are_new : (links : List Link) → map as_empty queues ≡ flat_map (queues_along kinds) links → map as_empty (far_queues links queues) ≡ queues_of kinds links
  fars_are_new links are = fars_from 0 links are

  -- ---- where no link goes by proxy these are all queues

  none_left : (at : ℕ) → map as_empty (drop at queues) ≡ [] → drop at queues ≡ []
  none_left at none = nothing (drop at queues) none
    where
      nothing : (xs : List Named) → map as_empty xs ≡ [] → xs ≡ []
      nothing [] is = refl
      nothing (x ∷ xs) is = absurd (let long : suc (length (map as_empty xs)) ≡ 0 = ap length is in omega arith)

  nears_by_queue : (at : ℕ) (links : List Link) → All (λ (link : Link). link.via ≡ ByQueue) links → map as_empty (drop at queues) ≡ flat_map (queues_along kinds) links → queues_at queues (near_places at links) ≡ drop at queues
  unfolding near_places
  nears_by_queue at [] all are = sym (none_left at are)
  nears_by_queue at (link ∷ more) all are =
      let on = on_link at link more are in
      let is : link.via ≡ ByQueue = All-head (λ (x : Link). x.via ≡ ByQueue) link more all in
      let second : slice_get queues (at + 1) ≡ Some on.near_back.queue = subst (λ v. slice_get queues (at + (others_of v + 1)) ≡ Some on.near_back.queue) is on.near_back.there in
      let two : at + queues_on link ≡ (at + 1) + 1 = ap (λ v. at + ((others_of v + 1) + (others_of v + 1))) is ∙ (let same : at + ((0 + 1) + (0 + 1)) ≡ (at + 1) + 1 = omega arith in same) in
      two_there queues at (at + (others_of link.via + 1)) (near_places (at + queues_on link) more) on.near_there.queue on.near_back.queue on.near_there.there on.near_back.there
      ∙ ap (λ l. on.near_there.queue ∷ (on.near_back.queue ∷ l)) (nears_by_queue (at + queues_on link) more (All-tail (λ (x : Link). x.via ≡ ByQueue) link more all) on.others ∙ ap (λ n. drop n queues) two)
      ∙ ap (λ l. on.near_there.queue ∷ l) (sym (from_there queues (at + 1) on.near_back.queue second))
      ∙ sym (from_there queues at on.near_there.queue on.near_there.there)

  fars_by_queue : (at : ℕ) (links : List Link) → All (λ (link : Link). link.via ≡ ByQueue) links → queues_at queues (far_places at links) ≡ queues_at queues (near_places at links)
  unfolding near_places far_places
  fars_by_queue at [] all = refl
  fars_by_queue at (link ∷ more) all =
      let is : link.via ≡ ByQueue = All-head (λ (x : Link). x.via ≡ ByQueue) link more all in
      let none : others_of link.via ≡ 0 = ap others_of is in
      let first : at + others_of link.via ≡ at = omega (arith, none) in
      let second : at + (others_of link.via + 1) + others_of link.via ≡ at + (others_of link.via + 1) = omega (arith, none) in
      ap₂ (λ m n. queues_at queues (m ∷ (n ∷ far_places (at + queues_on link) more))) first second
      ∙ ap (λ l. cons_option (slice_get queues at) (cons_option (slice_get queues (at + (others_of link.via + 1))) l)) (fars_by_queue (at + queues_on link) more (All-tail (λ (x : Link). x.via ≡ ByQueue) link more all))

  pub all_near : (links : List Link) → All (λ (link : Link). link.via ≡ ByQueue) links → map as_empty queues ≡ flat_map (queues_along kinds) links → near_queues links queues ≡ queues
  all_near links all are = nears_by_queue 0 links all are

  pub all_far : (links : List Link) → All (λ (link : Link). link.via ≡ ByQueue) links → map as_empty queues ≡ flat_map (queues_along kinds) links → far_queues links queues ≡ queues
  all_far links all are = fars_by_queue 0 links all ∙ all_near links all are

  -- ---- the same of the channels by proxy alone

  abbrev near_between : ℕ → List Link → List ℕ
  near_between at [] = []
  near_between at (link ∷ more) = only_proxied link.via (at ∷ []) ++ (only_proxied link.via ((at + (others_of link.via + 1)) ∷ []) ++ near_between (at + queues_on link) more)

  abbrev far_between : ℕ → List Link → List ℕ
  far_between at [] = []
  far_between at (link ∷ more) = only_proxied link.via ((at + others_of link.via) ∷ []) ++ (only_proxied link.via ((at + (others_of link.via + 1) + others_of link.via) ∷ []) ++ far_between (at + queues_on link) more)

  abbrev Picks : List Named → List ℕ → List Named → Type 0
  Picks all numbers picked = AllZip (λ k (q : Named). slice_get all k ≡ Some q) numbers picked

  -- of a link's two channels, whose queues these are
  pick_two : (all : List Named) (via : Via) (k a b : ℕ) (rest : List ℕ) (x y : Named) (numbers : List ℕ) → slice_get queues a ≡ Some x → slice_get queues b ≡ Some y → slice_get all k ≡ Some x → slice_get all (k + 1) ≡ Some y → Picks all numbers (queues_at queues rest) → Picks all (only_proxied via (k ∷ ((k + 1) ∷ [])) ++ numbers) (queues_at queues (only_proxied via (a ∷ []) ++ (only_proxied via (b ∷ []) ++ rest)))
  pick_two all ByQueue k a b rest x y numbers here there first second picks = picks
  pick_two all ByProxy k a b rest x y numbers here there first second picks = subst (Picks all (k ∷ ((k + 1) ∷ numbers))) (sym (two_there queues a b rest x y here there)) (first, (second, picks))

  get_behind : {X : Type 0} (front : List X) (x : X) (rest : List X) (n : ℕ) → length front ≡ n → slice_get (front ++ x ∷ rest) n ≡ Some x
  get_behind [] x rest n is = ap (slice_get (x ∷ rest)) (sym is)
  get_behind (y ∷ front) x rest n is = ap (slice_get ((y ∷ front) ++ x ∷ rest)) (sym is) ∙ get_behind front x rest (length front) refl

  near_picks : (front : List Named) (k at : ℕ) (links : List Link) → length front ≡ k → map as_empty (drop at queues) ≡ flat_map (queues_along kinds) links → Picks (front ++ queues_at queues (near_places at links)) (proxied_from k links) (queues_at queues (near_between at links))
  unfolding near_places proxied_from
  near_picks front k at [] many are = tt
  near_picks front k at (link ∷ more) many are =
      let on = on_link at link more are in
      let x : Named = on.near_there.queue in
      let y : Named = on.near_back.queue in
      let rest : List Named = queues_at queues (near_places (at + queues_on link) more) in
      let here : queues_at queues (near_places at (link ∷ more)) ≡ x ∷ (y ∷ rest) = two_there queues at (at + (others_of link.via + 1)) (near_places (at + queues_on link) more) x y on.near_there.there on.near_back.there in
      let longer : length (front ++ x ∷ (y ∷ [])) ≡ k + 2 = (let long : length (front ++ x ∷ (y ∷ [])) ≡ length front + 2 = length-append front (x ∷ (y ∷ [])) in omega arith) in
      let later : Picks (front ++ x ∷ (y ∷ rest)) (proxied_from (k + 2) more) (queues_at queues (near_between (at + queues_on link) more)) = subst (λ l. Picks l (proxied_from (k + 2) more) (queues_at queues (near_between (at + queues_on link) more))) (append_assoc front (x ∷ (y ∷ [])) rest) (near_picks (front ++ x ∷ (y ∷ [])) (k + 2) (at + queues_on link) more longer on.others) in
      let first : slice_get (front ++ x ∷ (y ∷ rest)) k ≡ Some x = get_behind front x (y ∷ rest) k many in
      let one : length (front ++ x ∷ []) ≡ k + 1 = (let long : length (front ++ x ∷ []) ≡ length front + 1 = length-append front (x ∷ []) in omega arith) in
      let second : slice_get (front ++ x ∷ (y ∷ rest)) (k + 1) ≡ Some y = ap (λ l. slice_get l (k + 1)) (sym (append_assoc front (x ∷ []) (y ∷ rest))) ∙ get_behind (front ++ x ∷ []) y rest (k + 1) one in
      subst (λ l. Picks (front ++ l) (proxied_from k (link ∷ more)) (queues_at queues (near_between at (link ∷ more)))) (sym here) (pick_two (front ++ x ∷ (y ∷ rest)) link.via k at (at + (others_of link.via + 1)) (near_between (at + queues_on link) more) x y (proxied_from (k + 2) more) on.near_there.there on.near_back.there first second later)

  far_picks : (front : List Named) (k at : ℕ) (links : List Link) → length front ≡ k → map as_empty (drop at queues) ≡ flat_map (queues_along kinds) links → Picks (front ++ queues_at queues (far_places at links)) (proxied_from k links) (queues_at queues (far_between at links))
  unfolding far_places proxied_from
  far_picks front k at [] many are = tt
  far_picks front k at (link ∷ more) many are =
      let on = on_link at link more are in
      let x : Named = on.far_there.queue in
      let y : Named = on.far_back.queue in
      let rest : List Named = queues_at queues (far_places (at + queues_on link) more) in
      let here : queues_at queues (far_places at (link ∷ more)) ≡ x ∷ (y ∷ rest) = two_there queues (at + others_of link.via) (at + (others_of link.via + 1) + others_of link.via) (far_places (at + queues_on link) more) x y on.far_there.there on.far_back.there in
      let longer : length (front ++ x ∷ (y ∷ [])) ≡ k + 2 = (let long : length (front ++ x ∷ (y ∷ [])) ≡ length front + 2 = length-append front (x ∷ (y ∷ [])) in omega arith) in
      let later : Picks (front ++ x ∷ (y ∷ rest)) (proxied_from (k + 2) more) (queues_at queues (far_between (at + queues_on link) more)) = subst (λ l. Picks l (proxied_from (k + 2) more) (queues_at queues (far_between (at + queues_on link) more))) (append_assoc front (x ∷ (y ∷ [])) rest) (far_picks (front ++ x ∷ (y ∷ [])) (k + 2) (at + queues_on link) more longer on.others) in
      let first : slice_get (front ++ x ∷ (y ∷ rest)) k ≡ Some x = get_behind front x (y ∷ rest) k many in
      let one : length (front ++ x ∷ []) ≡ k + 1 = (let long : length (front ++ x ∷ []) ≡ length front + 1 = length-append front (x ∷ []) in omega arith) in
      let second : slice_get (front ++ x ∷ (y ∷ rest)) (k + 1) ≡ Some y = ap (λ l. slice_get l (k + 1)) (sym (append_assoc front (x ∷ []) (y ∷ rest))) ∙ get_behind (front ++ x ∷ []) y rest (k + 1) one in
      subst (λ l. Picks (front ++ l) (proxied_from k (link ∷ more)) (queues_at queues (far_between at (link ∷ more)))) (sym here) (pick_two (front ++ x ∷ (y ∷ rest)) link.via k (at + others_of link.via) (at + (others_of link.via + 1) + others_of link.via) (far_between (at + queues_on link) more) x y (proxied_from (k + 2) more) on.far_there.there on.far_back.there first second later)

  -- ---- one channel after another

  -- what comes of the links that are left
  abbrev pub share_along : ℕ → List Link → Shared → Shared
  share_along at [] of = of
  share_along at (link ∷ more) of = share_along (at + queues_on link) more (share_more queues link.via (at + (others_of link.via + 1)) (share_more queues link.via at of))

  two_more : (xs : List Named) (a b rest : List ℕ) → ((xs ++ queues_at queues a) ++ queues_at queues b) ++ queues_at queues rest ≡ xs ++ queues_at queues (a ++ (b ++ rest))
  two_more xs a b rest = append_assoc (xs ++ queues_at queues a) (queues_at queues b) (queues_at queues rest) ∙ append_assoc xs (queues_at queues a) (queues_at queues b ++ queues_at queues rest) ∙ ap (λ l. xs ++ l) (ap (λ l. queues_at queues a ++ l) (sym (filter_map-append (slice_get queues) b rest)) ∙ sym (filter_map-append (slice_get queues) a (b ++ rest)))

  record IsAlong (at : ℕ) (links : List Link) (of got : Shared) : Type 0 where
    nears : got.nears ≡ of.nears ++ queues_at queues (near_places at links)
    fars : got.fars ≡ of.fars ++ queues_at queues (far_places at links)
    between_near : got.between_near ≡ of.between_near ++ queues_at queues (near_between at links)
    between_far : got.between_far ≡ of.between_far ++ queues_at queues (far_between at links)

  along : (at : ℕ) (links : List Link) (of : Shared) → IsAlong at links of (share_along at links of)
  unfolding near_places far_places
  along at [] of = record { nears = sym (append-nil of.nears); fars = sym (append-nil of.fars); between_near = sym (append-nil of.between_near); between_far = sym (append-nil of.between_far) }
  along at (link ∷ more) of =
      let n : ℕ = others_of link.via + 1 in
      let later = along (at + queues_on link) more (share_more queues link.via (at + n) (share_more queues link.via at of)) in
      record {
        nears = later.nears ∙ two_more of.nears (at ∷ []) ((at + n) ∷ []) (near_places (at + queues_on link) more);
        fars = later.fars ∙ two_more of.fars ((at + others_of link.via) ∷ []) ((at + n + others_of link.via) ∷ []) (far_places (at + queues_on link) more);
        between_near = later.between_near ∙ two_more of.between_near (only_proxied link.via (at ∷ [])) (only_proxied link.via ((at + n) ∷ [])) (near_between (at + queues_on link) more);
        between_far = later.between_far ∙ two_more of.between_far (only_proxied link.via ((at + others_of link.via) ∷ [])) (only_proxied link.via ((at + n + others_of link.via) ∷ [])) (far_between (at + queues_on link) more);
      }

  -- what comes of all
  pub record IsWhole (links : List Link) (got : Shared) : Type 0 where
    pub nears : got.nears ≡ near_queues links queues
    pub fars : got.fars ≡ far_queues links queues
    pub near_picked : AllZip (λ k (q : Named). slice_get (near_queues links queues) k ≡ Some q) (proxied links) got.between_near
    pub far_picked : AllZip (λ k (q : Named). slice_get (far_queues links queues) k ≡ Some q) (proxied links) got.between_far

  pub share_whole : (links : List Link) → map as_empty queues ≡ flat_map (queues_along kinds) links → IsWhole links (share_along 0 links none_shared)
  share_whole links are =
      let got = along 0 links none_shared in
      record {
        nears = got.nears;
        fars = got.fars;
        near_picked = subst (Picks (near_queues links queues) (proxied links)) (sym got.between_near) (near_picks [] 0 0 links refl are);
        far_picked = subst (Picks (far_queues links queues) (proxied links)) (sym got.between_far) (far_picks [] 0 0 links refl are);
      }
