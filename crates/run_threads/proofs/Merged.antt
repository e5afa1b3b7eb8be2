-- The sides of all queues, put in the order of the queues.
use Rattle.std.proofs.Common.{◌≡◌, ℕ, zero, suc, ◌+◌, List, [], ◌∷◌, ◌++◌, length, map, take, drop, Option, Some, None, option_map, refl, sym, ap, ap₂, ◌∙◌, subst₂, append_assoc, length-append, arith, ◌≤◌, sum_by}
use Rattle.std.specs.Prelude.{slice_get, option_and_then}
use Rattle.std.specs.List.{flat_map, filter_map, cons_option, AllZip}
use Rattle.std.proofs.lemmas.List.{length-map}
use Rattle.std.proofs.lemmas.List.Sums.{sum_by-cons}
use Rattle.std.proofs.lemmas.Option.{none-some, same_Some, slice_get-map}
use Rattle.cs_base.specs.declared.link.Link.{Link}
use Rattle.cs_base.specs.declared.port_kind.PortKind.{PortKind}
use Rattle.cs_base.specs.declared.port_kind.Via.{Via}
use Rattle.cs_base.specs.declared.port_kind.Via.TheVariants.{Queue as ByQueue, Proxy as ByProxy}
use Rattle.cs_base.specs.Plan.{first_end, second_end}
use Rattle.device_api.specs.Channels.{channels}
use Rattle.mesh_core.specs.Start.{queue_to}
use Rattle.port_queue.specs.Plain.{Plain}
use Rattle.slot_queue.specs.Ends.{Named, Sender, Receiver}
use Rattle.run_threads.specs.Merging.{vias_of, with_behind, with_before, AreMerged}
use Rattle.run_threads.specs.Proxied.{AreAllNew, as_often, queues_along, others_of, only_proxied, queues_on, near_places, far_places, near_names, far_names, proxied_from, proxied}
use Rattle.run_threads.specs.Queues.{as_empty, names_of}
use Rattle.run_threads.specs.Seating.{AreSeats}

-- CHANNEL BY CHANNEL

-- how many queues these channels have, and how many of them beside one each
abbrev pub all_on : List Via → ℕ
all_on [] = 0
all_on (via ∷ vias) = (others_of via + 1) + all_on vias

abbrev pub others_on : List Via → ℕ
others_on [] = 0
others_on (via ∷ vias) = others_of via + others_on vias

-- where the near queues of these channels stand, and the far ones, if so many others stand before them
abbrev near_at : ℕ → List Via → List ℕ
near_at at [] = []
near_at at (via ∷ vias) = at ∷ near_at (at + (others_of via + 1)) vias

abbrev far_at : ℕ → List Via → List ℕ
far_at at [] = []
far_at at (via ∷ vias) = (at + others_of via) ∷ far_at (at + (others_of via + 1)) vias

-- the numbers of those by proxy, if the first has this number
abbrev picked : ℕ → List Via → List ℕ
picked k [] = []
picked k (via ∷ vias) = only_proxied via (k ∷ []) ++ picked (k + 1) vias

near_places_are : (at : ℕ) (links : List Link) → near_places at links ≡ near_at at (vias_of links)
unfolding near_places
near_places_are at [] = refl
near_places_are at (link ∷ more) = ap (λ l. at ∷ ((at + (others_of link.via + 1)) ∷ l)) (near_places_are (at + queues_on link) more ∙ ap (λ n. near_at n (vias_of more)) (let same : at + queues_on link ≡ at + (others_of link.via + 1) + (others_of link.via + 1) = omega arith in same))

far_places_are : (at : ℕ) (links : List Link) → far_places at links ≡ far_at at (vias_of links)
unfolding far_places
far_places_are at [] = refl
far_places_are at (link ∷ more) = ap (λ l. (at + others_of link.via) ∷ ((at + (others_of link.via + 1) + others_of link.via) ∷ l)) (far_places_are (at + queues_on link) more ∙ ap (λ n. far_at n (vias_of more)) (let same : at + queues_on link ≡ at + (others_of link.via + 1) + (others_of link.via + 1) = omega arith in same))

two_picked : (via : Via) (k m : ℕ) (rest : List ℕ) → only_proxied via (k ∷ (m ∷ [])) ++ rest ≡ only_proxied via (k ∷ []) ++ (only_proxied via (m ∷ []) ++ rest)
two_picked ByQueue k m rest = refl
two_picked ByProxy k m rest = refl

proxied_are : (k : ℕ) (links : List Link) → proxied_from k links ≡ picked k (vias_of links)
unfolding proxied_from
proxied_are k [] = refl
proxied_are k (link ∷ more) = two_picked link.via k (k + 1) (proxied_from (k + 2) more) ∙ ap (λ l. only_proxied link.via (k ∷ []) ++ (only_proxied link.via ((k + 1) ∷ []) ++ l)) (proxied_are (k + 2) more ∙ ap (λ n. picked n (vias_of more)) (let same : k + 2 ≡ k + 1 + 1 = omega arith in same))

many_vias : (links : List Link) → length (channels links) ≡ length (vias_of links)
many_vias [] = refl
many_vias (link ∷ more) = ap (λ n. suc (suc n)) (many_vias more)

many_often : (via : Via) (queue : Plain) → length (as_often via queue) ≡ others_of via + 1
many_often ByQueue queue = refl
many_often ByProxy queue = refl

many_along : (kinds : List (List PortKind)) (links : List Link) → length (flat_map (queues_along kinds) links) ≡ all_on (vias_of links)
many_along kinds [] = refl
many_along kinds (link ∷ more) =
    let there : Plain = queue_to kinds link.slots (second_end link) in
    let back : Plain = queue_to kinds link.slots (first_end link) in
    let first : length (as_often link.via there) ≡ others_of link.via + 1 = many_often link.via there in
    let second : length (as_often link.via back) ≡ others_of link.via + 1 = many_often link.via back in
    let both : length (as_often link.via there ++ as_often link.via back) ≡ length (as_often link.via there) + length (as_often link.via back) = length-append (as_often link.via there) (as_often link.via back) in
    let all : length (flat_map (queues_along kinds) (link ∷ more)) ≡ length (as_often link.via there ++ as_often link.via back) + length (flat_map (queues_along kinds) more) = length-append (as_often link.via there ++ as_often link.via back) (flat_map (queues_along kinds) more) in
    let later : length (flat_map (queues_along kinds) more) ≡ all_on (vias_of more) = many_along kinds more in
    omega arith

twice_proxied : (via : Via) (k m : ℕ) → length (only_proxied via (k ∷ (m ∷ []))) ≡ others_of via + others_of via
twice_proxied ByQueue k m = refl
twice_proxied ByProxy k m = refl

many_from : (k : ℕ) (links : List Link) → length (channels links) + length (proxied_from k links) ≡ sum_by queues_on links
unfolding proxied_from
many_from k [] = refl
many_from k (link ∷ more) =
    let both : length (only_proxied link.via (k ∷ ((k + 1) ∷ [])) ++ proxied_from (k + 2) more) ≡ length (only_proxied link.via (k ∷ ((k + 1) ∷ []))) + length (proxied_from (k + 2) more) = length-append (only_proxied link.via (k ∷ ((k + 1) ∷ []))) (proxied_from (k + 2) more) in
    let twice : length (only_proxied link.via (k ∷ ((k + 1) ∷ []))) ≡ others_of link.via + others_of link.via = twice_proxied link.via k (k + 1) in
    let later : length (channels more) + length (proxied_from (k + 2) more) ≡ sum_by queues_on more = many_from (k + 2) more in
    let numbers : length (proxied_from k (link ∷ more)) ≡ length (only_proxied link.via (k ∷ ((k + 1) ∷ [])) ++ proxied_from (k + 2) more) = refl in
    let all : sum_by queues_on (link ∷ more) ≡ queues_on link + sum_by queues_on more = sum_by-cons queues_on link more in
    let two : length (channels (link ∷ more)) ≡ length (channels more) + 2 = omega arith in
    omega arith

one_found : {Y : Type 0} (o : Option Y) (found : List Y) (n : ℕ) → length found ≤ n → length (cons_option o found) ≤ suc n
one_found None found n few = omega (arith, few)
one_found (Some y) found n few = omega (arith, few)

few_found : {X Y : Type 0} (h : X → Option Y) (xs : List X) → length (filter_map h xs) ≤ length xs
few_found h [] = omega arith
few_found h (x ∷ xs) = one_found (h x) (filter_map h xs) (length xs) (few_found h xs)

-- no more sides come together than there are queues: one of each channel, and those of ends by proxy
pub room_for_sides : {E X S : Type 0} (links : List Link) (name : E → X) (names : List X) (ends : List E) → map name ends ≡ filter_map (slice_get names) (proxied links) → (own others : List S) (side : E → S) → length own ≡ length (channels links) → others ≡ map side ends → (capacity : ℕ) → sum_by queues_on links ≤ capacity → length own + length others ≤ capacity
room_for_sides links name names ends are own others side one_each sides_are capacity room =
    let many : length ends ≡ length (filter_map (slice_get names) (proxied links)) = sym (length-map ends name) ∙ ap length are in
    let few : length (filter_map (slice_get names) (proxied links)) ≤ length (proxied links) = few_found (slice_get names) (proxied links) in
    let all : length (channels links) + length (proxied links) ≡ sum_by queues_on links = many_from 0 links in
    let sides : length others ≡ length ends = ap length sides_are ∙ length-map ends side in
    omega (arith, one_each, room)

-- WHERE EACH SIDE STANDS

at_front : {X : Type 0} (front : List X) (x : X) (rest : List X) (n : ℕ) → length front ≡ n → slice_get (front ++ x ∷ rest) n ≡ Some x
at_front [] x rest n is = ap (slice_get (x ∷ rest)) (sym is)
at_front (y ∷ front) x rest n is = ap (slice_get ((y ∷ front) ++ x ∷ rest)) (sym is) ∙ at_front front x rest (length front) refl

one_longer : {X : Type 0} (front : List X) (x : X) (n : ℕ) → length front ≡ n → length (front ++ x ∷ []) ≡ n + 1
one_longer front x n is = (let sum : length (front ++ x ∷ []) ≡ length front + 1 = length-append front (x ∷ []) in omega (arith, is))

two_longer : {X : Type 0} (front : List X) (x y : X) (n : ℕ) → length front ≡ n → length (front ++ x ∷ (y ∷ [])) ≡ n + 2
two_longer front x y n is = (let sum : length (front ++ x ∷ (y ∷ [])) ≡ length front + 2 = length-append front (x ∷ (y ∷ [])) in omega (arith, is))

abbrev at_place : {X : Type 0} → List X → List ℕ → ℕ → Option X
at_place all places k = option_and_then (slice_get all) (slice_get places k)

-- each channel's own side is at its near queue's place, where the others stand behind
own_behind : {S : Type 0} (front : List S) (at : ℕ) (vias : List Via) (own others : List S) (k : ℕ) → length front ≡ at → length own ≡ length vias → length others ≡ others_on vias → at_place (front ++ with_behind vias own others) (near_at at vias) k ≡ slice_get own k
own_behind front at [] [] others k many owns rest = refl
own_behind front at [] (x ∷ own) others k many owns rest = absurd (omega (arith, owns))
own_behind front at (via ∷ vias) [] others k many owns rest = absurd (omega (arith, owns))
own_behind front at (ByQueue ∷ vias) (x ∷ own) others zero many owns rest = at_front front x (with_behind vias own others) at many
own_behind front at (ByQueue ∷ vias) (x ∷ own) others (suc k) many owns rest = ap (λ l. at_place l (near_at (at + (0 + 1)) vias) k) (sym (append_assoc front (x ∷ []) (with_behind vias own others))) ∙ own_behind (front ++ x ∷ []) (at + (0 + 1)) vias own others k (one_longer front x at many) (let same : length own ≡ length vias = omega (arith, owns) in same) (let same : length others ≡ others_on vias = omega (arith, rest) in same)
own_behind front at (ByProxy ∷ vias) (x ∷ own) [] k many owns rest = absurd (omega (arith, rest))
own_behind front at (ByProxy ∷ vias) (x ∷ own) (y ∷ others) zero many owns rest = at_front front x (y ∷ with_behind vias own others) at many
own_behind front at (ByProxy ∷ vias) (x ∷ own) (y ∷ others) (suc k) many owns rest = ap (λ l. at_place l (near_at (at + (1 + 1)) vias) k) (sym (append_assoc front (x ∷ (y ∷ [])) (with_behind vias own others))) ∙ own_behind (front ++ x ∷ (y ∷ [])) (at + (1 + 1)) vias own others k (two_longer front x y at many) (let same : length own ≡ length vias = omega (arith, owns) in same) (let same : length others ≡ others_on vias = omega (arith, rest) in same)

-- and at its far queue's place, where the others stand before
own_before : {S : Type 0} (front : List S) (at : ℕ) (vias : List Via) (own others : List S) (k : ℕ) → length front ≡ at → length own ≡ length vias → length others ≡ others_on vias → at_place (front ++ with_before vias own others) (far_at at vias) k ≡ slice_get own k
own_before front at [] [] others k many owns rest = refl
own_before front at [] (x ∷ own) others k many owns rest = absurd (omega (arith, owns))
own_before front at (via ∷ vias) [] others k many owns rest = absurd (omega (arith, owns))
own_before front at (ByQueue ∷ vias) (x ∷ own) others zero many owns rest = at_front front x (with_before vias own others) (at + 0) (omega (arith, many))
own_before front at (ByQueue ∷ vias) (x ∷ own) others (suc k) many owns rest = ap (λ l. at_place l (far_at (at + (0 + 1)) vias) k) (sym (append_assoc front (x ∷ []) (with_before vias own others))) ∙ own_before (front ++ x ∷ []) (at + (0 + 1)) vias own others k (one_longer front x at many) (let same : length own ≡ length vias = omega (arith, owns) in same) (let same : length others ≡ others_on vias = omega (arith, rest) in same)
own_before front at (ByProxy ∷ vias) (x ∷ own) [] k many owns rest = absurd (omega (arith, rest))
own_before front at (ByProxy ∷ vias) (x ∷ own) (y ∷ others) zero many owns rest = ap (λ l. slice_get l (at + 1)) (sym (append_assoc front (y ∷ []) (x ∷ with_before vias own others))) ∙ at_front (front ++ y ∷ []) x (with_before vias own others) (at + 1) (one_longer front y at many)
own_before front at (ByProxy ∷ vias) (x ∷ own) (y ∷ others) (suc k) many owns rest = ap (λ l. at_place l (far_at (at + (1 + 1)) vias) k) (sym (append_assoc front (y ∷ (x ∷ [])) (with_before vias own others))) ∙ own_before (front ++ y ∷ (x ∷ [])) (at + (1 + 1)) vias own others k (two_longer front y x at many) (let same : length own ≡ length vias = omega (arith, owns) in same) (let same : length others ≡ others_on vias = omega (arith, rest) in same)

-- the others stand at the far queues' places, or at the near ones
abbrev AreAt : {S : Type 0} → List S → List ℕ → List ℕ → List S → Type 0
AreAt {S} all places numbers others = AllZip (λ n (y : S). at_place all places n ≡ Some y) numbers others

others_behind : {S : Type 0} (front : List S) (ahead : List ℕ) (at k : ℕ) (vias : List Via) (own others : List S) → length front ≡ at → length ahead ≡ k → length own ≡ length vias → length others ≡ others_on vias → AreAt (front ++ with_behind vias own others) (ahead ++ far_at at vias) (picked k vias) others
others_behind front ahead at k [] own [] many places owns rest = tt
others_behind front ahead at k [] own (y ∷ others) many places owns rest = absurd (omega (arith, rest))
others_behind front ahead at k (via ∷ vias) [] others many places owns rest = absurd (omega (arith, owns))
others_behind front ahead at k (ByQueue ∷ vias) (x ∷ own) others many places owns rest = subst₂ (λ l m. AreAt l m (picked (k + 1) vias) others) (append_assoc front (x ∷ []) (with_behind vias own others)) (append_assoc ahead ((at + 0) ∷ []) (far_at (at + (0 + 1)) vias)) (others_behind (front ++ x ∷ []) (ahead ++ (at + 0) ∷ []) (at + (0 + 1)) (k + 1) vias own others (one_longer front x at many) (one_longer ahead (at + 0) k places) (let same : length own ≡ length vias = omega (arith, owns) in same) (let same : length others ≡ others_on vias = omega (arith, rest) in same))
others_behind front ahead at k (ByProxy ∷ vias) (x ∷ own) [] many places owns rest = absurd (omega (arith, rest))
others_behind front ahead at k (ByProxy ∷ vias) (x ∷ own) (y ∷ others) many places owns rest = (ap (option_and_then (slice_get (front ++ x ∷ (y ∷ with_behind vias own others)))) (at_front ahead (at + 1) (far_at (at + (1 + 1)) vias) k places) ∙ ap (λ l. slice_get l (at + 1)) (sym (append_assoc front (x ∷ []) (y ∷ with_behind vias own others))) ∙ at_front (front ++ x ∷ []) y (with_behind vias own others) (at + 1) (one_longer front x at many), subst₂ (λ l m. AreAt l m (picked (k + 1) vias) others) (append_assoc front (x ∷ (y ∷ [])) (with_behind vias own others)) (append_assoc ahead ((at + 1) ∷ []) (far_at (at + (1 + 1)) vias)) (others_behind (front ++ x ∷ (y ∷ [])) (ahead ++ (at + 1) ∷ []) (at + (1 + 1)) (k + 1) vias own others (two_longer front x y at many) (one_longer ahead (at + 1) k places) (let same : length own ≡ length vias = omega (arith, owns) in same) (let same : length others ≡ others_on vias = omega (arith, rest) in same)))

others_before : {S : Type 0} (front : List S) (ahead : List ℕ) (at k : ℕ) (vias : List Via) (own others : List S) → length front ≡ at → length ahead ≡ k → length own ≡ length vias → length others ≡ others_on vias → AreAt (front ++ with_before vias own others) (ahead ++ near_at at vias) (picked k vias) others
others_before front ahead at k [] own [] many places owns rest = tt
others_before front ahead at k [] own (y ∷ others) many places owns rest = absurd (omega (arith, rest))
others_before front ahead at k (via ∷ vias) [] others many places owns rest = absurd (omega (arith, owns))
others_before front ahead at k (ByQueue ∷ vias) (x ∷ own) others many places owns rest = subst₂ (λ l m. AreAt l m (picked (k + 1) vias) others) (append_assoc front (x ∷ []) (with_before vias own others)) (append_assoc ahead (at ∷ []) (near_at (at + (0 + 1)) vias)) (others_before (front ++ x ∷ []) (ahead ++ at ∷ []) (at + (0 + 1)) (k + 1) vias own others (one_longer front x at many) (one_longer ahead at k places) (let same : length own ≡ length vias = omega (arith, owns) in same) (let same : length others ≡ others_on vias = omega (arith, rest) in same))
others_before front ahead at k (ByProxy ∷ vias) (x ∷ own) [] many places owns rest = absurd (omega (arith, rest))
others_before front ahead at k (ByProxy ∷ vias) (x ∷ own) (y ∷ others) many places owns rest = (ap (option_and_then (slice_get (front ++ y ∷ (x ∷ with_before vias own others)))) (at_front ahead at (near_at (at + (1 + 1)) vias) k places) ∙ at_front front y (x ∷ with_before vias own others) at many, subst₂ (λ l m. AreAt l m (picked (k + 1) vias) others) (append_assoc front (y ∷ (x ∷ [])) (with_before vias own others)) (append_assoc ahead (at ∷ []) (near_at (at + (1 + 1)) vias)) (others_before (front ++ y ∷ (x ∷ [])) (ahead ++ at ∷ []) (at + (1 + 1)) (k + 1) vias own others (two_longer front y x at many) (one_longer ahead at k places) (let same : length own ≡ length vias = omega (arith, owns) in same) (let same : length others ≡ others_on vias = omega (arith, rest) in same)))

are_there : {S : Type 0} (all : List S) (places numbers : List ℕ) (others : List S) → AreAt all places numbers others → (i k : ℕ) → slice_get numbers i ≡ Some k → at_place all places k ≡ slice_get others i
are_there all places [] others are i k at = absurd (none-some k at)
are_there all places (n ∷ numbers) [] are i k at = absurd are
are_there all places (n ∷ numbers) (y ∷ others) are zero k at = ap (at_place all places) (sym (same_Some n k at)) ∙ are.0
are_there all places (n ∷ numbers) (y ∷ others) are (suc i) k at = are_there all places numbers others are.1 i k at

-- a channel that doesn't go by proxy has one place
one_place_at : (k at j : ℕ) (vias : List Via) → ((i : ℕ) → slice_get (picked k vias) i ≡ Some (k + j) → ⊥) → slice_get (near_at at vias) j ≡ slice_get (far_at at vias) j
one_place_at k at j [] none = refl
one_place_at k at zero (ByQueue ∷ vias) none = ap Some (let same : at ≡ at + 0 = omega arith in same)
one_place_at k at (suc j) (ByQueue ∷ vias) none = one_place_at (k + 1) (at + (0 + 1)) j vias (λ i is. none i (is ∙ ap Some (let same : k + 1 + j ≡ k + suc j = omega arith in same)))
one_place_at k at zero (ByProxy ∷ vias) none = absurd (none 0 (ap Some (let same : k ≡ k + 0 = omega arith in same)))
one_place_at k at (suc j) (ByProxy ∷ vias) none = one_place_at (k + 1) (at + (1 + 1)) j vias (λ i is. none (suc i) (is ∙ ap Some (let same : k + 1 + j ≡ k + suc j = omega arith in same)))

-- WHAT THEY ARE CALLED

-- of a list with an element for each queue those of the near and the far queues, and the same of the
-- channels by proxy alone
abbrev near_ones : {X : Type 0} → List Via → List X → List X
near_ones [] xs = []
near_ones (via ∷ vias) xs = take 1 xs ++ near_ones vias (drop (others_of via + 1) xs)

abbrev far_ones : {X : Type 0} → List Via → List X → List X
far_ones [] xs = []
far_ones (via ∷ vias) xs = take 1 (drop (others_of via) xs) ++ far_ones vias (drop (others_of via + 1) xs)

abbrev near_between : {X : Type 0} → List Via → List X → List X
near_between [] xs = []
near_between (via ∷ vias) xs = only_proxied via (take 1 xs) ++ near_between vias (drop (others_of via + 1) xs)

abbrev far_between : {X : Type 0} → List Via → List X → List X
far_between [] xs = []
far_between (via ∷ vias) xs = only_proxied via (take 1 (drop 1 xs)) ++ far_between vias (drop (others_of via + 1) xs)

-- lists of which each fact below is proved by one walk along the channels
pub record AreParted {X : Type 0} (vias : List Via) (xs : List X) : Type 0 where
  pub behind : with_behind vias (near_ones vias xs) (far_between vias xs) ≡ xs
  pub before : with_before vias (far_ones vias xs) (near_between vias xs) ≡ xs
  pub many_near : length (near_ones vias xs) ≡ length vias
  pub many_far : length (far_ones vias xs) ≡ length vias
  pub many_near_between : length (near_between vias xs) ≡ others_on vias
  pub many_far_between : length (far_between vias xs) ≡ others_on vias

parted : {X : Type 0} (vias : List Via) (xs : List X) → length xs ≡ all_on vias → AreParted vias xs
parted [] [] many = record { behind = refl; before = refl; many_near = refl; many_far = refl; many_near_between = refl; many_far_between = refl }
parted [] (x ∷ xs) many = absurd (omega (arith, many))
parted (ByQueue ∷ vias) [] many = absurd (omega (arith, many))
parted (ByQueue ∷ vias) (x ∷ xs) many = (let later = parted vias xs (let same : length xs ≡ all_on vias = omega (arith, many) in same) in record { behind = ap (λ l. x ∷ l) later.behind; before = ap (λ l. x ∷ l) later.before; many_near = ap suc later.many_near; many_far = ap suc later.many_far; many_near_between = (let is : length (near_between vias xs) ≡ others_on vias = later.many_near_between in omega arith); many_far_between = (let is : length (far_between vias xs) ≡ others_on vias = later.many_far_between in omega arith) })
parted (ByProxy ∷ vias) [] many = absurd (omega (arith, many))
parted (ByProxy ∷ vias) (x ∷ []) many = absurd (omega (arith, many))
parted (ByProxy ∷ vias) (x ∷ (y ∷ xs)) many = (let later = parted vias xs (let same : length xs ≡ all_on vias = omega (arith, many) in same) in record { behind = ap (λ l. x ∷ (y ∷ l)) later.behind; before = ap (λ l. x ∷ (y ∷ l)) later.before; many_near = ap suc later.many_near; many_far = ap suc later.many_far; many_near_between = (let is : length (near_between vias xs) ≡ others_on vias = later.many_near_between in omega arith); many_far_between = (let is : length (far_between vias xs) ≡ others_on vias = later.many_far_between in omega arith) })

-- those are found at the places, and at the numbers of the channels by proxy
near_found : {X : Type 0} (front : List X) (at : ℕ) (vias : List Via) (xs : List X) → length front ≡ at → length xs ≡ all_on vias → filter_map (slice_get (front ++ xs)) (near_at at vias) ≡ near_ones vias xs
near_found front at [] xs ahead many = refl
near_found front at (ByQueue ∷ vias) [] ahead many = absurd (omega (arith, many))
near_found front at (ByQueue ∷ vias) (x ∷ xs) ahead many = ap₂ cons_option (at_front front x xs at ahead) (ap (λ l. filter_map (slice_get l) (near_at (at + (0 + 1)) vias)) (sym (append_assoc front (x ∷ []) xs)) ∙ near_found (front ++ x ∷ []) (at + (0 + 1)) vias xs (one_longer front x at ahead) (let same : length xs ≡ all_on vias = omega (arith, many) in same))
near_found front at (ByProxy ∷ vias) [] ahead many = absurd (omega (arith, many))
near_found front at (ByProxy ∷ vias) (x ∷ []) ahead many = absurd (omega (arith, many))
near_found front at (ByProxy ∷ vias) (x ∷ (y ∷ xs)) ahead many = ap₂ cons_option (at_front front x (y ∷ xs) at ahead) (ap (λ l. filter_map (slice_get l) (near_at (at + (1 + 1)) vias)) (sym (append_assoc front (x ∷ (y ∷ [])) xs)) ∙ near_found (front ++ x ∷ (y ∷ [])) (at + (1 + 1)) vias xs (two_longer front x y at ahead) (let same : length xs ≡ all_on vias = omega (arith, many) in same))

far_found : {X : Type 0} (front : List X) (at : ℕ) (vias : List Via) (xs : List X) → length front ≡ at → length xs ≡ all_on vias → filter_map (slice_get (front ++ xs)) (far_at at vias) ≡ far_ones vias xs
far_found front at [] xs ahead many = refl
far_found front at (ByQueue ∷ vias) [] ahead many = absurd (omega (arith, many))
far_found front at (ByQueue ∷ vias) (x ∷ xs) ahead many = ap₂ cons_option (at_front front x xs (at + 0) (omega (arith, ahead))) (ap (λ l. filter_map (slice_get l) (far_at (at + (0 + 1)) vias)) (sym (append_assoc front (x ∷ []) xs)) ∙ far_found (front ++ x ∷ []) (at + (0 + 1)) vias xs (one_longer front x at ahead) (let same : length xs ≡ all_on vias = omega (arith, many) in same))
far_found front at (ByProxy ∷ vias) [] ahead many = absurd (omega (arith, many))
far_found front at (ByProxy ∷ vias) (x ∷ []) ahead many = absurd (omega (arith, many))
far_found front at (ByProxy ∷ vias) (x ∷ (y ∷ xs)) ahead many = ap₂ cons_option (ap (λ l. slice_get l (at + 1)) (sym (append_assoc front (x ∷ []) (y ∷ xs))) ∙ at_front (front ++ x ∷ []) y xs (at + 1) (one_longer front x at ahead)) (ap (λ l. filter_map (slice_get l) (far_at (at + (1 + 1)) vias)) (sym (append_assoc front (x ∷ (y ∷ [])) xs)) ∙ far_found (front ++ x ∷ (y ∷ [])) (at + (1 + 1)) vias xs (two_longer front x y at ahead) (let same : length xs ≡ all_on vias = omega (arith, many) in same))

near_picked : {X : Type 0} (front : List X) (k : ℕ) (vias : List Via) (xs : List X) → length front ≡ k → length xs ≡ all_on vias → filter_map (slice_get (front ++ near_ones vias xs)) (picked k vias) ≡ near_between vias xs
near_picked front k [] xs ahead many = refl
near_picked front k (ByQueue ∷ vias) [] ahead many = absurd (omega (arith, many))
near_picked front k (ByQueue ∷ vias) (x ∷ xs) ahead many = ap (λ l. filter_map (slice_get l) (picked (k + 1) vias)) (sym (append_assoc front (x ∷ []) (near_ones vias xs))) ∙ near_picked (front ++ x ∷ []) (k + 1) vias xs (one_longer front x k ahead) (let same : length xs ≡ all_on vias = omega (arith, many) in same)
near_picked front k (ByProxy ∷ vias) [] ahead many = absurd (omega (arith, many))
near_picked front k (ByProxy ∷ vias) (x ∷ []) ahead many = absurd (omega (arith, many))
near_picked front k (ByProxy ∷ vias) (x ∷ (y ∷ xs)) ahead many = ap₂ cons_option (at_front front x (near_ones vias xs) k ahead) (ap (λ l. filter_map (slice_get l) (picked (k + 1) vias)) (sym (append_assoc front (x ∷ []) (near_ones vias xs))) ∙ near_picked (front ++ x ∷ []) (k + 1) vias xs (one_longer front x k ahead) (let same : length xs ≡ all_on vias = omega (arith, many) in same))

far_picked : {X : Type 0} (front : List X) (k : ℕ) (vias : List Via) (xs : List X) → length front ≡ k → length xs ≡ all_on vias → filter_map (slice_get (front ++ far_ones vias xs)) (picked k vias) ≡ far_between vias xs
far_picked front k [] xs ahead many = refl
far_picked front k (ByQueue ∷ vias) [] ahead many = absurd (omega (arith, many))
far_picked front k (ByQueue ∷ vias) (x ∷ xs) ahead many = ap (λ l. filter_map (slice_get l) (picked (k + 1) vias)) (sym (append_assoc front (x ∷ []) (far_ones vias xs))) ∙ far_picked (front ++ x ∷ []) (k + 1) vias xs (one_longer front x k ahead) (let same : length xs ≡ all_on vias = omega (arith, many) in same)
far_picked front k (ByProxy ∷ vias) [] ahead many = absurd (omega (arith, many))
far_picked front k (ByProxy ∷ vias) (x ∷ []) ahead many = absurd (omega (arith, many))
far_picked front k (ByProxy ∷ vias) (x ∷ (y ∷ xs)) ahead many = ap₂ cons_option (at_front front y (far_ones vias xs) k ahead) (ap (λ l. filter_map (slice_get l) (picked (k + 1) vias)) (sym (append_assoc front (y ∷ []) (far_ones vias xs))) ∙ far_picked (front ++ y ∷ []) (k + 1) vias xs (one_longer front y k ahead) (let same : length xs ≡ all_on vias = omega (arith, many) in same))

-- what each side is called, in the order of the sides
map_behind : {S X : Type 0} (f : S → X) (vias : List Via) (own others : List S) → map f (with_behind vias own others) ≡ with_behind vias (map f own) (map f others)
map_behind f [] own others = refl
map_behind f (ByQueue ∷ vias) [] others = map_behind f vias [] others
map_behind f (ByQueue ∷ vias) (x ∷ own) others = ap (λ l. f x ∷ l) (map_behind f vias own others)
map_behind f (ByProxy ∷ vias) [] [] = map_behind f vias [] []
map_behind f (ByProxy ∷ vias) [] (y ∷ others) = ap (λ l. f y ∷ l) (map_behind f vias [] others)
map_behind f (ByProxy ∷ vias) (x ∷ own) [] = ap (λ l. f x ∷ l) (map_behind f vias own [])
map_behind f (ByProxy ∷ vias) (x ∷ own) (y ∷ others) = ap (λ l. f x ∷ (f y ∷ l)) (map_behind f vias own others)

map_before : {S X : Type 0} (f : S → X) (vias : List Via) (own others : List S) → map f (with_before vias own others) ≡ with_before vias (map f own) (map f others)
map_before f [] own others = refl
map_before f (ByQueue ∷ vias) [] others = map_before f vias [] others
map_before f (ByQueue ∷ vias) (x ∷ own) others = ap (λ l. f x ∷ l) (map_before f vias own others)
map_before f (ByProxy ∷ vias) [] [] = map_before f vias [] []
map_before f (ByProxy ∷ vias) [] (y ∷ others) = ap (λ l. f y ∷ l) (map_before f vias [] others)
map_before f (ByProxy ∷ vias) (x ∷ own) [] = ap (λ l. f x ∷ l) (map_before f vias own [])
map_before f (ByProxy ∷ vias) (x ∷ own) (y ∷ others) = ap (λ l. f y ∷ (f x ∷ l)) (map_before f vias own others)

map_option : {X Y : Type 0} (f : X → Y) (o : Option X) (l : List X) → map f (cons_option o l) ≡ cons_option (option_map f o) (map f l)
map_option f None l = refl
map_option f (Some x) l = refl

found_mapped : {X Y : Type 0} (f : X → Y) (xs : List X) (places : List ℕ) → map f (filter_map (slice_get xs) places) ≡ filter_map (slice_get (map f xs)) places
found_mapped f xs [] = refl
found_mapped f xs (p ∷ places) = map_option f (slice_get xs p) (filter_map (slice_get xs) places) ∙ ap₂ cons_option (sym (slice_get-map f xs p)) (found_mapped f xs places)

mapped_each : {S X : Type 0} (f : S → X) (xs : List S) (ys : List X) → length xs ≡ length ys → ((k : ℕ) (s : S) → slice_get xs k ≡ Some s → slice_get ys k ≡ Some (f s)) → map f xs ≡ ys
mapped_each f [] [] many each = refl
mapped_each f [] (y ∷ ys) many each = absurd (omega (arith, many))
mapped_each f (x ∷ xs) [] many each = absurd (omega (arith, many))
mapped_each f (x ∷ xs) (y ∷ ys) many each = ap₂ (λ z l. z ∷ l) (sym (same_Some y (f x) (each 0 x refl))) (mapped_each f xs ys (let same : length xs ≡ length ys = omega (arith, many) in same) (λ k s at. each (suc k) s at))

-- ALL QUEUES

pub many_queues : (kinds : List (List PortKind)) (links : List Link) (queues : List Named) (producers : List Sender) (consumers : List Receiver) → AreAllNew kinds links queues producers consumers → length queues ≡ all_on (vias_of links)
many_queues kinds links queues producers consumers new = sym (length-map queues as_empty) ∙ ap length new.queues_are ∙ many_along kinds links

module _ (links : List Link) (queues : List Named) (many : length queues ≡ all_on (vias_of links)) where
  abbrev vias : List Via
  vias = vias_of links

  many_names : length (names_of queues) ≡ all_on vias
  many_names = length-map queues (λ (queue : Named). queue.name) ∙ many

  names : AreParted vias (names_of queues)
  names = parted vias (names_of queues) many_names

  near_are : near_names links queues ≡ near_ones vias (names_of queues)
  near_are = found_mapped (λ (queue : Named). queue.name) queues (near_places 0 links) ∙ ap (filter_map (slice_get (names_of queues))) (near_places_are 0 links) ∙ near_found [] 0 vias (names_of queues) refl many_names

  far_are : far_names links queues ≡ far_ones vias (names_of queues)
  far_are = found_mapped (λ (queue : Named). queue.name) queues (far_places 0 links) ∙ ap (filter_map (slice_get (names_of queues))) (far_places_are 0 links) ∙ far_found [] 0 vias (names_of queues) refl many_names

  near_between_are : filter_map (slice_get (near_names links queues)) (proxied links) ≡ near_between vias (names_of queues)
  near_between_are = ap₂ (λ l ks. filter_map (slice_get l) ks) near_are (proxied_are 0 links) ∙ near_picked [] 0 vias (names_of queues) refl many_names

  far_between_are : filter_map (slice_get (far_names links queues)) (proxied links) ≡ far_between vias (names_of queues)
  far_between_are = ap₂ (λ l ks. filter_map (slice_get l) ks) far_are (proxied_are 0 links) ∙ far_picked [] 0 vias (names_of queues) refl many_names

  module _ (senders : List Sender) (receivers outs : List Receiver) (ins : List Sender) (seats : AreSeats links (near_names links queues) (far_names links queues) senders receivers) (outs_named : map (λ (side : Receiver). side.queue) outs ≡ filter_map (slice_get (near_names links queues)) (proxied links)) (ins_named : map (λ (side : Sender). side.queue) ins ≡ filter_map (slice_get (far_names links queues)) (proxied links)) where
    many_senders : length senders ≡ length vias
    many_senders = seats.sender_each ∙ many_vias links

    many_receivers : length receivers ≡ length vias
    many_receivers = seats.receiver_each ∙ many_vias links

    many_outs : length outs ≡ others_on vias
    many_outs = sym (length-map outs (λ (side : Receiver). side.queue)) ∙ ap length (outs_named ∙ near_between_are) ∙ names.many_near_between

    many_ins : length ins ≡ others_on vias
    many_ins = sym (length-map ins (λ (side : Sender). side.queue)) ∙ ap length (ins_named ∙ far_between_are) ∙ names.many_far_between

    senders_named : map (λ (side : Sender). side.queue) senders ≡ near_ones vias (names_of queues)
    senders_named = mapped_each (λ (side : Sender). side.queue) senders (near_names links queues) (many_senders ∙ sym (ap length near_are ∙ names.many_near)) seats.senders_are ∙ near_are

    receivers_named : map (λ (side : Receiver). side.queue) receivers ≡ far_ones vias (names_of queues)
    receivers_named = mapped_each (λ (side : Receiver). side.queue) receivers (far_names links queues) (many_receivers ∙ sym (ap length far_are ∙ names.many_far)) seats.receivers_are ∙ far_are

    pub are_merged : AreMerged links queues senders receivers outs ins (with_behind (vias_of links) senders ins) (with_before (vias_of links) receivers outs)
    are_merged = record {
      producers_named = map_behind (λ (side : Sender). side.queue) vias senders ins ∙ ap₂ (with_behind vias) senders_named (ins_named ∙ far_between_are) ∙ names.behind;
      consumers_named = map_before (λ (side : Receiver). side.queue) vias receivers outs ∙ ap₂ (with_before vias) receivers_named (outs_named ∙ near_between_are) ∙ names.before;
      near_sender = λ k below. ap (λ l. at_place (with_behind vias senders ins) l k) (near_places_are 0 links) ∙ own_behind [] 0 vias senders ins k refl many_senders many_ins;
      far_receiver = λ k below. ap (λ l. at_place (with_before vias receivers outs) l k) (far_places_are 0 links) ∙ own_before [] 0 vias receivers outs k refl many_receivers many_outs;
      near_receiver = λ i k at. ap (λ l. at_place (with_before vias receivers outs) l k) (near_places_are 0 links) ∙ are_there (with_before vias receivers outs) (near_at 0 vias) (picked 0 vias) outs (others_before [] [] 0 0 vias receivers outs refl refl many_receivers many_outs) i k (ap (λ l. slice_get l i) (sym (proxied_are 0 links)) ∙ at);
      far_sender = λ i k at. ap (λ l. at_place (with_behind vias senders ins) l k) (far_places_are 0 links) ∙ are_there (with_behind vias senders ins) (far_at 0 vias) (picked 0 vias) ins (others_behind [] [] 0 0 vias senders ins refl refl many_senders many_ins) i k (ap (λ l. slice_get l i) (sym (proxied_are 0 links)) ∙ at);
      one_queue = λ k below none. ap (λ l. slice_get l k) (near_places_are 0 links) ∙ one_place_at 0 0 k vias (λ i is. none i (ap (λ l. slice_get l i) (proxied_are 0 links) ∙ is ∙ ap Some (let same : 0 + k ≡ k = omega arith in same))) ∙ ap (λ l. slice_get l k) (sym (far_places_are 0 links));
    }
