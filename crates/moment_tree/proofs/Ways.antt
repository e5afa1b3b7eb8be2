-- The ways from the places of a tree up to its root.
use Rattle.std.specs.Prelude.{ℕ, suc, zero, ◌≡◌, ◌≢◌, ◌+◌, ◌*◌, ◌-◌, ◌/◌, ◌≤◌, ◌<◌, ◌⊎◌, min, List, length, get_or, refl, drop, slice_set}
use Rattle.std.proofs.Common.{sym, ap, ◌∙◌, arith, subst, inl, inr, ⊎_elim, get_or-set_same, get_or-set_other}
use Rattle.std.proofs.lemmas.Bool.{cases_eq, cases_lt}
use Rattle.std.proofs.lemmas.List.{drop-set-lt}
use Rattle.moment_tree.specs.Keys.{never, IsNode, IsAnother}

-- k places up from place i
pub halved : ℕ → ℕ → ℕ
halved zero i = i
halved (suc k) i = halved k i / 2

pub halved_le : (k i : ℕ) → halved k i ≤ i
unfolding halved
halved_le zero i = omega arith
halved_le (suc k) i = let le : halved k i ≤ i = halved_le k i in omega arith

lesser : (a b c : ℕ) → a ≡ min b c → (a ≤ b) × (a ≤ c)
lesser a b c is = (omega arith, omega arith)

min_of : (a b c : ℕ) → a ≡ min b c → (a ≡ b) ⊎ (a ≡ c)
min_of a b c is = ⊎_elim (λ lt. inl (omega arith)) (λ le. inr (omega arith)) (cases_lt b c)

-- a place's two halves
sides : (p : ℕ) → (p ≡ 2 * (p / 2)) ⊎ (p ≡ 2 * (p / 2) + 1)
sides p = ⊎_elim (λ lt. inl (omega arith)) (λ le. inr (omega arith)) (cases_lt p (2 * (p / 2) + 1))

abbrev pub AreNodes : ℕ → List ℕ → Type 0
AreNodes n keys = (j : ℕ) → 1 ≤ j → j < n → IsNode keys j

-- a place's key is at most those below it
one_up : (keys : List ℕ) (p : ℕ) → IsNode keys (p / 2) → get_or keys (p / 2) 0 ≤ get_or keys p 0
one_up keys p node =
    let both : (get_or keys (p / 2) 0 ≤ get_or keys (2 * (p / 2)) 0) × (get_or keys (p / 2) 0 ≤ get_or keys (2 * (p / 2) + 1) 0) = lesser (get_or keys (p / 2) 0) (get_or keys (2 * (p / 2)) 0) (get_or keys (2 * (p / 2) + 1) 0) node in
    ⊎_elim (λ e. subst (λ q. get_or keys (p / 2) 0 ≤ get_or keys q 0) (sym e) both.0) (λ e. subst (λ q. get_or keys (p / 2) 0 ≤ get_or keys q 0) (sym e) both.1) (sides p)

pub above : (n : ℕ) (keys : List ℕ) → AreNodes n keys → (k i : ℕ) → 1 ≤ halved k i → i < 2 * n → get_or keys (halved k i) 0 ≤ get_or keys i 0
unfolding halved
above n keys nodes zero i some lt = omega arith
above n keys nodes (suc k) i some lt =
    let low : halved k i ≤ i = halved_le k i in
    let up : get_or keys (halved k i / 2) 0 ≤ get_or keys (halved k i) 0 = one_up keys (halved k i) (nodes (halved k i / 2) some (omega arith)) in
    let more : get_or keys (halved k i) 0 ≤ get_or keys i 0 = above n keys nodes k i (omega arith) lt in
    omega arith

-- one step up, and then more
halved_more : (k i : ℕ) → halved k (i / 2) ≡ halved (suc k) i
unfolding halved
halved_more zero i = refl
halved_more (suc k) i = ap (λ x. x / 2) (halved_more k i)

-- each place is below the root
to_root : (fuel i : ℕ) → i ≤ fuel → 1 ≤ i → (k : ℕ) × (halved k i ≡ 1)
unfolding halved
to_root zero i le some = absurd (omega arith)
to_root (suc fuel) i le some = ⊎_elim (λ lt. (zero, (let one : i ≡ 1 = omega arith in one))) (λ more. up (to_root fuel (i / 2) (omega arith) (omega arith))) (cases_lt i 2)
  where
    up : (k : ℕ) × (halved k (i / 2) ≡ 1) → (k : ℕ) × (halved k i ≡ 1)
    up found = (suc found.0, sym (halved_more found.0 i) ∙ found.1)

-- the root's key is at most each one's
pub least : (n : ℕ) (keys : List ℕ) → AreNodes n keys → (i : ℕ) → 1 ≤ i → i < 2 * n → get_or keys 1 0 ≤ get_or keys i 0
least n keys nodes i some lt =
    let way : (k : ℕ) × (halved k i ≡ 1) = to_root i i (omega arith) some in
    subst (λ p. get_or keys p 0 ≤ get_or keys i 0) way.1 (above n keys nodes way.0 i (let one : halved way.0 i ≡ 1 = way.1 in omega arith) lt)

-- and it is one component's, as each place's is: component d's, which is below it
pub record IsFrom (n : ℕ) (keys : List ℕ) (j : ℕ) : Type 0 where
  pub d : ℕ
  pub within : d < n
  pub same : get_or keys j 0 ≡ get_or keys (n + d) 0
  pub up : ℕ
  pub way : halved up (n + d) ≡ j

some_from : (n : ℕ) (keys : List ℕ) → AreNodes n keys → (fuel j : ℕ) → 2 * n ≤ j + fuel → 1 ≤ j → j < 2 * n → IsFrom n keys j
unfolding halved
some_from n keys nodes zero j enough some lt = absurd (omega arith)
some_from n keys nodes (suc fuel) j enough some lt = ⊎_elim (λ below. inner below (λ i more within. some_from n keys nodes fuel i (omega arith) (omega arith) within)) leaf (cases_lt j n)
  where
    leaf : n ≤ j → IsFrom n keys j
    leaf le =
        let there : j ≡ n + (j - n) = omega arith in
        record { d = j - n; within = omega arith; same = ap (λ i. get_or keys i 0) there; up = zero; way = sym there }

    then_more : (i : ℕ) → i / 2 ≡ j → get_or keys j 0 ≡ get_or keys i 0 → IsFrom n keys i → IsFrom n keys j
    then_more i half is found = record { d = found.d; within = found.within; same = is ∙ found.same; up = suc found.up; way = ap (λ x. x / 2) found.way ∙ half }

    inner : j < n → ((i : ℕ) → j < i → i < 2 * n → IsFrom n keys i) → IsFrom n keys j
    inner below next = ⊎_elim (λ e. then_more (2 * j) (omega arith) e (next (2 * j) (omega arith) (omega arith))) (λ e. then_more (2 * j + 1) (omega arith) e (next (2 * j + 1) (omega arith) (omega arith))) (min_of (get_or keys j 0) (get_or keys (2 * j) 0) (get_or keys (2 * j + 1) 0) (nodes j some below))

pub each_place's : (n : ℕ) (keys : List ℕ) → AreNodes n keys → (j : ℕ) → 1 ≤ j → j < 2 * n → IsFrom n keys j
each_place's n keys nodes j some lt = some_from n keys nodes (2 * n) j (omega arith) some lt

pub some_component's : (n : ℕ) (keys : List ℕ) → AreNodes n keys → 1 ≤ n → IsFrom n keys 1
some_component's n keys nodes some = each_place's n keys nodes 1 (omega arith) (omega arith)

-- ONE KEY PUT IN

-- while the way of a key is walked up: only the place above may be wrong
pub record IsPlaced (n c key : ℕ) (keys0 keys : List ℕ) (node best : ℕ) : Type 0 where
  pub some : 1 ≤ node
  pub within : node < 2 * n
  pub sized : length keys ≡ 2 * n
  pub here : get_or keys node 0 ≡ best
  pub nodes : (j : ℕ) → 1 ≤ j → j < n → j ≢ node / 2 → IsNode keys j
  pub placed : drop n keys ≡ slice_set (drop n keys0) c key

node_kept : (keys : List ℕ) (i x j : ℕ) → j ≢ i → 2 * j ≢ i → 2 * j + 1 ≢ i → IsNode keys j → IsNode (slice_set keys i x) j
node_kept keys i x j own left right node =
    get_or-set_other keys i j x 0 own
    ∙ node
    ∙ ap (λ a. min a (get_or keys (2 * j + 1) 0)) (sym (get_or-set_other keys i (2 * j) x 0 left))
    ∙ ap (λ b. min (get_or (slice_set keys i x) (2 * j) 0) b) (sym (get_or-set_other keys i (2 * j + 1) x 0 right))

min_comm : (a b : ℕ) → min a b ≡ min b a
min_comm a b = omega arith

-- the least of a place and the one beside it
of_both : (keys : List ℕ) (p q : ℕ) → 2 ≤ p → q + p ≡ 4 * (p / 2) + 1 → min (get_or keys p 0) (get_or keys q 0) ≡ min (get_or keys (2 * (p / 2)) 0) (get_or keys (2 * (p / 2) + 1) 0)
of_both keys p q some is = ⊎_elim even odd (sides p)
  where
    even : p ≡ 2 * (p / 2) → min (get_or keys p 0) (get_or keys q 0) ≡ min (get_or keys (2 * (p / 2)) 0) (get_or keys (2 * (p / 2) + 1) 0)
    even e = let other : q ≡ 2 * (p / 2) + 1 = omega arith in ap (λ x. min (get_or keys x 0) (get_or keys q 0)) e ∙ ap (λ x. min (get_or keys (2 * (p / 2)) 0) (get_or keys x 0)) other

    odd : p ≡ 2 * (p / 2) + 1 → min (get_or keys p 0) (get_or keys q 0) ≡ min (get_or keys (2 * (p / 2)) 0) (get_or keys (2 * (p / 2) + 1) 0)
    odd e = let other : q ≡ 2 * (p / 2) = omega arith in min_comm (get_or keys p 0) (get_or keys q 0) ∙ ap (λ x. min (get_or keys x 0) (get_or keys p 0)) other ∙ ap (λ x. min (get_or keys (2 * (p / 2)) 0) (get_or keys x 0)) e

pub placed_start : (n c key : ℕ) (keys : List ℕ) → length keys ≡ 2 * n → c < n → AreNodes n keys → drop n (slice_set keys (n + c) key) ≡ slice_set (drop n keys) c key → length (slice_set keys (n + c) key) ≡ length keys → IsPlaced n c key keys (slice_set keys (n + c) key) (n + c) key
placed_start n c key keys sized lt nodes dropped long = record {
  some = omega arith;
  within = omega arith;
  sized = long ∙ sized;
  here = get_or-set_same keys (n + c) key 0 (omega arith);
  nodes = λ j some below other. node_kept keys (n + c) key j (λ e. omega arith) (λ e. other (omega arith)) (λ e. other (omega arith)) (nodes j some below);
  placed = dropped;
}

pub placed_more : (n c key : ℕ) (keys0 keys : List ℕ) (node best other best' : ℕ) → IsPlaced n c key keys0 keys node best → 2 ≤ node → other + node ≡ 4 * (node / 2) + 1 → best' ≡ min best (get_or keys other 0) → length (slice_set keys (node / 2) best') ≡ length keys → IsPlaced n c key keys0 (slice_set keys (node / 2) best') (node / 2) best'
placed_more n c key keys0 keys node best other best' before more is best_is long =
    let within : node < 2 * n = before.within in
    let sized : length keys ≡ 2 * n = before.sized in
    let up : ℕ = node / 2 in
    record {
      some = omega arith;
      within = omega arith;
      sized = long ∙ before.sized;
      here = get_or-set_same keys (node / 2) best' 0 (omega arith);
      nodes = λ j some below off. ⊎_elim (λ e. subst (λ x. IsNode (slice_set keys (node / 2) best') x) (sym e) right_here) (λ ne. node_kept keys (node / 2) best' j ne (λ e. off (omega arith)) (λ e. off (omega arith)) (before.nodes j some below ne)) (cases_eq j (node / 2));
      placed = drop-set-lt n keys (node / 2) best' (omega arith) ∙ before.placed;
    }
  where
    right_here : IsNode (slice_set keys (node / 2) best') (node / 2)
    right_here =
        let within : node < 2 * n = before.within in
        let sized : length keys ≡ 2 * n = before.sized in
        get_or-set_same keys (node / 2) best' 0 (omega arith)
        ∙ best_is
        ∙ ap (λ x. min x (get_or keys other 0)) (sym before.here)
        ∙ of_both keys node other more is
        ∙ ap (λ a. min a (get_or keys (2 * (node / 2) + 1) 0)) (sym (get_or-set_other keys (node / 2) (2 * (node / 2)) best' 0 (λ e. omega arith)))
        ∙ ap (λ b. min (get_or (slice_set keys (node / 2) best') (2 * (node / 2)) 0) b) (sym (get_or-set_other keys (node / 2) (2 * (node / 2) + 1) best' 0 (λ e. omega arith)))

pub placed_all : (n c key : ℕ) (keys0 keys : List ℕ) (node best : ℕ) → IsPlaced n c key keys0 keys node best → node ≤ 1 → AreNodes n keys
placed_all n c key keys0 keys node best placed over = λ j some below. placed.nodes j some below (λ e. omega arith)

-- ALL BUT ONE

-- further up a place is lower
higher : (k l i : ℕ) → k < l → halved l i ≤ halved k i / 2
unfolding halved
higher k zero i lt = absurd (omega arith)
higher k (suc l) i lt = ⊎_elim same (λ ne. (let le : halved l i ≤ halved k i / 2 = higher k l i (omega arith) in omega arith)) (cases_eq k l)
  where
    same : k ≡ l → halved l i / 2 ≤ halved k i / 2
    same e = let is : halved k i ≡ halved l i = ap (λ m. halved m i) e in omega arith

-- of a place and the one beside it no component is below both
apart : (k l i p q : ℕ) → halved k i ≡ p → halved l i ≡ q → 2 ≤ p → q + p ≡ 4 * (p / 2) + 1 → ⊥
apart k l i p q at beside some is = ⊎_elim (λ lt. (let le : halved l i ≤ halved k i / 2 = higher k l i lt in omega arith)) (λ ge. ⊎_elim level (λ ne. (let le : halved k i ≤ halved l i / 2 = higher l k i (omega arith) in omega arith)) (cases_eq k l)) (cases_lt k l)
  where
    level : k ≡ l → ⊥
    level e = let same : halved k i ≡ halved l i = ap (λ m. halved m i) e in omega arith

-- a key is the least of those of the components below a place, but for one
pub record IsLeastBelow (n : ℕ) (keys : List ℕ) (c node best : ℕ) : Type 0 where
  pub some : 1 ≤ node
  pub within : node < 2 * n
  pub bound : (i k : ℕ) → n ≤ i → i < 2 * n → i ≢ n + c → halved k i ≡ node → best ≤ get_or keys i 0
  pub up : ℕ
  pub way : halved up (n + c) ≡ node
  pub another : IsAnother n c keys best

pub least_start : (n : ℕ) (keys : List ℕ) (c best : ℕ) → 1 ≤ n → c < n → best ≡ never → IsLeastBelow n keys c (n + c) best
unfolding halved
least_start n keys c best some lt is_never = record { some = omega arith; within = omega arith; bound = λ i k low high other is. absurd (none i k low high other is); up = zero; way = refl; another = inl is_never }
  where
    none : (i k : ℕ) → n ≤ i → i < 2 * n → i ≢ n + c → halved k i ≡ n + c → ⊥
    none i zero low high other is = other is
    none i (suc k) low high other is = let le : halved k i ≤ i = halved_le k i in omega arith

-- the key of a place beside one above component c is another's
from_beside : (n : ℕ) (keys : List ℕ) (c node other : ℕ) → AreNodes n keys → (up : ℕ) → halved up (n + c) ≡ node → 2 ≤ node → node < 2 * n → other + node ≡ 4 * (node / 2) + 1 → IsAnother n c keys (get_or keys other 0)
from_beside n keys c node other nodes up way more lt is =
    let found : IsFrom n keys other = each_place's n keys nodes other (omega arith) (omega arith) in
    inr (found.d, found.within, (λ e. apart up found.up (n + c) node other way (subst (λ d. halved found.up (n + d) ≡ other) e found.way) more is), found.same)

pub least_more : (n : ℕ) (keys : List ℕ) (c node best other best' : ℕ) → AreNodes n keys → IsLeastBelow n keys c node best → 2 ≤ node → other + node ≡ 4 * (node / 2) + 1 → best' ≡ min best (get_or keys other 0) → IsLeastBelow n keys c (node / 2) best'
unfolding halved
least_more n keys c node best other best' nodes before more is best_is = record {
  some = omega arith;
  within = (let lt : node < 2 * n = before.within in omega arith);
  bound = bound;
  up = suc before.up;
  way = ap (λ x. x / 2) before.way;
  another = ⊎_elim (λ e. subst (IsAnother n c keys) (sym e) before.another) (λ e. subst (IsAnother n c keys) (sym e) (from_beside n keys c node other nodes before.up before.way more before.within is)) (min_of best' best (get_or keys other 0) best_is);
}
  where
    bound : (i k : ℕ) → n ≤ i → i < 2 * n → i ≢ n + c → halved k i ≡ node / 2 → best' ≤ get_or keys i 0
    bound i zero low high off at = let lt : node < 2 * n = before.within in absurd (omega arith)
    bound i (suc k) low high off at = ⊎_elim own beside (cases_eq (halved k i) node)
      where
        own : halved k i ≡ node → best' ≤ get_or keys i 0
        own e = let le : best ≤ get_or keys i 0 = before.bound i k low high off e in omega arith

        beside : halved k i ≢ node → best' ≤ get_or keys i 0
        beside ne =
            let there : halved k i ≡ other = omega arith in
            let le : get_or keys (halved k i) 0 ≤ get_or keys i 0 = above n keys nodes k i (omega arith) high in
            let same : get_or keys (halved k i) 0 ≡ get_or keys other 0 = ap (λ x. get_or keys x 0) there in
            omega arith

pub least_all : (n : ℕ) (keys : List ℕ) (c node best : ℕ) → IsLeastBelow n keys c node best → node ≤ 1 → 1 ≤ n → (d : ℕ) → d < n → d ≢ c → best ≤ get_or keys (n + d) 0
least_all n keys c node best below over some d lt ne =
    let way : (k : ℕ) × (halved k (n + d) ≡ 1) = to_root (n + d) (n + d) (omega arith) (omega arith) in
    let first : 1 ≤ node = below.some in
    let one : node ≡ 1 = omega arith in
    below.bound (n + d) way.0 (omega arith) (omega arith) (λ e. ne (omega arith)) (way.1 ∙ sym one)
