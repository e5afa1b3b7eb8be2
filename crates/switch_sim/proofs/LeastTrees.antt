-- Trees of least numbers: mending one on the way up, and finding the first low leaf on the way down.
use Rattle.std.specs.Prelude.{◌≡◌, ◌≢◌, ◌≤◌, ◌<◌, ◌+◌, ◌-◌, ◌*◌, ◌/◌, ◌^◌, zero, suc, min, ◌⊎◌, Bool, true, false, cond, nat_le, nat_lt, List, length, drop, replicate, position, slice_index, slice_set, Some, None, refl}
use Rattle.std.specs.List.{position_or_len}
use Rattle.std.proofs.Common.{ℕ, arith, eqb, ltb, ap, sym, subst, ◌∙◌, inl, inr, le_refl, length-drop}
use Rattle.std.proofs.Math.Nat.{pow-suc, pow-le-pow_right, one-le-pow}
use Rattle.std.proofs.lemmas.Bool.Decides.{nat_tests}
use Rattle.std.proofs.lemmas.List.{get_or-set_same, get_or-set_other, get_or-drop, get_or-replicate, length-set, length-replicate, drop-replicate, drop-set-lt, drop-set-add}
use Rattle.std.proofs.lemmas.List.Sums.{position_or_len_is}
use Rattle.switch_sim.specs.LeastTree.{IsLeastTree, Lowers}

pub is_same : (i j : ℕ) → eqb i j ≡ true → i ≡ j
is_same i j is = grind (arith, nat_tests)

pub is_apart : (i j : ℕ) → eqb i j ≡ false → i ≢ j
is_apart i j is e = grind (arith, nat_tests)

pub is_less : (i j : ℕ) → ltb i j ≡ true → i < j
is_less i j is = grind (arith, nat_tests)

pub is_more : (i j : ℕ) → ltb i j ≡ false → i ≢ j → j + 1 ≤ i
is_more i j is apart = grind (arith, nat_tests, apart)

pub not_less : (i j : ℕ) → ltb i j ≡ false → j ≤ i
not_less i j is = grind (arith, nat_tests)

-- MENDING

-- a tree that is right at each node but one, and whose leaves are those of another with one number set
pub record IsMending (nodes start : List ℕ) (place value hole : ℕ) : Type 0 where
  pub sized : length nodes ≡ 8192
  pub least_but : (i : ℕ) → 1 ≤ i → i < 4096 → i ≢ hole → slice_index nodes i ≡ min (slice_index nodes (2 * i)) (slice_index nodes (2 * i + 1))
  pub leaves : drop 4096 nodes ≡ slice_set (drop 4096 start) place value

pub kept : (nodes : List ℕ) (at v i : ℕ) → i ≢ at → slice_index (slice_set nodes at v) i ≡ slice_index nodes i
kept nodes at v i other = get_or-set_other nodes at i v 0 other

pub leaf_set : (start : List ℕ) (place value : ℕ) → IsLeastTree start → place < 4096 → IsMending (slice_set start (4096 + place) value) start place value ((4096 + place) / 2)
leaf_set start place value tree within = record {
  sized = length-set start (4096 + place) value ∙ tree.sized;
  least_but = λ i from below other.
      rw (kept start (4096 + place) value i (λ e. omega (arith, e, below)))
      (rw (kept start (4096 + place) value (2 * i) (λ e. other (omega (arith, e))))
      (rw (kept start (4096 + place) value (2 * i + 1) (λ e. other (omega (arith, e)))) (tree.least i from below)));
  leaves = drop-set-add 4096 start place value;
}

pub mended : (nodes start : List ℕ) (place value hole : ℕ) → IsMending nodes start place value hole → 1 ≤ hole → hole < 4096 → IsMending (slice_set nodes hole (min (slice_index nodes (2 * hole)) (slice_index nodes (2 * hole + 1)))) start place value (hole / 2)
mended nodes start place value hole mending from below = record {
  sized = length-set nodes hole v ∙ mending.sized;
  least_but = λ i from' below' other. at i from' below' other (eqb i hole) refl;
  leaves = drop-set-lt 4096 nodes hole v below ∙ mending.leaves;
}
  where
    v : ℕ
    v = min (slice_index nodes (2 * hole)) (slice_index nodes (2 * hole + 1))

    at : (i : ℕ) → 1 ≤ i → i < 4096 → i ≢ hole / 2 → (b : Bool) → eqb i hole ≡ b → slice_index (slice_set nodes hole v) i ≡ min (slice_index (slice_set nodes hole v) (2 * i)) (slice_index (slice_set nodes hole v) (2 * i + 1))
    at i from' below' other true is =
        let same : i ≡ hole = grind (arith, nat_tests) in
        rw same (rw (kept nodes hole v (2 * hole) (λ e. omega (arith, e, from))) (rw (kept nodes hole v (2 * hole + 1) (λ e. omega (arith, e, from))) (get_or-set_same nodes hole v 0 (rw mending.sized (omega (arith, below))))))
    at i from' below' other false is =
        let apart : i ≢ hole = grind (arith, nat_tests) in
        rw (kept nodes hole v i apart) (rw (kept nodes hole v (2 * i) (λ e. other (omega (arith, e)))) (rw (kept nodes hole v (2 * i + 1) (λ e. other (omega (arith, e)))) (mending.least_but i from' below' apart)))

pub whole : (nodes start : List ℕ) (place value : ℕ) → IsMending nodes start place value 0 → IsLeastTree nodes
whole nodes start place value mending = record {
  sized = mending.sized;
  least = λ i from below. mending.least_but i from below (λ e. omega (arith, e, from));
}

-- FINDING

-- the node that is some levels above a node
abbrev pub up : ℕ → ℕ → ℕ
up zero l = l
up (suc h) l = up h (l / 2)

pub up-half : (h l : ℕ) → up (suc h) l ≡ up h l / 2
up-half zero l = refl
up-half (suc h) l = up-half h (l / 2)

pub up_within : (h l : ℕ) → up h l ≤ l
up_within zero l = le_refl l
up_within (suc h) l = let within : up h (l / 2) ≤ l / 2 = up_within h (l / 2) in omega (arith, within)

pub up_is_root : (h l : ℕ) → 2 ^ h ≤ l → l < 2 ^ h + 2 ^ h → up h l ≡ 1
up_is_root zero l from below = omega arith
up_is_root (suc h) l from below =
    let twice : 2 ^ suc h ≡ 2 ^ h * 2 = pow-suc 2 h in
    up_is_root h (l / 2) (omega (arith, twice, from)) (omega (arith, twice, below))

-- a parent isn't above its child
pub parent_least : (nodes : List ℕ) (j : ℕ) → IsLeastTree nodes → 1 ≤ j / 2 → j < 8192 → slice_index nodes (j / 2) ≤ slice_index nodes j
parent_least nodes j tree from below = at (j / 2) from (omega (arith, below)) (halves j)
  where
    halves : (j : ℕ) → (j ≡ 2 * (j / 2)) ⊎ (j ≡ 2 * (j / 2) + 1)
    halves j = grind arith

    at : (i : ℕ) → 1 ≤ i → i < 4096 → (j ≡ 2 * i) ⊎ (j ≡ 2 * i + 1) → slice_index nodes i ≤ slice_index nodes j
    at i from' below' (inl e) = rw e (let least : slice_index nodes i ≡ min (slice_index nodes (2 * i)) (slice_index nodes (2 * i + 1)) = tree.least i from' below' in omega (arith, least))
    at i from' below' (inr e) = rw e (let least : slice_index nodes i ≡ min (slice_index nodes (2 * i)) (slice_index nodes (2 * i + 1)) = tree.least i from' below' in omega (arith, least))

pub least_above : (nodes : List ℕ) (h l : ℕ) → IsLeastTree nodes → l < 8192 → 1 ≤ up h l → slice_index nodes (up h l) ≤ slice_index nodes l
least_above nodes zero l tree below from = le_refl (slice_index nodes l)
least_above nodes (suc h) l tree below from =
    let half : up (suc h) l ≡ up h l / 2 = up-half h l in
    let within : up h l ≤ l = up_within h l in
    let step : slice_index nodes (up h l / 2) ≤ slice_index nodes (up h l) = parent_least nodes (up h l) tree (rw (sym half) from) (omega (arith, within, below)) in
    let more : slice_index nodes (up h l) ≤ slice_index nodes l = least_above nodes h l tree below (omega (arith, half, from)) in
    rw half (omega (arith, step, more))

-- a node some levels below the root that isn't above a limit, while each leaf before those below it is
pub record IsLowered (nodes : List ℕ) (limit level node : ℕ) : Type 0 where
  pub from : 2 ^ level ≤ node
  pub below : node < 2 ^ level + 2 ^ level
  pub low : slice_index nodes node ≤ limit
  pub before : (l : ℕ) → 4096 ≤ l → l < 8192 → up (12 - level) l < node → limit < slice_index nodes l

pub at_root : (nodes : List ℕ) (limit : ℕ) → slice_index nodes 1 ≤ limit → IsLowered nodes limit 0 1
at_root nodes limit low = record {
  from = omega arith;
  below = omega arith;
  low = low;
  before = λ l from below under. absurd (let root : up 12 l ≡ 1 = up_is_root 12 l (omega (arith, from)) (omega (arith, below)) in omega (arith, root, under));
}

pub is_inner : (nodes : List ℕ) (limit level node : ℕ) → level < 12 → IsLowered nodes limit level node → (1 ≤ node) × (node < 4096)
is_inner nodes limit level node lt lowered =
    let most : 2 ^ suc level ≤ 2 ^ 12 = pow-le-pow_right {n = 2} (omega arith) lt in
    let least : 1 ≤ 2 ^ level = one-le-pow level 2 (omega arith) in
    let twice : 2 ^ suc level ≡ 2 ^ level * 2 = pow-suc 2 level in
    (omega (arith, least, lowered.from), omega (arith, most, twice, lowered.below))

pub lowered : (nodes : List ℕ) (limit level node child : ℕ) → IsLeastTree nodes → level < 12 → IsLowered nodes limit level node → Lowers nodes node limit child → slice_index nodes child ≤ limit → IsLowered nodes limit (suc level) child
lowered nodes limit level node child tree lt lower lowers low = at lowers
  where
    twice : 2 ^ suc level ≡ 2 ^ level * 2
    twice = pow-suc 2 level

    levels : 12 - level ≡ suc (12 - suc level)
    levels = omega (arith, lt)

    above : (l : ℕ) → 4096 ≤ l → l < 8192 → up (12 - suc level) l < 2 * node → limit < slice_index nodes l
    above l from below under =
        let half : up (12 - level) l ≡ up (12 - suc level) l / 2 = ap (λ h. up h l) levels ∙ up-half (12 - suc level) l in
        lower.before l from below (omega (arith, half, under))

    last : (l : ℕ) → 4096 ≤ l → l < 8192 → limit < slice_index nodes (2 * node) → up (12 - suc level) l < 2 * node + 1 → (b : Bool) → eqb (up (12 - suc level) l) (2 * node) ≡ b → limit < slice_index nodes l
    last l from below high under true is =
        let same : up (12 - suc level) l ≡ 2 * node = is_same (up (12 - suc level) l) (2 * node) is in
        let inner : (1 ≤ node) × (node < 4096) = is_inner nodes limit level node lt lower in
        let least : slice_index nodes (up (12 - suc level) l) ≤ slice_index nodes l = least_above nodes (12 - suc level) l tree below (omega (arith, same, inner.0)) in
        let least' : slice_index nodes (2 * node) ≤ slice_index nodes l = subst (λ n. slice_index nodes n ≤ slice_index nodes l) same least in
        omega (arith, least', high)
    last l from below high under false is =
        let apart : up (12 - suc level) l ≢ 2 * node = is_apart (up (12 - suc level) l) (2 * node) is in
        above l from below (omega (arith, apart, under))

    at : Lowers nodes node limit child → IsLowered nodes limit (suc level) child
    at (inl e) = record {
      from = omega (arith, twice, e, lower.from);
      below = omega (arith, twice, e, lower.below);
      low = low;
      before = λ l from below under. above l from below (omega (arith, e, under));
    }
    at (inr e) = record {
      from = omega (arith, twice, e.0, lower.from);
      below = omega (arith, twice, e.0, lower.below);
      low = low;
      before = λ l from below under. last l from below e.1 (omega (arith, e.0, under)) (eqb (up (12 - suc level) l) (2 * node)) refl;
    }

pub at_leaves : (nodes : List ℕ) (limit level node : ℕ) → level ≤ 12 → 12 ≤ level → IsLowered nodes limit level node → IsLowered nodes limit 12 node
at_leaves nodes limit level node most least lower =
    let last : level ≡ 12 = omega (arith, most, least) in
    subst (λ (n : ℕ). IsLowered nodes limit n node) last lower

pub first_at : (limit : ℕ) (xs : List ℕ) (i : ℕ) → i < length xs → slice_index xs i ≤ limit → ((k : ℕ) → k < i → limit < slice_index xs k) → position (λ n. nat_le n limit) xs ≡ Some i
first_at limit xs i within low before =
    let is : position_or_len (λ (n : ℕ). nat_le n limit) xs ≡ i = position_or_len_is (λ (n : ℕ). nat_le n limit) xs i 0 (omega (arith, within)) (λ k lt. high (slice_index xs k) (before k lt)) (λ _. low_is (slice_index xs i) low) in
    rw is (inside within)
  where
    high : (n : ℕ) → limit < n → nat_le n limit ≡ false
    high n lt = grind (arith, nat_tests)

    low_is : (n : ℕ) → n ≤ limit → nat_le n limit ≡ true
    low_is n le = grind (arith, nat_tests)

    inside : i < length xs → cond (nat_lt i (length xs)) (Some i) None ≡ Some i
    inside lt = grind (arith, nat_tests)

pub none_at : (limit : ℕ) (xs : List ℕ) → ((k : ℕ) → k < length xs → limit < slice_index xs k) → position (λ n. nat_le n limit) xs ≡ None
none_at limit xs before =
    let is : position_or_len (λ (n : ℕ). nat_le n limit) xs ≡ length xs = position_or_len_is (λ (n : ℕ). nat_le n limit) xs (length xs) 0 (le_refl (length xs)) (λ k lt. high (slice_index xs k) (before k lt)) (λ lt. absurd (omega (arith, lt))) in
    rw is (outside (length xs))
  where
    high : (n : ℕ) → limit < n → nat_le n limit ≡ false
    high n lt = grind (arith, nat_tests)

    outside : (n : ℕ) → cond (nat_lt n n) (Some n) None ≡ None
    outside n = grind (arith, nat_tests)

pub leaf : (nodes : List ℕ) (k : ℕ) → slice_index (drop 4096 nodes) k ≡ slice_index nodes (4096 + k)
leaf nodes k = get_or-drop 4096 nodes k 0

pub leaves_are : (nodes : List ℕ) → IsLeastTree nodes → length (drop 4096 nodes) ≡ 4096
leaves_are nodes tree = length-drop 4096 nodes ∙ ap (λ n. n - 4096) tree.sized

pub found : (nodes : List ℕ) (limit node : ℕ) → IsLeastTree nodes → IsLowered nodes limit 12 node → position (λ n. nat_le n limit) (drop 4096 nodes) ≡ Some (node - 4096)
found nodes limit node tree lower =
    first_at limit (drop 4096 nodes) (node - 4096) (rw (leaves_are nodes tree) (omega (arith, lower.from, lower.below)))
    (rw (leaf nodes (node - 4096)) (subst (λ n. slice_index nodes n ≤ limit) (back node lower.from) lower.low))
    (λ k lt. rw (leaf nodes k) (lower.before (4096 + k) (omega arith) (omega (arith, lt, lower.below)) (omega (arith, lt, lower.from))))
  where
    back : (n : ℕ) → 4096 ≤ n → n ≡ 4096 + (n - 4096)
    back n le = omega (arith, le)

pub not_found : (nodes : List ℕ) (limit : ℕ) → IsLeastTree nodes → limit < slice_index nodes 1 → position (λ n. nat_le n limit) (drop 4096 nodes) ≡ None
not_found nodes limit tree high = none_at limit (drop 4096 nodes) (λ k lt. rw (leaf nodes k) (above (4096 + k) (omega arith) (let less : k < 4096 = rw (sym (leaves_are nodes tree)) lt in omega (arith, less))))
  where
    above : (l : ℕ) → 4096 ≤ l → l < 8192 → limit < slice_index nodes l
    above l from below =
        let root : up 12 l ≡ 1 = up_is_root 12 l (omega (arith, from)) (omega (arith, below)) in
        let least : slice_index nodes (up 12 l) ≤ slice_index nodes l = least_above nodes 12 l tree below (omega (arith, root)) in
        let least' : slice_index nodes 1 ≤ slice_index nodes l = subst (λ n. slice_index nodes n ≤ slice_index nodes l) root least in
        omega (arith, least', high)

-- AT THE START

pub zeros_are_least : IsLeastTree (replicate 8192 0)
zeros_are_least = record {
  sized = length-replicate {A = ℕ} 8192 0;
  least = λ i from below. rw (get_or-replicate {A = ℕ} 8192 i 0 0 (omega (arith, below))) (rw (get_or-replicate {A = ℕ} 8192 (2 * i) 0 0 (omega (arith, below))) (rw (get_or-replicate {A = ℕ} 8192 (2 * i + 1) 0 0 (omega (arith, below))) refl));
}

pub zeros_dropped : drop {A = ℕ} 4096 (replicate 8192 0) ≡ replicate 4096 0
zeros_dropped = drop-replicate {X = ℕ} 4096 8192 0
