-- The due times of keys.
use Rattle.std.specs.Prelude.{ℕ, suc, zero, ◌≡◌, ◌≢◌, ◌==◌, ◌+◌, ◌*◌, ◌-◌, ◌/◌, ◌%◌, ◌≤◌, ◌<◌, Bool, true, false, min, List, Option, Some, None, map, length, get_or, drop, slice_get, slice_set, slice_index_or, option_map, [], ◌∷◌, refl, All, replicate}
use Rattle.std.proofs.Common.{sym, ap, ◌∙◌, arith, subst, inl, inr, ⊎_elim, cond, get_or-set_same, get_or-set_other}
use Rattle.std.proofs.lemmas.Bool.{cases_eq, cases_lt}
use Rattle.std.proofs.lemmas.Bool.Decides.{nat_tests}
use Rattle.std.proofs.lemmas.List.{get_or-drop, length-drop, length-map, map-set, set-get_or, drop-replicate, get_or-replicate, length-replicate}
use Rattle.std.proofs.lemmas.Option.{slice_get-map, slice_get_within, get_or_from_slice_get, slice_get-get_or}
use Rattle.moment_tree.specs.Places.{clock}
use Rattle.moment_tree.specs.Dues.{sooner, IsFirst, IsFirstBut, IsAlone}
use Rattle.moment_tree.specs.Keys.{never, due_of, IsOwn, IsAnother, IsTree}
use Rattle.moment_tree.proofs.Ways.{AreNodes, IsFrom, least, some_component's}

-- a key that has a time
timed : (key u : ℕ) → due_of key ≡ Some u → (key / 64 ≡ u) × (key ≢ never)
timed key u is = at (key == never) refl is
  where
    at : (none : Bool) → (key == never) ≡ none → cond none None (Some (key / 64)) ≡ Some u → (key / 64 ≡ u) × (key ≢ never)
    at true none same = absurd cc
    at false none same = (let time : key / 64 ≡ u = cc in time, grind (arith, nat_tests))

timeless : (key : ℕ) → due_of key ≡ None → key ≡ never
timeless key is = at (key == never) refl is
  where
    at : (none : Bool) → (key == never) ≡ none → cond none None (Some (key / 64)) ≡ None → key ≡ never
    at true none same = grind (arith, nat_tests)
    at false none same = absurd cc

pub no_time : due_of never ≡ None
no_time = refl

abbrev dues_of : ℕ → List ℕ → List (Option ℕ)
dues_of n keys = map due_of (drop n keys)

-- a component's due time is that of its key
read : (n : ℕ) (keys : List ℕ) → length keys ≡ 2 * n → (d : ℕ) → d < n → slice_get (dues_of n keys) d ≡ Some (due_of (get_or keys (n + d) 0))
read n keys sized d lt = slice_get-map due_of (drop n keys) d ∙ ap (option_map due_of) (slice_get-get_or (drop n keys) d 0 (omega (arith, length-drop n keys))) ∙ ap (λ x. Some (due_of x)) (get_or-drop n keys d 0)

in_range : (n : ℕ) (keys : List ℕ) → length keys ≡ 2 * n → (d : ℕ) (due : Option ℕ) → slice_get (dues_of n keys) d ≡ Some due → d < n
in_range n keys sized d due is = let lt : d < length (dues_of n keys) = slice_get_within (dues_of n keys) d due is in omega (arith, length-map (drop n keys) due_of, length-drop n keys)

read_back : (n : ℕ) (keys : List ℕ) → length keys ≡ 2 * n → (d : ℕ) (due : Option ℕ) → slice_get (dues_of n keys) d ≡ Some due → due_of (get_or keys (n + d) 0) ≡ due
read_back n keys sized d due is = let same : Some (due_of (get_or keys (n + d) 0)) ≡ Some due = sym (read n keys sized d (in_range n keys sized d due is)) ∙ is in cc

owned : (key d : ℕ) → IsOwn key d → key ≢ never → key % 64 ≡ d
owned key d own ne = ⊎_elim (λ e. absurd (ne e)) (λ e. e.0) own

-- no component's key is greater
fits : (key d : ℕ) → IsOwn key d → key ≤ never
fits key d own = ⊎_elim (λ e. (let is : key ≡ never = e in omega arith)) (λ e. (let lt : key < never = e.1 in omega arith)) own

-- the order of keys is that of moments
in_order : (key t c other d u : ℕ) → key ≤ other → key / 64 ≡ t → key % 64 ≡ c → other / 64 ≡ u → other % 64 ≡ d → clock t c d ≤ u
in_order key t c other d u le t_is c_is u_is d_is = ⊎_elim (λ lt. (let past : clock t c d ≡ t + 1 = past_is t c d lt in omega arith)) (λ ge. (let now : clock t c d ≡ t = now_is t c d ge in omega arith)) (cases_lt d c)
  where
    past_is : (t c d : ℕ) → d < c → clock t c d ≡ t + 1
    past_is t c d lt = grind (arith, nat_tests)

    now_is : (t c d : ℕ) → c ≤ d → clock t c d ≡ t
    now_is t c d le = grind (arith, nat_tests)

-- the moment of a component's key is that component's
key_there : (n : ℕ) (keys : List ℕ) → IsTree n keys → (key d t c : ℕ) → d < n → key ≡ get_or keys (n + d) 0 → due_of key ≡ Some t → c ≡ key % 64 → (slice_get (dues_of n keys) c ≡ Some (Some t)) × (d ≡ c)
key_there n keys tree key d t c lt from due is =
    let own : get_or keys (n + d) 0 % 64 ≡ d = owned (get_or keys (n + d) 0) d (tree.own d lt) (λ e. (timed key t due).1 (from ∙ e)) in
    let same : d ≡ c = sym own ∙ ap (λ x. x % 64) (sym from) ∙ sym is in
    (subst (λ x. slice_get (dues_of n keys) x ≡ Some (Some t)) same (read n keys tree.sized d lt ∙ ap (λ x. Some (due_of x)) (sym from) ∙ ap Some due), same)

pub first_there : (n : ℕ) (keys : List ℕ) → IsTree n keys → (t c : ℕ) → due_of (get_or keys 1 0) ≡ Some t → c ≡ get_or keys 1 0 % 64 → slice_get (dues_of n keys) c ≡ Some (Some t)
first_there n keys tree t c due is =
    let some : IsFrom n keys 1 = some_component's n keys tree.nodes tree.some in
    (key_there n keys tree (get_or keys 1 0) some.d t c some.within some.same due is).0

pub another_there : (n : ℕ) (keys : List ℕ) → IsTree n keys → (own key t c : ℕ) → IsAnother n own keys key → due_of key ≡ Some t → c ≡ key % 64 → (slice_get (dues_of n keys) c ≡ Some (Some t)) × (c ≢ own)
another_there n keys tree own key t c another due is = ⊎_elim (λ e. absurd ((timed key t due).1 e)) (λ found. at found.0 found.1 found.2 found.3) another
  where
    at : (d : ℕ) → d < n → d ≢ own → key ≡ get_or keys (n + d) 0 → (slice_get (dues_of n keys) c ≡ Some (Some t)) × (c ≢ own)
    at d lt ne from =
        let there : (slice_get (dues_of n keys) c ≡ Some (Some t)) × (d ≡ c) = key_there n keys tree key d t c lt from due is in
        (there.0, λ e. ne (there.1 ∙ e))

-- where `own` is no component, the root's key is another's
pub root_another's : (n : ℕ) (keys : List ℕ) → IsTree n keys → (own key : ℕ) → n ≤ own → key ≡ get_or keys 1 0 → IsAnother n own keys key
root_another's n keys tree own key past is =
    let some : IsFrom n keys 1 = some_component's n keys tree.nodes tree.some in
    let within : some.d < n = some.within in
    inr (some.d, some.within, (λ e. omega arith), is ∙ some.same)

-- a key at most that of component d comes before its moment
before_it : (n : ℕ) (keys : List ℕ) → IsTree n keys → (key t c : ℕ) → due_of key ≡ Some t → c ≡ key % 64 → (d u : ℕ) → slice_get (dues_of n keys) d ≡ Some (Some u) → (d < n → key ≤ get_or keys (n + d) 0) → clock t c d ≤ u
before_it n keys tree key t c due is d u found le =
    let lt : d < n = in_range n keys tree.sized d (Some u) found in
    let there : due_of (get_or keys (n + d) 0) ≡ Some u = read_back n keys tree.sized d (Some u) found in
    in_order key t c (get_or keys (n + d) 0) d u (le lt) (timed key t due).0 (sym is) (timed (get_or keys (n + d) 0) u there).0 (owned (get_or keys (n + d) 0) d (tree.own d lt) (timed (get_or keys (n + d) 0) u there).1)

pub first_first : (n : ℕ) (keys : List ℕ) → IsTree n keys → (t c : ℕ) → due_of (get_or keys 1 0) ≡ Some t → c ≡ get_or keys 1 0 % 64 → IsFirst t c (dues_of n keys)
first_first n keys tree t c due is = λ d u found. before_it n keys tree (get_or keys 1 0) t c due is d u found (λ lt. (let some : 1 ≤ n = tree.some in least n keys tree.nodes (n + d) (omega arith) (omega arith)))

pub others_first : (n : ℕ) (keys : List ℕ) → IsTree n keys → (own key t c : ℕ) → ((d : ℕ) → d < n → d ≢ own → key ≤ get_or keys (n + d) 0) → due_of key ≡ Some t → c ≡ key % 64 → IsFirstBut own t c (dues_of n keys)
others_first n keys tree own key t c low due is = λ d u ne found. before_it n keys tree key t c due is d u found (λ lt. low d lt ne)

-- where the least key is no moment's, none is
late : (n : ℕ) (keys : List ℕ) → length keys ≡ 2 * n → (d : ℕ) → d < n → never ≤ get_or keys (n + d) 0 → get_or keys (n + d) 0 ≤ never → slice_get (dues_of n keys) d ≡ Some None
late n keys sized d lt low high = read n keys sized d lt ∙ ap (λ x. Some (due_of x)) (let is : get_or keys (n + d) 0 ≡ never = omega arith in is)

pub none_due : (n : ℕ) (keys : List ℕ) → IsTree n keys → get_or keys 1 0 ≡ never → All (λ (due : Option ℕ). due ≡ None) (dues_of n keys)
none_due n keys tree is = λ d e lt. at d (omega (arith, length-map (drop n keys) due_of, length-drop n keys, tree.sized)) e
  where
    at : (d : ℕ) → d < n → (e : Option ℕ) → get_or (dues_of n keys) d e ≡ None
    at d lt e = get_or_from_slice_get (dues_of n keys) d None e (late n keys tree.sized d lt (let some : 1 ≤ n = tree.some in let low : get_or keys 1 0 ≤ get_or keys (n + d) 0 = least n keys tree.nodes (n + d) (omega arith) (omega arith) in omega arith) (fits (get_or keys (n + d) 0) d (tree.own d lt)))

pub alone : (n : ℕ) (keys : List ℕ) → IsTree n keys → (own key : ℕ) → ((d : ℕ) → d < n → d ≢ own → key ≤ get_or keys (n + d) 0) → key ≡ never → IsAlone own (dues_of n keys)
alone n keys tree own key low is = λ d due ne found.
    let lt : d < n = in_range n keys tree.sized d due found in
    let le : key ≤ get_or keys (n + d) 0 = low d lt ne in
    let none : slice_get (dues_of n keys) d ≡ Some None = late n keys tree.sized d lt (omega arith) (fits (get_or keys (n + d) 0) d (tree.own d lt)) in
    let same : Some due ≡ Some None = sym found ∙ none in
    cc

-- PUTTING IN

-- a tree with one component's key put in
pub placed_tree : (n c key : ℕ) (keys0 keys : List ℕ) → IsTree n keys0 → length keys ≡ 2 * n → AreNodes n keys → drop n keys ≡ slice_set (drop n keys0) c key → c < n → IsOwn key c → IsTree n keys
placed_tree n c key keys0 keys tree sized nodes placed lt own = record { some = tree.some; few = tree.few; sized = sized; nodes = nodes; own = owns }
  where
    at_place : (d : ℕ) → get_or keys (n + d) 0 ≡ get_or (slice_set (drop n keys0) c key) d 0
    at_place d = sym (get_or-drop n keys d 0) ∙ ap (λ xs. get_or xs d 0) placed

    owns : (d : ℕ) → d < n → IsOwn (get_or keys (n + d) 0) d
    owns d below = ⊎_elim (λ e. subst (λ x. IsOwn (get_or keys (n + x) 0) x) (sym e) here) other (cases_eq d c)
      where
        here : IsOwn (get_or keys (n + c) 0) c
        here = subst (λ x. IsOwn x c) (sym (at_place c ∙ get_or-set_same (drop n keys0) c key 0 (omega (arith, length-drop n keys0, tree.sized)))) own

        other : d ≢ c → IsOwn (get_or keys (n + d) 0) d
        other ne = subst (λ x. IsOwn x d) (sym (at_place d ∙ get_or-set_other (drop n keys0) c d key 0 ne ∙ get_or-drop n keys0 d 0)) (tree.own d below)

pub placed_dues : (n c key : ℕ) (keys0 keys : List ℕ) (due : Option ℕ) → drop n keys ≡ slice_set (drop n keys0) c key → due_of key ≡ due → dues_of n keys ≡ slice_set (dues_of n keys0) c due
placed_dues n c key keys0 keys due placed is = ap (map due_of) placed ∙ map-set due_of (drop n keys0) c key ∙ ap (slice_set (dues_of n keys0) c) is

-- outside the range nothing is set
set_past : {X : Type 0} (xs : List X) (i : ℕ) (x : X) → length xs ≤ i → slice_set xs i x ≡ xs
set_past [] i x le = refl
set_past (y ∷ ys) zero x le = absurd (omega arith)
set_past (y ∷ ys) (suc i) x le = ap (λ zs. y ∷ zs) (set_past ys i x (omega arith))

pub outside : (n : ℕ) (keys : List ℕ) → length keys ≡ 2 * n → (c : ℕ) (due : Option ℕ) → n ≤ c → dues_of n keys ≡ slice_set (dues_of n keys) c due
outside n keys sized c due le = sym (set_past (dues_of n keys) c due (omega (arith, length-map (drop n keys) due_of, length-drop n keys)))

-- THE SOONER OF TWO

due_at : (n : ℕ) (keys : List ℕ) → length keys ≡ 2 * n → (c : ℕ) → c < n → slice_index_or (dues_of n keys) c None ≡ due_of (get_or keys (n + c) 0)
due_at n keys sized c lt = get_or_from_slice_get (dues_of n keys) c (due_of (get_or keys (n + c) 0)) None (read n keys sized c lt)

sooner_key : (key at c other : ℕ) → due_of key ≡ Some at → key % 64 ≡ c → IsOwn other c → key < other → sooner at (due_of other) ≡ at
sooner_key key at c other due own owns lt = pick (other == never) refl
  where
    pick : (none : Bool) → (other == never) ≡ none → sooner at (cond none None (Some (other / 64))) ≡ at
    pick true is = refl
    pick false is =
        let ne : other ≢ never = grind (arith, nat_tests) in
        let own' : other % 64 ≡ c = owned other c owns ne in
        let t : key / 64 ≡ at = (timed key at due).0 in
        omega arith

later_key : (key at c other : ℕ) → due_of key ≡ Some at → other ≤ key → key ≤ never → Some (sooner at (due_of other)) ≡ due_of other
later_key key at c other due le fits = pick (other == never) refl
  where
    pick : (none : Bool) → (other == never) ≡ none → Some (sooner at (cond none None (Some (other / 64)))) ≡ cond none None (Some (other / 64))
    pick true is = let ne : key ≢ never = (timed key at due).1 in let same : other ≡ never = grind (arith, nat_tests) in absurd (ne (omega arith))
    pick false is =
        let t : key / 64 ≡ at = (timed key at due).0 in
        let e : min at (other / 64) ≡ other / 64 = omega arith in
        ap Some e

pub noted_dues : (n c key at : ℕ) (keys0 keys : List ℕ) → IsTree n keys0 → c < n → drop n keys ≡ slice_set (drop n keys0) c key → due_of key ≡ Some at → IsOwn key c → key < get_or keys0 (n + c) 0 → dues_of n keys ≡ slice_set (dues_of n keys0) c (Some (sooner at (slice_index_or (dues_of n keys0) c None)))
noted_dues n c key at keys0 keys tree lt placed due own less =
    placed_dues n c key keys0 keys (Some at) placed due
    ∙ ap (λ x. slice_set (dues_of n keys0) c (Some x)) (sym (ap (sooner at) (due_at n keys0 tree.sized c lt) ∙ sooner_key key at c (get_or keys0 (n + c) 0) due (owned key c own (timed key at due).1) (tree.own c lt) less))

pub kept_dues : (n c key at : ℕ) (keys : List ℕ) → IsTree n keys → c < n → due_of key ≡ Some at → get_or keys (n + c) 0 ≤ key → key ≤ never → dues_of n keys ≡ slice_set (dues_of n keys) c (Some (sooner at (slice_index_or (dues_of n keys) c None)))
kept_dues n c key at keys tree lt due le fits =
    sym (ap (slice_set (dues_of n keys) c) (ap (λ x. Some (sooner at x)) (due_at n keys tree.sized c lt) ∙ later_key key at c (get_or keys (n + c) 0) due le fits ∙ sym (due_at n keys tree.sized c lt)) ∙ set-get_or (dues_of n keys) c None)

-- AT THE START

pub start_tree : (n : ℕ) (keys : List ℕ) → 1 ≤ n → n ≤ 64 → keys ≡ replicate (2 * n) never → IsTree n keys
start_tree n keys some few is = record {
  some = some;
  few = few;
  sized = ap length is ∙ length-replicate (2 * n) never;
  nodes = λ j one lt. all_same j (omega arith) ∙ sym (ap (λ x. min x (get_or keys (2 * j + 1) 0)) (all_same (2 * j) (omega arith)) ∙ ap (min never) (all_same (2 * j + 1) (omega arith)));
  own = λ d lt. inl (all_same (n + d) (omega arith));
}
  where
    all_same : (i : ℕ) → i < 2 * n → get_or keys i 0 ≡ never
    all_same i lt = ap (λ xs. get_or xs i 0) is ∙ get_or-replicate (2 * n) i never 0 lt

map_replicate : (n x : ℕ) → map due_of (replicate n x) ≡ replicate n (due_of x)
map_replicate zero x = refl
map_replicate (suc n) x = ap (λ xs. due_of x ∷ xs) (map_replicate n x)

pub start_dues : (n : ℕ) (keys : List ℕ) → keys ≡ replicate (2 * n) never → dues_of n keys ≡ replicate n None
start_dues n keys is = ap (dues_of n) is ∙ ap (map due_of) (drop-replicate n (2 * n) never) ∙ ap (λ m. map due_of (replicate m never)) (let same : 2 * n - n ≡ n = omega arith in same) ∙ map_replicate n never
