-- The filtering database: where an address's entry stands, and what stands after one was put there.
use Rattle.std.specs.Prelude.{◌≡◌, ◌≢◌, ◌≤◌, ◌<◌, ◌-◌, suc, Bool, true, false, not, cond, nat_lt, nat_le, List, [], ◌∷◌, ◌++◌, length, position, slice_get, slice_index_or, slice_set, bytes_eq, Option, Some, None, MatchOption, All, AllPairs, refl}
use Rattle.std.specs.List.{position_or_len}
use Rattle.std.proofs.Common.{ℕ, arith, eqb, ap, sym, ◌∙◌, ◌+◌, ◌⊎◌, inl, inr, eq-or-lt_of_le, length-append}
use Rattle.std.proofs.lemmas.Bool.{false≢true, false_from_ne_true}
use Rattle.std.proofs.lemmas.Bool.Decides.{nat_tests}
use Rattle.std.proofs.lemmas.List.{set_split, get_or-set_same, get_or-set_other, length-set}
use Rattle.std.proofs.Math.Seq.{take-length, get_or-append_seam}
use Rattle.std.proofs.Math.ListN.{drop_of_length-le, get_or-append}
use Rattle.std.proofs.lemmas.List.Elements.{All-set, All-append, All-cons, All-nil}
use Rattle.std.proofs.lemmas.List.Folds.{find_at}
use Rattle.std.proofs.lemmas.List.Sums.{prefix_len-le-length, fails_before_first}
use Rattle.std.proofs.lemmas.List.Quantifiers.{position-Some}
use Rattle.std.proofs.lemmas.Option.{slice_get_past, slice_get_read}
use Rattle.std.proofs.lemmas.Slice.Eq.{bytes_eq-Decides}
use Rattle.switch_sim.specs.declared.entry.Entry.{Entry}
use Rattle.switch_sim.specs.Table.{SwitchState, is_live, is_of, port_of_live, lookup, free_place, place_for, put_at}

-- PLACES

pub none_of : (o : Option ℕ) → ((x : ℕ) → o ≡ Some x → ⊥) → o ≡ None
none_of None never = refl
none_of (Some x) never = absurd (never x refl)

pub position_some : {X : Type 0} (p : X → Bool) (xs : List X) (i : ℕ) → position p xs ≡ Some i → (position_or_len p xs ≡ i) × (i < length xs)
position_some p xs i is = of_test (position_or_len p xs) (length xs) i is
  where
    of_test : (n m k : ℕ) → cond (nat_lt n m) (Some n) None ≡ Some k → (n ≡ k) × (k < m)
    of_test n m k e = grind (arith, nat_tests)

pub position_none : {X : Type 0} (p : X → Bool) (xs : List X) → position p xs ≡ None → position_or_len p xs ≡ length xs
position_none p xs is = of_test (position_or_len p xs) (length xs) (prefix_len-le-length (λ x. not (p x)) xs) is
  where
    of_test : (n m : ℕ) → n ≤ m → cond (nat_lt n m) (Some n) None ≡ None → n ≡ m
    of_test n m le e = grind (arith, nat_tests)

-- the same elements pass two tests that answer alike
pub same_place : {X : Type 0} (p q : X → Bool) → ((x : X) → p x ≡ q x) → (xs : List X) → position_or_len p xs ≡ position_or_len q xs
same_place p q same [] = refl
same_place p q same (x ∷ xs) = rw (same x) (rw (same_place p q same xs) refl)

pub own_place : (s : SwitchState) (t : ℕ) (mac : List ℕ) (place : ℕ) → position (is_of mac) s.entries ≡ Some place → place_for s t mac ≡ place
own_place s t mac place is =
    let own : (position_or_len (is_of mac) s.entries ≡ place) × (place < length s.entries) = position_some (is_of mac) s.entries place is in
    at (position_or_len (is_of mac) s.entries) own.0 own.1
  where
    at : (n : ℕ) → n ≡ place → place < length s.entries → cond (nat_lt n (length s.entries)) n (free_place s t) ≡ place
    at n e lt = grind (arith, nat_tests)

pub new_place : (s : SwitchState) (t : ℕ) (mac : List ℕ) → position (is_of mac) s.entries ≡ None → place_for s t mac ≡ free_place s t
new_place s t mac is = at (position_or_len (is_of mac) s.entries) (position_none (is_of mac) s.entries is)
  where
    at : (n : ℕ) → n ≡ length s.entries → cond (nat_lt n (length s.entries)) n (free_place s t) ≡ free_place s t
    at n e = grind (arith, nat_tests)

pub free_at_end : (s : SwitchState) (t : ℕ) → length s.entries < 4096 → free_place s t ≡ length s.entries
free_at_end s t lt = grind (arith, nat_tests)

pub free_of_dead : (s : SwitchState) (t : ℕ) → 4096 ≤ length s.entries → free_place s t ≡ position_or_len (λ (e : Entry). not (is_live s t e)) s.entries
free_of_dead s t le = grind (arith, nat_tests)

-- before the age has passed since the start no entry can be dead
pub none_is_dead : (s : SwitchState) (t : ℕ) → t < s.age → (xs : List Entry) → position_or_len (λ (e : Entry). not (is_live s t e)) xs ≡ length xs
none_is_dead s t young [] = refl
none_is_dead s t young (x ∷ xs) = rw (live x.seen) (rw (none_is_dead s t young xs) (omega arith))
  where
    live : (seen : ℕ) → nat_lt (t - seen) s.age ≡ true
    live seen = grind (arith, nat_tests)

-- the dead entries are those that were seen an age ago or before
pub dead_is_old : (s : SwitchState) (t : ℕ) → 1 ≤ s.age → s.age ≤ t → (xs : List Entry) → position_or_len (λ (e : Entry). not (is_live s t e)) xs ≡ position_or_len (λ (e : Entry). nat_le e.seen (t - s.age)) xs
dead_is_old s t some le xs = same_place (λ (e : Entry). not (is_live s t e)) (λ (e : Entry). nat_le e.seen (t - s.age)) (λ e. old e.seen) xs
  where
    old : (seen : ℕ) → not (nat_lt (t - seen) s.age) ≡ nat_le seen (t - s.age)
    old seen = grind (arith, nat_tests)

-- a found place, and what a search by time finds where all places are taken
pub place_known : (s : SwitchState) (t : ℕ) (mac : List ℕ) (place : ℕ) → length s.entries ≤ 4096 → position (is_of mac) s.entries ≡ Some place → (place ≡ place_for s t mac) × (place < 4096)
place_known s t mac place few is =
    let own : (position_or_len (is_of mac) s.entries ≡ place) × (place < length s.entries) = position_some (is_of mac) s.entries place is in
    (sym (own_place s t mac place is), omega (arith, own.1))

pub place_at_end : (s : SwitchState) (t : ℕ) (mac : List ℕ) → length s.entries < 4096 → position (is_of mac) s.entries ≡ None → (length s.entries ≡ place_for s t mac) × (length s.entries < 4096)
place_at_end s t mac room is = (sym (new_place s t mac is ∙ free_at_end s t room), room)

pub no_place : (s : SwitchState) (t : ℕ) (mac : List ℕ) → 4096 ≤ length s.entries → t < s.age → position (is_of mac) s.entries ≡ None → 4096 ≤ place_for s t mac
no_place s t mac full young is = rw (new_place s t mac is) (rw (free_of_dead s t full) (rw (none_is_dead s t young s.entries) full))

pub searched_place : (s : SwitchState) (t : ℕ) (mac : List ℕ) (found : Option ℕ) → length s.entries ≡ 4096 → 1 ≤ s.age → s.age ≤ t → position (is_of mac) s.entries ≡ None → found ≡ position (λ (e : Entry). nat_le e.seen (t - s.age)) s.entries → MatchOption found (4096 ≤ place_for s t mac) (λ place. (place ≡ place_for s t mac) × (place < 4096))
searched_place s t mac found full some le is search_is = at found search_is
  where
    place_is : place_for s t mac ≡ position_or_len (λ (e : Entry). nat_le e.seen (t - s.age)) s.entries
    place_is = new_place s t mac is ∙ free_of_dead s t (omega (arith, full)) ∙ dead_is_old s t some le s.entries

    at : (o : Option ℕ) → o ≡ position (λ (e : Entry). nat_le e.seen (t - s.age)) s.entries → MatchOption o (4096 ≤ place_for s t mac) (λ place. (place ≡ place_for s t mac) × (place < 4096))
    at None e =
        let none : position_or_len (λ (e : Entry). nat_le e.seen (t - s.age)) s.entries ≡ length s.entries = position_none (λ (e : Entry). nat_le e.seen (t - s.age)) s.entries (sym e) in
        omega (arith, place_is, none, full)
    at (Some place) e =
        let found_at : (position_or_len (λ (e : Entry). nat_le e.seen (t - s.age)) s.entries ≡ place) × (place < length s.entries) = position_some (λ (e : Entry). nat_le e.seen (t - s.age)) s.entries place (sym e) in
        (sym (place_is ∙ found_at.0), omega (arith, found_at.1, full))

-- LOOK-UPS

pub lookup_known : (s : SwitchState) (t : ℕ) (mac : List ℕ) (place : ℕ) (e : Entry) → position (is_of mac) s.entries ≡ Some place → e ≡ slice_index_or s.entries place e → lookup s t mac ≡ port_of_live s t (Some e)
lookup_known s t mac place e is found =
    let own : (position_or_len (is_of mac) s.entries ≡ place) × (place < length s.entries) = position_some (is_of mac) s.entries place is in
    ap (λ o. port_of_live s t o) (find_at (is_of mac) s.entries ∙ ap (λ n. slice_get s.entries n) own.0 ∙ slice_get_read s.entries (length s.entries) place e refl own.1 found)

pub lookup_unknown : (s : SwitchState) (t : ℕ) (mac : List ℕ) → position (is_of mac) s.entries ≡ None → lookup s t mac ≡ None
lookup_unknown s t mac is =
    let none : position_or_len (is_of mac) s.entries ≡ length s.entries = position_none (is_of mac) s.entries is in
    ap (λ o. port_of_live s t o) (find_at (is_of mac) s.entries ∙ slice_get_past s.entries (position_or_len (is_of mac) s.entries) (omega (arith, none)))

-- PUTTING

pub put_within : (place : ℕ) (e : Entry) (xs : List Entry) → place < length xs → put_at place e xs ≡ slice_set xs place e
put_within place e xs lt = sym (set_split xs place e lt)

pub put_at_end : (e : Entry) (xs : List Entry) → put_at (length xs) e xs ≡ xs ++ e ∷ []
put_at_end e xs = rw (take-length xs) (rw (drop_of_length-le xs {i = suc (length xs)} (omega arith)) refl)

pub All-put : (P : Entry → Type 0) (place : ℕ) (e : Entry) (xs : List Entry) → place ≤ length xs → P e → All P xs → All P (put_at place e xs)
All-put P place e xs le it all = at (eq-or-lt_of_le le)
  where
    at : (place ≡ length xs) ⊎ (place < length xs) → All P (put_at place e xs)
    at (inl is) = rw is (rw (put_at_end e xs) (All-append P xs (e ∷ []) all (All-cons P e [] it (All-nil P))))
    at (inr lt) = rw (put_within place e xs lt) (All-set P xs place e it all)

pub length-put : (place : ℕ) (e : Entry) (xs : List Entry) → place ≤ length xs → place < 4096 → length xs ≤ 4096 → length (put_at place e xs) ≤ 4096
length-put place e xs le room few = at (eq-or-lt_of_le le)
  where
    at : (place ≡ length xs) ⊎ (place < length xs) → length (put_at place e xs) ≤ 4096
    at (inl is) = rw is (rw (put_at_end e xs) (rw (length-append xs (e ∷ [])) (omega arith)))
    at (inr lt) = rw (put_within place e xs lt) (rw (length-set xs place e) few)

-- what stands at a place after one was put
pub got_put : (place : ℕ) (e : Entry) (xs : List Entry) (d : Entry) → place ≤ length xs → slice_index_or (put_at place e xs) place d ≡ e
got_put place e xs d le = at (eq-or-lt_of_le le)
  where
    at : (place ≡ length xs) ⊎ (place < length xs) → slice_index_or (put_at place e xs) place d ≡ e
    at (inl is) = rw is (rw (put_at_end e xs) (get_or-append_seam xs e [] d))
    at (inr lt) = rw (put_within place e xs lt) (get_or-set_same xs place e d lt)

pub got_other : (place : ℕ) (e : Entry) (xs : List Entry) (k : ℕ) (d : Entry) → place ≤ length xs → k ≢ place → k < length (put_at place e xs) → (k < length xs) × (slice_index_or (put_at place e xs) k d ≡ slice_index_or xs k d)
got_other place e xs k d le other within = at (eq-or-lt_of_le le) within
  where
    at : (place ≡ length xs) ⊎ (place < length xs) → k < length (put_at place e xs) → (k < length xs) × (slice_index_or (put_at place e xs) k d ≡ slice_index_or xs k d)
    at (inl is) within =
        let shorter : k < length xs = below_last (rw (sym (length-append xs (e ∷ []))) (rw (sym (put_at_end e xs)) (rw (sym is) within))) in
        (shorter, rw is (rw (put_at_end e xs) (get_or-append xs (e ∷ []) d k shorter)))
      where
        below_last : k < length xs + 1 → k < length xs
        below_last lt = omega (arith, other, is)
    at (inr lt) within = (rw (sym (length-set xs place e)) (rw (sym (put_within place e xs lt)) within), rw (put_within place e xs lt) (get_or-set_other xs place k e d other))

-- LEARNING

-- an entry stands within the list or is the next one
pub place_within : (s : SwitchState) (t : ℕ) (mac : List ℕ) → place_for s t mac ≤ length s.entries
place_within s t mac = own (position_or_len (is_of mac) s.entries)
  where
    free : (place : ℕ) → place ≤ length s.entries → cond (nat_lt (length s.entries) 4096) (length s.entries) place ≤ length s.entries
    free place le = grind (arith, nat_tests)

    own : (place : ℕ) → cond (nat_lt place (length s.entries)) place (free_place s t) ≤ length s.entries
    own place =
        let within : free_place s t ≤ length s.entries = free (position_or_len (λ (e : Entry). not (is_live s t e)) s.entries) (prefix_len-le-length (λ (e : Entry). not (not (is_live s t e))) s.entries) in
        grind (arith, nat_tests)

pub differs : (a b : List ℕ) → bytes_eq a b ≡ false → bytes_eq b a ≡ false
differs a b is = false_from_ne_true (bytes_eq b a) (λ same. false≢true (sym is ∙ (bytes_eq-Decides a b).1 (sym ((bytes_eq-Decides b a).0 same))))

-- an address stands nowhere but at its place
pub stands_apart : (s : SwitchState) (t : ℕ) (mac : List ℕ) (k : ℕ) (d : Entry) → AllPairs (λ (e other : Entry). bytes_eq e.mac other.mac ≡ false) s.entries → k < length s.entries → k ≢ place_for s t mac → bytes_eq mac (slice_index_or s.entries k d).mac ≡ false
stands_apart s t mac k d one_each within apart = at (position (is_of mac) s.entries) refl
  where
    at : (o : Option ℕ) → position (is_of mac) s.entries ≡ o → bytes_eq mac (slice_index_or s.entries k d).mac ≡ false
    at None is = fails_before_first (is_of mac) s.entries k d (rw (position_none (is_of mac) s.entries is) within)
    at (Some place) is =
        let own : (position_or_len (is_of mac) s.entries ≡ place) × (place < length s.entries) = position_some (is_of mac) s.entries place is in
        let same : mac ≡ (slice_index_or s.entries place d).mac = (bytes_eq-Decides mac (slice_index_or s.entries place d).mac).0 (position-Some (is_of mac) s.entries place d is).1 in
        rw same (order (nat_lt k place) refl own.1 (λ e. apart (e ∙ sym (own_place s t mac place is))))
      where
        order : (b : Bool) → nat_lt k place ≡ b → place < length s.entries → (k ≡ place → ⊥) → bytes_eq (slice_index_or s.entries place d).mac (slice_index_or s.entries k d).mac ≡ false
        order true before lt ne = differs (slice_index_or s.entries k d).mac (slice_index_or s.entries place d).mac (one_each k place d (grind (arith, nat_tests)) lt)
        order false after lt ne = one_each place k d (grind (arith, nat_tests, ne)) within

pub one_each-put : (place : ℕ) (e : Entry) (xs : List Entry) → place ≤ length xs → AllPairs (λ (e other : Entry). bytes_eq e.mac other.mac ≡ false) xs → ((k : ℕ) (d : Entry) → k < length xs → k ≢ place → bytes_eq e.mac (slice_index_or xs k d).mac ≡ false) → AllPairs (λ (e other : Entry). bytes_eq e.mac other.mac ≡ false) (put_at place e xs)
one_each-put place e xs le one_each apart i j d lt within = at (eqb i place) refl (eqb j place) refl
  where
    at : (p : Bool) → eqb i place ≡ p → (q : Bool) → eqb j place ≡ q → bytes_eq (slice_index_or (put_at place e xs) i d).mac (slice_index_or (put_at place e xs) j d).mac ≡ false
    at true is_i true is_j = absurd (grind (arith, nat_tests, lt))
    at true is_i false is_j =
        let i_is : i ≡ place = grind (arith, nat_tests) in
        let j_other : j ≢ place = grind (arith, nat_tests) in
        let other : (j < length xs) × (slice_index_or (put_at place e xs) j d ≡ slice_index_or xs j d) = got_other place e xs j d le j_other within in
        rw i_is (rw (got_put place e xs d le) (rw other.1 (apart j d other.0 j_other)))
    at false is_i true is_j =
        let j_is : j ≡ place = grind (arith, nat_tests) in
        let i_other : i ≢ place = grind (arith, nat_tests) in
        let other : (i < length xs) × (slice_index_or (put_at place e xs) i d ≡ slice_index_or xs i d) = got_other place e xs i d le i_other (omega (arith, lt, within)) in
        rw j_is (rw (got_put place e xs d le) (rw other.1 (differs e.mac (slice_index_or xs i d).mac (apart i d other.0 i_other))))
    at false is_i false is_j =
        let i_other : i ≢ place = grind (arith, nat_tests) in
        let j_other : j ≢ place = grind (arith, nat_tests) in
        let at_i : (i < length xs) × (slice_index_or (put_at place e xs) i d ≡ slice_index_or xs i d) = got_other place e xs i d le i_other (omega (arith, lt, within)) in
        let at_j : (j < length xs) × (slice_index_or (put_at place e xs) j d ≡ slice_index_or xs j d) = got_other place e xs j d le j_other within in
        rw at_i.1 (rw at_j.1 (one_each i j d lt at_j.0))
