-- What look-ups and room say, as sums over the entries, which don't depend on their order nor on entries that are dead.
use Rattle.std.specs.Prelude.{ℕ, ◌≡◌, ◌≤◌, ◌<◌, ◌+◌, ◌-◌, suc, Bool, true, false, ◌&&◌, not, cond, nat_lt, List, [], ◌∷◌, length, filter, find, position, slice_index_or, bytes_eq, Option, Some, None, All, AllPairs, if◌then◌else◌, refl}
use Rattle.std.specs.List.{position_or_len, sum_by}
use Rattle.std.proofs.Common.{arith, ap, sym, ◌∙◌}
use Rattle.std.proofs.lemmas.Bool.{false≢true}
use Rattle.std.proofs.lemmas.Bool.Decides.{nat_tests}
use Rattle.std.proofs.lemmas.List.{get_or_default}
use Rattle.std.proofs.lemmas.List.Elements.{All-head, All-tail}
use Rattle.std.proofs.lemmas.List.Folds.{find_at}
use Rattle.std.proofs.lemmas.List.Sums.{sum_by-cons, sum_by-set, sum_by_push, passes_at_first}
use Rattle.std.proofs.lemmas.Option.{slice_get_past, slice_get_read}
use Rattle.std.proofs.lemmas.Slice.Eq.{bytes_eq-Decides}
use Rattle.switch_sim.specs.declared.entry.Entry.{Entry}
use Rattle.switch_sim.specs.Table.{SwitchState, is_live, is_of, port_of_live, lookup, place_for, put_at}
use Rattle.switch_sim.specs.TableLaws.{position_some, position_none, own_place, new_place, free_at_end, free_of_dead, put_within, put_at_end}

-- each address stands in one entry
abbrev pub OneEach : List Entry → Type 0
OneEach entries = AllPairs (λ (e other : Entry). bytes_eq e.mac other.mac ≡ false) entries

-- SUMS

pub sum_same : (f g : Entry → ℕ) → ((e : Entry) → f e ≡ g e) → (xs : List Entry) → sum_by f xs ≡ sum_by g xs
sum_same f g same xs = λ i. sum_by (λ e. same e i) xs

pub sum_none : (f : Entry → ℕ) (xs : List Entry) → All (λ e. f e ≡ 0) xs → sum_by f xs ≡ 0
sum_none f [] none = refl
sum_none f (x ∷ xs) none = omega (arith, sum_by-cons f x xs, All-head (λ e. f e ≡ 0) x xs none, sum_none f xs (All-tail (λ e. f e ≡ 0) x xs none))

-- what counts nothing may be left out
pub sum_kept : (f : Entry → ℕ) (p : Entry → Bool) → ((e : Entry) → p e ≡ false → f e ≡ 0) → (xs : List Entry) → sum_by f (filter p xs) ≡ sum_by f xs
sum_kept f p none [] = refl
sum_kept f p none (x ∷ xs) = at (p x) refl (sum_kept f p none xs)
  where
    at : (b : Bool) → p x ≡ b → sum_by f (filter p xs) ≡ sum_by f xs → sum_by f (cond b (x ∷ filter p xs) (filter p xs)) ≡ sum_by f (x ∷ xs)
    at true is more = sum_by-cons f x (filter p xs) ∙ ap (λ n. f x + n) more ∙ sym (sum_by-cons f x xs)
    at false is more = omega (arith, sum_by-cons f x xs, none x is, more)

-- THE ENTRY OF AN ADDRESS

-- what counts only where a test holds
abbrev pub only : Bool → ℕ → ℕ
only b n = cond b n 0

-- what counts of an entry, if it is that of an address
abbrev pub own : (Entry → ℕ) → List ℕ → Entry → ℕ
own f mac e = only (is_of mac e) (f e)

abbrev pub of_found : (Entry → ℕ) → Option Entry → ℕ
of_found f None = 0
of_found f (Some e) = f e

pub own_sum : (f : Entry → ℕ) (mac : List ℕ) (xs : List Entry) → OneEach xs → sum_by (own f mac) xs ≡ of_found f (find (is_of mac) xs)
own_sum f mac [] one_each = refl
own_sum f mac (x ∷ xs) one_each = at (is_of mac x) refl (own_sum f mac xs (λ i j d lt within. one_each (suc i) (suc j) d (omega (arith, lt)) (omega (arith, within))))
  where
    others : is_of mac x ≡ true → All (λ e. own f mac e ≡ 0) xs
    others is k d within = ap (λ b. only b (f (slice_index_or xs k d))) (ap (λ m. bytes_eq m (slice_index_or xs k d).mac) ((bytes_eq-Decides mac x.mac).0 is) ∙ one_each 0 (suc k) d (omega arith) (omega (arith, within)))

    at : (b : Bool) → is_of mac x ≡ b → sum_by (own f mac) xs ≡ of_found f (find (is_of mac) xs) → sum_by (own f mac) (x ∷ xs) ≡ of_found f (cond b (Some x) (find (is_of mac) xs))
    at true is more = omega (arith, sum_by-cons (own f mac) x xs, ap (λ b. only b (f x)) is, sum_none (own f mac) xs (others is))
    at false is more = omega (arith, sum_by-cons (own f mac) x xs, ap (λ b. only b (f x)) is, more)

-- PUTTING

pub sum_put_within : (f : Entry → ℕ) (place : ℕ) (e : Entry) (xs : List Entry) → place < length xs → sum_by f (put_at place e xs) + f (slice_index_or xs place e) ≡ sum_by f xs + f e
sum_put_within f place e xs lt = rw (put_within place e xs lt) (sum_by-set f xs place e e lt)

pub sum_put_at_end : (f : Entry → ℕ) (e : Entry) (xs : List Entry) → sum_by f (put_at (length xs) e xs) ≡ sum_by f xs + f e
sum_put_at_end f e xs = rw (put_at_end e xs) (sum_by_push f xs e)

abbrev pub first_dead : SwitchState → ℕ → ℕ
first_dead s t = position_or_len (λ (x : Entry). not (is_live s t x)) s.entries

module _ (s : SwitchState) (t : ℕ) (from : List ℕ) (few : length s.entries ≤ 4096) (one_each : OneEach s.entries) (room : place_for s t from < 4096) where
  -- a learned entry replaces that of its address, and otherwise at most a dead one, which counts nothing
  pub sum_learned : (f : Entry → ℕ) (e : Entry) → ((x : Entry) → is_live s t x ≡ false → f x ≡ 0) → sum_by f (put_at (place_for s t from) e s.entries) + sum_by (own f from) s.entries ≡ sum_by f s.entries + f e
  sum_learned f e none = at (position (is_of from) s.entries) refl
    where
      known : (place : ℕ) → position (is_of from) s.entries ≡ Some place → sum_by f (put_at (place_for s t from) e s.entries) + sum_by (own f from) s.entries ≡ sum_by f s.entries + f e
      known place is =
          let found : (position_or_len (is_of from) s.entries ≡ place) × (place < length s.entries) = position_some (is_of from) s.entries place is in
          let here : find (is_of from) s.entries ≡ Some (slice_index_or s.entries place e) = find_at (is_of from) s.entries ∙ slice_get_read s.entries (length s.entries) (position_or_len (is_of from) s.entries) (slice_index_or s.entries place e) refl (omega (arith, found.0, found.1)) (rw found.0 (get_or_default s.entries place e (slice_index_or s.entries place e) found.1)) in
          let mine : sum_by (own f from) s.entries ≡ f (slice_index_or s.entries place e) = own_sum f from s.entries one_each ∙ ap (of_found f) here in
          rw (own_place s t from place is) (rw mine (sum_put_within f place e s.entries found.1))

      unknown : position (is_of from) s.entries ≡ None → sum_by (own f from) s.entries ≡ 0
      unknown is = own_sum f from s.entries one_each ∙ ap (of_found f) (find_at (is_of from) s.entries ∙ slice_get_past s.entries (position_or_len (is_of from) s.entries) (omega (arith, position_none (is_of from) s.entries is)))

      at_end : position (is_of from) s.entries ≡ None → length s.entries < 4096 → sum_by f (put_at (place_for s t from) e s.entries) + sum_by (own f from) s.entries ≡ sum_by f s.entries + f e
      at_end is short = rw (new_place s t from is ∙ free_at_end s t short) (omega (arith, unknown is, sum_put_at_end f e s.entries))

      dead : (live : Bool) → not live ≡ true → live ≡ false
      dead true is = absurd (false≢true is)
      dead false is = refl

      over_dead : position (is_of from) s.entries ≡ None → 4096 ≤ length s.entries → sum_by f (put_at (place_for s t from) e s.entries) + sum_by (own f from) s.entries ≡ sum_by f s.entries + f e
      over_dead is full =
          let place : place_for s t from ≡ first_dead s t = new_place s t from is ∙ free_of_dead s t full in
          let within : first_dead s t < length s.entries = omega (arith, place, room, full) in
          let nothing : f (slice_index_or s.entries (first_dead s t) e) ≡ 0 = none (slice_index_or s.entries (first_dead s t) e) (dead (is_live s t (slice_index_or s.entries (first_dead s t) e)) (passes_at_first (λ (x : Entry). not (is_live s t x)) s.entries e within)) in
          rw place (omega (arith, unknown is, nothing, sum_put_within f (first_dead s t) e s.entries within))

      new : position (is_of from) s.entries ≡ None → (b : Bool) → nat_lt (length s.entries) 4096 ≡ b → sum_by f (put_at (place_for s t from) e s.entries) + sum_by (own f from) s.entries ≡ sum_by f s.entries + f e
      new is true short = at_end is (grind (arith, nat_tests, short))
      new is false full = over_dead is (grind (arith, nat_tests, full))

      at : (o : Option ℕ) → position (is_of from) s.entries ≡ o → sum_by f (put_at (place_for s t from) e s.entries) + sum_by (own f from) s.entries ≡ sum_by f s.entries + f e
      at None is = new is (nat_lt (length s.entries) 4096) refl
      at (Some place) is = known place is

-- LOOK-UPS AND ROOM

-- a look-up as a number
abbrev pub coded : Option ℕ → ℕ
coded None = 0
coded (Some port) = suc port

-- how many stations a look-up finds
abbrev pub found : Option ℕ → ℕ
found None = 0
found (Some port) = 1

pub decoded : (a b : Option ℕ) → coded a ≡ coded b → a ≡ b
decoded None None is = refl
decoded None (Some q) is = absurd (omega (arith, is))
decoded (Some p) None is = absurd (omega (arith, is))
decoded (Some p) (Some q) is = ap (λ n. Some n) (omega (arith, is))

-- what an entry counts at t: its port as a number, and one
abbrev pub port_at : SwitchState → ℕ → Entry → ℕ
port_at s t e = only (is_live s t e) (suc e.port)

abbrev pub one_at : SwitchState → ℕ → Entry → ℕ
one_at s t e = only (is_live s t e) 1

-- what an entry counts for the room of an address
abbrev pub other_at : SwitchState → ℕ → List ℕ → Entry → ℕ
other_at s t mac e = only (is_live s t e && not (is_of mac e)) 1

pub lookup_sum : (s : SwitchState) (t : ℕ) (mac : List ℕ) → OneEach s.entries → sum_by (own (port_at s t) mac) s.entries ≡ coded (lookup s t mac)
lookup_sum s t mac one_each = own_sum (port_at s t) mac s.entries one_each ∙ at (find (is_of mac) s.entries)
  where
    live : (e : Entry) (b : Bool) → only b (suc e.port) ≡ coded (if b then Some e.port else None)
    live e true = refl
    live e false = refl

    at : (o : Option Entry) → of_found (port_at s t) o ≡ coded (port_of_live s t o)
    at None = refl
    at (Some e) = live e (is_live s t e)

pub found_sum : (s : SwitchState) (t : ℕ) (mac : List ℕ) → OneEach s.entries → sum_by (own (one_at s t) mac) s.entries ≡ found (lookup s t mac)
found_sum s t mac one_each = own_sum (one_at s t) mac s.entries one_each ∙ at (find (is_of mac) s.entries)
  where
    live : (e : Entry) (b : Bool) → only b 1 ≡ found (if b then Some e.port else None)
    live e true = refl
    live e false = refl

    at : (o : Option Entry) → of_found (one_at s t) o ≡ found (port_of_live s t o)
    at None = refl
    at (Some e) = live e (is_live s t e)

-- dead entries stay dead, and count nothing
pub dead_later : (s : SwitchState) (t later : ℕ) (e : Entry) → t ≤ later → is_live s t e ≡ false → is_live s later e ≡ false
dead_later s t later e le dead = still e.seen dead
  where
    still : (seen : ℕ) → nat_lt (t - seen) s.age ≡ false → nat_lt (later - seen) s.age ≡ false
    still seen dead = grind (arith, nat_tests)

pub no_port : (s : SwitchState) (t : ℕ) (mac : List ℕ) (e : Entry) → is_live s t e ≡ false → own (port_at s t) mac e ≡ 0
no_port s t mac e dead = rw dead (either (is_of mac e))
  where
    either : (b : Bool) → only b 0 ≡ 0
    either true = refl
    either false = refl

pub no_other : (s : SwitchState) (t : ℕ) (mac : List ℕ) (e : Entry) → is_live s t e ≡ false → other_at s t mac e ≡ 0
no_other s t mac e dead = rw dead refl
