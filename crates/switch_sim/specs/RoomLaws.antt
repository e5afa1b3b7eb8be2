-- There is a place for an address exactly where fewer than 4,096 entries of other addresses are live.
use Rattle.std.specs.Prelude.{ℕ, ◌≡◌, ◌≤◌, ◌<◌, ◌↔◌, zero, suc, Bool, true, false, ◌&&◌, not, cond, nat_lt, List, [], ◌∷◌, length, filter, position, slice_index_or, Option, Some, None, count_by, refl}
use Rattle.std.specs.List.{position_or_len}
use Rattle.std.proofs.Common.{arith, ap, sym, ◌∙◌}
use Rattle.std.proofs.lemmas.Bool.{false≢true, and_parts}
use Rattle.std.proofs.lemmas.Bool.Decides.{nat_tests}
use Rattle.std.proofs.lemmas.List.Sums.{length-filter, count_by-le-length, fails_before_first, passes_at_first}
use Rattle.std.proofs.lemmas.List.Quantifiers.{position-Some}
use Rattle.cs_base.specs.Names.{is_individual}
use Rattle.switch_sim.specs.declared.entry.Entry.{Entry}
use Rattle.switch_sim.specs.Table.{SwitchState, is_live, is_of, place_for, may_learn, others_live}
use Rattle.switch_sim.specs.TableLaws.{position_some, position_none, own_place, new_place, free_at_end, free_of_dead}

-- where one element fails, fewer pass than there are
pub filter_shorter : (p : Entry → Bool) (xs : List Entry) (k : ℕ) (d : Entry) → k < length xs → p (slice_index_or xs k d) ≡ false → length (filter p xs) < length xs
filter_shorter p [] k d lt fails = absurd (omega (arith, lt))
filter_shorter p (x ∷ xs) zero d lt fails = rw fails (let le : length (filter p xs) ≤ length xs = rw (length-filter p xs) (count_by-le-length p xs) in omega (arith, le))
filter_shorter p (x ∷ xs) (suc k) d lt fails = at (p x) (filter_shorter p xs k d (omega (arith, lt)) fails)
  where
    at : (b : Bool) → length (filter p xs) < length xs → length (cond b (x ∷ filter p xs) (filter p xs)) < length (x ∷ xs)
    at true less = omega (arith, less)
    at false less = omega (arith, less)

-- where all pass, as many pass as there are
pub filter_whole : (p : Entry → Bool) (xs : List Entry) → ((k : ℕ) (d : Entry) → k < length xs → p (slice_index_or xs k d) ≡ true) → length (filter p xs) ≡ length xs
filter_whole p [] all = refl
filter_whole p (x ∷ xs) all = rw (all 0 x (omega arith)) (ap (λ n. suc n) (filter_whole p xs (λ k d lt. all (suc k) d (omega (arith, lt)))))

pub fewer_pass : (p : Entry → Bool) (xs : List Entry) (k : ℕ) (d : Entry) → k < length xs → p (slice_index_or xs k d) ≡ false → count_by p xs < length xs
fewer_pass p xs k d lt fails = rw (sym (length-filter p xs)) (filter_shorter p xs k d lt fails)

pub all_pass : (p : Entry → Bool) (xs : List Entry) → ((k : ℕ) (d : Entry) → k < length xs → p (slice_index_or xs k d) ≡ true) → count_by p xs ≡ length xs
all_pass p xs all = sym (length-filter p xs) ∙ filter_whole p xs all

pub own_fails : (live own : Bool) → own ≡ true → (live && not own) ≡ false
own_fails true true is = refl
own_fails false true is = refl
own_fails true false is = absurd (false≢true is)
own_fails false false is = refl

pub dead_fails : (live own : Bool) → not live ≡ true → (live && not own) ≡ false
dead_fails true own is = absurd (false≢true is)
dead_fails false own is = refl

pub both_pass : (live own : Bool) → not live ≡ false → own ≡ false → (live && not own) ≡ true
both_pass true false is apart = refl
both_pass true true is apart = absurd (false≢true (sym apart))
both_pass false own is apart = absurd (false≢true (sym is))

module _ (s : SwitchState) (t : ℕ) (mac : List ℕ) (few : length s.entries ≤ 4096) where
  abbrev pub other : Entry → Bool
  other = λ (e : Entry). is_live s t e && not (is_of mac e)

  pub room_known : (place : ℕ) (d : Entry) → position (is_of mac) s.entries ≡ Some place → (place_for s t mac < 4096) × (others_live s t mac < 4096)
  room_known place d is =
      let found : (position_or_len (is_of mac) s.entries ≡ place) × (place < length s.entries) = position_some (is_of mac) s.entries place is in
      let at_place : place_for s t mac ≡ place = own_place s t mac place is in
      let fewer : others_live s t mac < length s.entries = fewer_pass other s.entries place d found.1 (own_fails (is_live s t (slice_index_or s.entries place d)) (is_of mac (slice_index_or s.entries place d)) (position-Some (is_of mac) s.entries place d is).1) in
      (omega (arith, at_place, found.1, few), omega (arith, fewer, few))

  pub room_at_end : position (is_of mac) s.entries ≡ None → length s.entries < 4096 → (place_for s t mac < 4096) × (others_live s t mac < 4096)
  room_at_end is short =
      let at_end : place_for s t mac ≡ length s.entries = new_place s t mac is ∙ free_at_end s t short in
      let most : others_live s t mac ≤ length s.entries = count_by-le-length other s.entries in
      (omega (arith, at_end, short), omega (arith, most, short))

  abbrev pub dead : Entry → Bool
  dead = λ (e : Entry). not (is_live s t e)

  pub room_of_dead : (d : Entry) → position (is_of mac) s.entries ≡ None → 4096 ≤ length s.entries → position_or_len dead s.entries < length s.entries → (place_for s t mac < 4096) × (others_live s t mac < 4096)
  room_of_dead d is full lt =
      let at_dead : place_for s t mac ≡ position_or_len dead s.entries = new_place s t mac is ∙ free_of_dead s t full in
      let fewer : others_live s t mac < length s.entries = fewer_pass other s.entries (position_or_len dead s.entries) d lt (dead_fails (is_live s t (slice_index_or s.entries (position_or_len dead s.entries) d)) (is_of mac (slice_index_or s.entries (position_or_len dead s.entries) d)) (passes_at_first dead s.entries d lt)) in
      (omega (arith, at_dead, lt, few), omega (arith, fewer, few))

  pub no_room : position (is_of mac) s.entries ≡ None → 4096 ≤ length s.entries → length s.entries ≤ position_or_len dead s.entries → (4096 ≤ place_for s t mac) × (4096 ≤ others_live s t mac)
  no_room is full past =
      let at_dead : place_for s t mac ≡ position_or_len dead s.entries = new_place s t mac is ∙ free_of_dead s t full in
      let unknown : position_or_len (is_of mac) s.entries ≡ length s.entries = position_none (is_of mac) s.entries is in
      let all : others_live s t mac ≡ length s.entries = all_pass other s.entries (λ k d lt. both_pass (is_live s t (slice_index_or s.entries k d)) (is_of mac (slice_index_or s.entries k d)) (fails_before_first dead s.entries k d (omega (arith, lt, past))) (fails_before_first (is_of mac) s.entries k d (omega (arith, lt, unknown)))) in
      (omega (arith, at_dead, full, past), omega (arith, all, full))

  -- both at once: a place below 4,096 where fewer others are live
  pub has_room : (place_for s t mac < 4096) ↔ (others_live s t mac < 4096)
  has_room = at (position (is_of mac) s.entries) refl
    where
      any_entry : Entry
      any_entry = record { mac = []; port = 0; seen = 0 }

      both : (place_for s t mac < 4096) × (others_live s t mac < 4096) → (place_for s t mac < 4096) ↔ (others_live s t mac < 4096)
      both b = (λ _. b.1, λ _. b.0)

      neither : (4096 ≤ place_for s t mac) × (4096 ≤ others_live s t mac) → (place_for s t mac < 4096) ↔ (others_live s t mac < 4096)
      neither n = (λ lt. absurd (omega (arith, lt, n.0)), λ lt. absurd (omega (arith, lt, n.1)))

      past : (i n : ℕ) → nat_lt i n ≡ false → n ≤ i
      past i n e = grind (arith, nat_tests)

      before : (i n : ℕ) → nat_lt i n ≡ true → i < n
      before i n e = grind (arith, nat_tests)

      full : position (is_of mac) s.entries ≡ None → 4096 ≤ length s.entries → (b : Bool) → nat_lt (position_or_len dead s.entries) (length s.entries) ≡ b → (place_for s t mac < 4096) ↔ (others_live s t mac < 4096)
      full is le true e = both (room_of_dead any_entry is le (before (position_or_len dead s.entries) (length s.entries) e))
      full is le false e = neither (no_room is le (past (position_or_len dead s.entries) (length s.entries) e))

      new : position (is_of mac) s.entries ≡ None → (b : Bool) → nat_lt (length s.entries) 4096 ≡ b → (place_for s t mac < 4096) ↔ (others_live s t mac < 4096)
      new is true e = both (room_at_end is (before (length s.entries) 4096 e))
      new is false e = full is (past (length s.entries) 4096 e) (nat_lt (position_or_len dead s.entries) (length s.entries)) refl

      at : (o : Option ℕ) → position (is_of mac) s.entries ≡ o → (place_for s t mac < 4096) ↔ (others_live s t mac < 4096)
      at None is = new is (nat_lt (length s.entries) 4096) refl
      at (Some place) is = both (room_known place any_entry is)

-- an address may be learned exactly where it is individual and fewer than 4,096 others are live
pub may_learn_is : (s : SwitchState) (t : ℕ) (from : List ℕ) → length s.entries ≤ 4096 → (may_learn s t from ≡ true) ↔ ((is_individual from ≡ true) × (others_live s t from < 4096))
may_learn_is s t from few = (there, back)
  where
    below : (i n : ℕ) → nat_lt i n ≡ true → i < n
    below i n e = grind (arith, nat_tests)

    tells : (i n : ℕ) → i < n → nat_lt i n ≡ true
    tells i n lt = grind (arith, nat_tests)

    there : may_learn s t from ≡ true → (is_individual from ≡ true) × (others_live s t from < 4096)
    there may =
        let parts : (is_individual from ≡ true) × (nat_lt (place_for s t from) 4096 ≡ true) = and_parts (is_individual from) (nat_lt (place_for s t from) 4096) may in
        (parts.0, (has_room s t from few).0 (below (place_for s t from) 4096 parts.1))

    back : (is_individual from ≡ true) × (others_live s t from < 4096) → may_learn s t from ≡ true
    back both = rw both.0 (tells (place_for s t from) 4096 ((has_room s t from few).1 both.1))
