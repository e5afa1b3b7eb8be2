-- Filed entries: finding one by its address or its time, and putting one.
use Rattle.std.specs.Prelude.{◌≡◌, ◌≢◌, ◌≤◌, ◌<◌, ◌+◌, suc, ◌⊎◌, Bool, true, false, cond, nat_lt, List, [], ◌∷◌, length, replicate, position, slice_index, slice_index_or, slice_set, Some, None, refl}
use Rattle.std.specs.List.{position_or_len}
use Rattle.std.proofs.Common.{ℕ, arith, eqb, ap, sym, subst, ◌∙◌, inl, inr, le_refl, eq-or-lt_of_le, length-append}
use Rattle.std.proofs.lemmas.Bool.{false_from_ne_true}
use Rattle.std.proofs.lemmas.Bool.Decides.{nat_tests}
use Rattle.std.proofs.lemmas.List.{get_or-replicate, length-replicate, length-set}
use Rattle.std.proofs.lemmas.List.Sums.{position_or_len_is}
use Rattle.std.proofs.lemmas.Option.{slice_get_read, get_or_from_slice_get}
use Rattle.std.proofs.lemmas.Slice.Eq.{bytes_eq-Decides}
use Rattle.switch_sim.specs.declared.entry.Entry.{Entry}
use Rattle.switch_sim.specs.Table.{is_of, put_at}
use Rattle.switch_sim.specs.TableLaws.{put_within, put_at_end, length-put, got_put, got_other}
use Rattle.switch_sim.specs.Chains.{IsNextIn}
use Rattle.switch_sim.specs.Filed.{bucket_of, IsFiled}
use Rattle.switch_sim.proofs.LeastTrees.{is_same, is_apart, kept}
use Rattle.switch_sim.proofs.Chained.{set_here}

pub none_filed : IsFiled [] (replicate 4096 4096) (replicate 4096 0)
none_filed = record {
  few = omega arith;
  buckets_sized = length-replicate {A = ℕ} 4096 4096;
  seen_sized = length-replicate {A = ℕ} 4096 0;
  filed = λ p d lt. absurd (omega (arith, lt));
  free = λ p le lt. (let is : slice_index (replicate 4096 4096) p ≡ 4096 = get_or-replicate {A = ℕ} 4096 p 4096 0 lt in omega (arith, is));
  timed = λ p d lt. absurd (omega (arith, lt));
}

pub bucket_below : (mac : List ℕ) → bucket_of mac < 4096
unfolding bucket_of
bucket_below mac = omega arith

-- FINDING BY ADDRESS

pub first_position : (p : Entry → Bool) (xs : List Entry) (i : ℕ) (d : Entry) → i < length xs → p (slice_index_or xs i d) ≡ true → ((k : ℕ) → k < i → p (slice_index_or xs k d) ≡ false) → position p xs ≡ Some i
first_position p xs i d within passes before =
    let is : position_or_len p xs ≡ i = position_or_len_is p xs i d (omega (arith, within)) before (λ _. passes) in
    rw is (inside within)
  where
    inside : i < length xs → cond (nat_lt i (length xs)) (Some i) None ≡ Some i
    inside lt = grind (arith, nat_tests)

pub no_position : (p : Entry → Bool) (xs : List Entry) → ((k : ℕ) (d : Entry) → k < length xs → p (slice_index_or xs k d) ≡ false) → position p xs ≡ None
no_position p [] fails = refl
no_position p (x ∷ xs) fails =
    let is : position_or_len p (x ∷ xs) ≡ length (x ∷ xs) = position_or_len_is p (x ∷ xs) (length (x ∷ xs)) x (le_refl (length (x ∷ xs))) (λ k lt. fails k x lt) (λ lt. absurd (omega (arith, lt))) in
    rw is (outside (length (x ∷ xs)))
  where
    outside : (n : ℕ) → cond (nat_lt n n) (Some n) None ≡ None
    outside n = grind (arith, nat_tests)

-- the places before this one are of other addresses, and this one is of the address's bucket
pub record IsSearched (entries : List Entry) (buckets mac : List ℕ) (place : ℕ) : Type 0 where
  pub within : place ≤ 4096
  pub here : place < 4096 → slice_index buckets place ≡ bucket_of mac
  pub before : (r : ℕ) (d : Entry) → r < place → r < length entries → is_of mac (slice_index_or entries r d) ≡ false

module _ (entries : List Entry) (buckets seen : List ℕ) (filed : IsFiled entries buckets seen) (mac : List ℕ) where
  pub not_of : (r : ℕ) (d : Entry) → r < length entries → (slice_index buckets r ≡ bucket_of mac → ⊥) → is_of mac (slice_index_or entries r d) ≡ false
  not_of r d lt other = false_from_ne_true (is_of mac (slice_index_or entries r d)) (λ same. other (filed.filed r d lt ∙ ap (λ (m : List ℕ). bucket_of m) (sym ((bytes_eq-Decides mac (slice_index_or entries r d).mac).0 same))))

  pub search_begun : (place : ℕ) → IsNextIn buckets (bucket_of mac) 0 place → IsSearched entries buckets mac place
  search_begun place next = record {
    within = next.within;
    here = next.there;
    before = λ r d less lt. not_of r d lt (next.first r (omega arith) less);
  }

  pub is_entry : (place : ℕ) → IsSearched entries buckets mac place → place < 4096 → place < length entries
  is_entry place searched lt = at (nat_lt place (length entries)) refl
    where
      at : (v : Bool) → nat_lt place (length entries) ≡ v → place < length entries
      at true e = grind (arith, nat_tests)
      at false e =
          let past : length entries ≤ place = beyond place (length entries) e in
          let none : 4096 ≤ slice_index buckets place = filed.free place past lt in
          let is : slice_index buckets place ≡ bucket_of mac = searched.here lt in
          absurd (let below : bucket_of mac < 4096 = bucket_below mac in omega (arith, none, is, below))
        where
          beyond : (i n : ℕ) → nat_lt i n ≡ false → n ≤ i
          beyond i n e = grind (arith, nat_tests)

  pub search_goes : (place q : ℕ) (e : Entry) → IsSearched entries buckets mac place → place < 4096 → e ≡ slice_index_or entries place e → is_of mac e ≡ false → IsNextIn buckets (slice_index buckets place) (place + 1) q → IsSearched entries buckets mac q
  search_goes place q e searched lt e_is other next = record {
    within = next.within;
    here = λ less. next.there less ∙ searched.here lt;
    before = λ r d less r_lt. at r d less r_lt (eqb r place) refl;
  }
    where
      same_entry : (d : Entry) → e ≡ slice_index_or entries place d
      same_entry d = sym (get_or_from_slice_get entries place e d (slice_get_read entries (length entries) place e refl (is_entry place searched lt) e_is))

      at : (r : ℕ) (d : Entry) → r < q → r < length entries → (v : Bool) → eqb r place ≡ v → is_of mac (slice_index_or entries r d) ≡ false
      at r d less r_lt true is = subst (λ (n : ℕ). is_of mac (slice_index_or entries n d) ≡ false) (sym (is_same r place is)) (subst (λ (x : Entry). is_of mac x ≡ false) (same_entry d) other)
      at r d less r_lt false is = side (nat_lt r place) refl
        where
          after : (i j : ℕ) → nat_lt i j ≡ false → i ≢ j → j + 1 ≤ i
          after i j e apart = grind (arith, nat_tests, apart)

          before' : (i j : ℕ) → nat_lt i j ≡ true → i < j
          before' i j e = grind (arith, nat_tests)

          side : (v : Bool) → nat_lt r place ≡ v → is_of mac (slice_index_or entries r d) ≡ false
          side true e = searched.before r d (before' r place e) r_lt
          side false e = not_of r d r_lt (λ of_bucket. next.first r (after r place e (is_apart r place is)) less (of_bucket ∙ sym (searched.here lt)))

  pub search_found : (place : ℕ) (e : Entry) → IsSearched entries buckets mac place → place < 4096 → e ≡ slice_index_or entries place e → is_of mac e ≡ true → position (is_of mac) entries ≡ Some place
  search_found place e searched lt e_is same = first_position (is_of mac) entries place e (is_entry place searched lt) (subst (λ (x : Entry). is_of mac x ≡ true) e_is same) (λ k less. searched.before k e less (let within : place < length entries = is_entry place searched lt in omega (arith, less, within)))

  pub search_ended : (place : ℕ) → IsSearched entries buckets mac place → 4096 ≤ place → position (is_of mac) entries ≡ None
  search_ended place searched end = no_position (is_of mac) entries (λ k d lt. searched.before k d (let few : length entries ≤ 4096 = filed.few in omega (arith, lt, few, end)) lt)

-- FINDING BY TIME

pub same_times : (p : ℕ → Bool) (times : List ℕ) (entries : List Entry) → length times ≡ length entries → ((k : ℕ) (d : Entry) → k < length entries → slice_index times k ≡ (slice_index_or entries k d).seen) → position_or_len p times ≡ position_or_len (λ (e : Entry). p e.seen) entries
same_times p [] [] lengths same = refl
same_times p [] (e ∷ entries) lengths same = absurd (omega (arith, lengths))
same_times p (t ∷ times) [] lengths same = absurd (omega (arith, lengths))
same_times p (t ∷ times) (e ∷ entries) lengths same =
    let head : t ≡ e.seen = same 0 e (omega arith) in
    let tail : position_or_len p times ≡ position_or_len (λ (e : Entry). p e.seen) entries = same_times p times entries (omega (arith, lengths)) (λ k d lt. same (suc k) d (omega (arith, lt))) in
    rw head (rw tail refl)

pub found_by_time : (p : ℕ → Bool) (times : List ℕ) (entries : List Entry) → length times ≡ length entries → ((k : ℕ) (d : Entry) → k < length entries → slice_index times k ≡ (slice_index_or entries k d).seen) → position p times ≡ position (λ (e : Entry). p e.seen) entries
found_by_time p times entries lengths same = rw (same_times p times entries lengths same) (rw lengths refl)

-- PUTTING

pub lengths_put : (place : ℕ) (e : Entry) (xs : List Entry) → place ≤ length xs → (place < length (put_at place e xs)) × (length xs ≤ length (put_at place e xs))
lengths_put place e xs le = at (eq-or-lt_of_le le)
  where
    at : (place ≡ length xs) ⊎ (place < length xs) → (place < length (put_at place e xs)) × (length xs ≤ length (put_at place e xs))
    at (inl is) =
        let grown : length (put_at place e xs) ≡ length xs + 1 = ap (λ n. length (put_at n e xs)) is ∙ ap (λ (ys : List Entry). length ys) (put_at_end e xs) ∙ length-append xs (e ∷ []) in
        (omega (arith, grown, is), omega (arith, grown))
    at (inr lt) =
        let stays : length (put_at place e xs) ≡ length xs = ap (λ (ys : List Entry). length ys) (put_within place e xs lt) ∙ length-set xs place e in
        (omega (arith, stays, lt), omega (arith, stays))

pub refiled : (entries : List Entry) (buckets seen : List ℕ) (place : ℕ) (e : Entry) → IsFiled entries buckets seen → place ≤ length entries → place < 4096 → IsFiled (put_at place e entries) (slice_set buckets place (bucket_of e.mac)) (slice_set seen place e.seen)
refiled entries buckets seen place e filed le room = record {
  few = length-put place e entries le room filed.few;
  buckets_sized = length-set buckets place (bucket_of e.mac) ∙ filed.buckets_sized;
  seen_sized = length-set seen place e.seen ∙ filed.seen_sized;
  filed = λ p d lt. of_bucket p d lt (eqb p place) refl;
  free = λ p past lt.
      (let lengths : (place < length (put_at place e entries)) × (length entries ≤ length (put_at place e entries)) = lengths_put place e entries le in
      rw (kept buckets place (bucket_of e.mac) p (λ same. omega (arith, same, lengths.0, past))) (filed.free p (omega (arith, lengths.1, past)) lt));
  timed = λ p d lt. at_time p d lt (eqb p place) refl;
}
  where
    of_bucket : (p : ℕ) (d : Entry) → p < length (put_at place e entries) → (v : Bool) → eqb p place ≡ v → slice_index (slice_set buckets place (bucket_of e.mac)) p ≡ bucket_of (slice_index_or (put_at place e entries) p d).mac
    of_bucket p d lt true is =
        let same : p ≡ place = is_same p place is in
        subst (λ (n : ℕ). slice_index (slice_set buckets place (bucket_of e.mac)) n ≡ bucket_of (slice_index_or (put_at place e entries) n d).mac) (sym same) (set_here buckets place (bucket_of e.mac) (rw filed.buckets_sized room) ∙ ap (λ (x : Entry). bucket_of x.mac) (sym (got_put place e entries d le)))
    of_bucket p d lt false is =
        let apart : p ≢ place = is_apart p place is in
        let other : (p < length entries) × (slice_index_or (put_at place e entries) p d ≡ slice_index_or entries p d) = got_other place e entries p d le apart lt in
        kept buckets place (bucket_of e.mac) p apart ∙ filed.filed p d other.0 ∙ ap (λ (x : Entry). bucket_of x.mac) (sym other.1)

    at_time : (p : ℕ) (d : Entry) → p < length (put_at place e entries) → (v : Bool) → eqb p place ≡ v → slice_index (slice_set seen place e.seen) p ≡ (slice_index_or (put_at place e entries) p d).seen
    at_time p d lt true is =
        let same : p ≡ place = is_same p place is in
        subst (λ (n : ℕ). slice_index (slice_set seen place e.seen) n ≡ (slice_index_or (put_at place e entries) n d).seen) (sym same) (set_here seen place e.seen (rw filed.seen_sized room) ∙ ap (λ (x : Entry). x.seen) (sym (got_put place e entries d le)))
    at_time p d lt false is =
        let apart : p ≢ place = is_apart p place is in
        let other : (p < length entries) × (slice_index_or (put_at place e entries) p d ≡ slice_index_or entries p d) = got_other place e entries p d le apart lt in
        kept seen place e.seen p apart ∙ filed.timed p d other.0 ∙ ap (λ (x : Entry). x.seen) (sym other.1)
