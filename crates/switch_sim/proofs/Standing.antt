-- The live entries in order: they may stand as parts, and make a switch that is alike.
use Rattle.std.specs.Prelude.{ℕ, ◌≡◌, ◌≤◌, ◌<◌, Bool, true, false, ◌&&◌, nat_lt, List, [], ◌∷◌, length, find, slice_index_or, bytes_eq, Option, Some, None, All, refl}
use Rattle.std.specs.declared.cmp.Ordering.{Ordering}
use Rattle.std.specs.declared.cmp.Ordering.TheVariants.{Less, Equal, Greater}
use Rattle.std.specs.Ordering.{nat_cmp, is_lt, is_eq, ordering_reverse}
use Rattle.std.specs.Cmp.Lexicographic.{slice_cmp, same_text, texts_ties}
use Rattle.std.specs.List.{sum_by}
use Rattle.std.specs.List.Sorted.{IsPermutation, IsSortedByKey}
use Rattle.std.proofs.Common.{arith, ap, sym, ◌∙◌}
use Rattle.std.proofs.lemmas.Bool.{false≢true, and_parts}
use Rattle.std.proofs.lemmas.Bool.Decides.{nat_tests}
use Rattle.std.proofs.lemmas.Cmp.{nat_list_cmp_total}
use Rattle.std.proofs.lemmas.List.Elements.{All-filter, filter_passes}
use Rattle.std.proofs.lemmas.List.Kept.{AllPairs-cons, AllPairs-filter}
use Rattle.std.proofs.lemmas.List.Sorted.{ranks_by, sorted_far, length_permutation, All-permutation, sum_by-IsPermutation}
use Rattle.std.proofs.lemmas.List.Sums.{sum_by-cons, get_or-le-sum_by, length-filter, count_by-le-length}
use Rattle.std.proofs.lemmas.Slice.Eq.{bytes_eq-Decides}
use Rattle.cs_base.specs.Names.{is_individual}
use Rattle.cs_base.specs.declared.configs.SwitchConfig.{SwitchConfig}
use Rattle.switch_sim.specs.declared.entry.Entry.{Entry}
use Rattle.switch_sim.specs.declared.parts.SwitchParts.{SwitchParts}
use Rattle.switch_sim.specs.Table.{SwitchState, is_live, is_of, lookup}
use Rattle.switch_sim.specs.Switch.{IsSettledSwitch}
use Rattle.switch_sim.specs.Parts.{live_entries, Ascend, resumed, IsOf, may_have, StandsAt}
use Rattle.switch_sim.specs.Alike.{IsAlike}
use Rattle.switch_sim.proofs.Counted.{OneEach, only, own, of_found, own_sum, sum_kept, decoded, port_at, other_at, lookup_sum, dead_later, no_port, no_other}

-- EACH ADDRESS ONCE

abbrev pub one : Entry → ℕ
one e = 1

pub at_most_one : (mac : List ℕ) (xs : List Entry) → OneEach xs → sum_by (own one mac) xs ≤ 1
at_most_one mac xs one_each = rw (own_sum one mac xs one_each) (at (find (is_of mac) xs))
  where
    at : (o : Option Entry) → of_found one o ≤ 1
    at None = omega arith
    at (Some e) = omega arith

pub one_each_counted : (xs : List Entry) → ((mac : List ℕ) → sum_by (own one mac) xs ≤ 1) → OneEach xs
one_each_counted [] most = λ i j d lt within. absurd (omega (arith, within))
one_each_counted (x ∷ xs) most = AllPairs-cons (λ (e other : Entry). bytes_eq e.mac other.mac ≡ false) x xs others (one_each_counted xs (λ mac. (let more = most mac in omega (arith, more, sum_by-cons (own one mac) x xs))))
  where
    none : (b : Bool) → only b 1 ≤ 0 → b ≡ false
    none true le = absurd (omega (arith, le))
    none false le = refl

    rest : sum_by (own one x.mac) xs ≤ 0
    rest =
        let all = most x.mac in
        let this : own one x.mac x ≡ 1 = ap (λ b. only b 1) ((bytes_eq-Decides x.mac x.mac).1 refl) in
        omega (arith, all, sum_by-cons (own one x.mac) x xs, this)

    others : All (λ (other : Entry). bytes_eq x.mac other.mac ≡ false) xs
    others k d within = none (is_of x.mac (slice_index_or xs k d)) (let some = get_or-le-sum_by (own one x.mac) xs k d within in omega (arith, some, rest))

pub one_each_permuted : (xs ys : List Entry) → IsPermutation xs ys → OneEach xs → OneEach ys
one_each_permuted xs ys permutation one_each = one_each_counted ys (λ mac. rw (sum_by-IsPermutation (own one mac) xs ys permutation) (at_most_one mac xs one_each))

-- IN ORDER

-- what isn't after another address and isn't the same comes before it
pub comes_before : (a b : List ℕ) → is_lt (slice_cmp nat_cmp b a) ≡ false → bytes_eq a b ≡ false → slice_cmp nat_cmp a b ≡ Less
comes_before a b not_after other = at (slice_cmp nat_cmp a b) refl
  where
    at : (o : Ordering) → slice_cmp nat_cmp a b ≡ o → slice_cmp nat_cmp a b ≡ Less
    at Less is = is
    at Equal is = absurd (false≢true (sym other ∙ (bytes_eq-Decides a b).1 (same_text a b (sym (texts_ties a b ∙ ap is_eq is)))))
    at Greater is = absurd (false≢true (sym not_after ∙ ap is_lt (nat_list_cmp_total.antisymm b a ∙ ap ordering_reverse is)))

pub ascend_sorted : (xs : List Entry) → OneEach xs → IsSortedByKey (λ (e : Entry). e.mac) (slice_cmp nat_cmp) xs → Ascend xs
ascend_sorted xs one_each sorted i j d lt within =
    comes_before (slice_index_or xs i d).mac (slice_index_or xs j d).mac
    (sorted_far (λ (e other : Entry). is_lt (slice_cmp nat_cmp e.mac other.mac)) (ranks_by nat_list_cmp_total (λ (e : Entry). e.mac)) xs sorted i j d (omega (arith, lt)) within)
    (one_each i j d lt within)

pub one_each_ascending : (xs : List Entry) → Ascend xs → OneEach xs
one_each_ascending xs ascend i j d lt within = apart (slice_index_or xs i d).mac (slice_index_or xs j d).mac (ascend i j d lt within)
  where
    apart : (a b : List ℕ) → slice_cmp nat_cmp a b ≡ Less → bytes_eq a b ≡ false
    apart a b less = texts_ties a b ∙ ap is_eq less

-- PARTS

pub resumed_is : (config : SwitchConfig) (s : SwitchState) (parts : SwitchParts) → IsOf config s → record s { entries = parts.entries } ≡ resumed config parts
resumed_is config s parts is = ap (λ (x : SwitchState). record x { entries = parts.entries }) is

pub stands_settled : (at : ℕ) (s : SwitchState) → s.ports ≤ 32 → StandsAt at s → (x : ℕ) → at ≤ x → IsSettledSwitch s x
stands_settled at s few_ports stands x le = record {
  seen_before = λ k d within. (let before = (told (slice_index_or s.entries k d) (stands.live k d within)).2 in omega (arith, before, le));
  ports_exist = λ k d within. (told (slice_index_or s.entries k d) (stands.live k d within)).1;
  individual = λ k d within. (told (slice_index_or s.entries k d) (stands.live k d within)).0;
  one_each = one_each_ascending s.entries stands.ascend;
  few = stands.few;
  few_ports = few_ports;
}
  where
    below : (m n : ℕ) → nat_lt m n ≡ true → m < n
    below m n is = grind (arith, nat_tests)

    told : (e : Entry) → may_have s at e ≡ true → (is_individual e.mac ≡ true) × (e.port < s.ports) × (e.seen < at)
    told e may =
        let first = and_parts (is_individual e.mac && nat_lt e.port s.ports && nat_lt e.seen at) (is_live s at e) may in
        let second = and_parts (is_individual e.mac && nat_lt e.port s.ports) (nat_lt e.seen at) first.0 in
        let third = and_parts (is_individual e.mac) (nat_lt e.port s.ports) second.0 in
        (third.0, below e.port s.ports third.1, below e.seen at second.1)

module _ (s : SwitchState) (at : ℕ) (entries : List Entry) (settled : IsSettledSwitch s at) (permutation : IsPermutation (live_entries s at) entries) where
  pub live_one_each : OneEach (live_entries s at)
  live_one_each = AllPairs-filter (λ (e other : Entry). bytes_eq e.mac other.mac ≡ false) (is_live s at) s.entries settled.one_each

  pub parts_one_each : OneEach entries
  parts_one_each = one_each_permuted (live_entries s at) entries permutation live_one_each

  pub parts_stand : Ascend entries → StandsAt at (record s { entries = entries })
  parts_stand ascend = record {
    few = rw (length_permutation (live_entries s at) entries permutation) few_live;
    ascend = ascend;
    live = All-permutation (λ (e : Entry). may_have s at e ≡ true) (live_entries s at) entries permutation kept;
  }
    where
      few_live : length (live_entries s at) ≤ 4096
      few_live = let fewer = count_by-le-length (is_live s at) s.entries in omega (arith, length-filter (is_live s at) s.entries, fewer, settled.few)

      all : (individual live : Bool) (port seen : ℕ) → individual ≡ true → port < s.ports → seen < at → live ≡ true → (individual && nat_lt port s.ports && nat_lt seen at && live) ≡ true
      all individual live port seen is exists before alive = rw is (rw alive (grind (arith, nat_tests)))

      kept : All (λ (e : Entry). may_have s at e ≡ true) (live_entries s at)
      kept k d within =
          let e : Entry = slice_index_or (live_entries s at) k d in
          all (is_individual e.mac) (is_live s at e) e.port e.seen
          (All-filter (is_live s at) (λ (e : Entry). is_individual e.mac ≡ true) s.entries settled.individual k d within)
          (All-filter (is_live s at) (λ (e : Entry). e.port < s.ports) s.entries settled.ports_exist k d within)
          (All-filter (is_live s at) (λ (e : Entry). e.seen < at) s.entries settled.seen_before k d within)
          (filter_passes (is_live s at) s.entries k d within)

  -- what counts nothing of a dead entry sums to the same over the parts
  same_sum : (f : Entry → ℕ) → ((e : Entry) → is_live s at e ≡ false → f e ≡ 0) → sum_by f s.entries ≡ sum_by f entries
  same_sum f none = sym (sum_kept f (is_live s at) none s.entries) ∙ sym (sum_by-IsPermutation f (live_entries s at) entries permutation)

  pub parts_alike : IsAlike at s (record s { entries = entries })
  parts_alike = record {
    same_ports = refl;
    same_age = refl;
    same_lookups = λ t mac le. decoded (lookup s t mac) (lookup (record s { entries = entries }) t mac)
        (sym (lookup_sum s t mac settled.one_each)
        ∙ same_sum (own (port_at s t) mac) (λ e dead. no_port s t mac e (dead_later s at t e le dead))
        ∙ lookup_sum (record s { entries = entries }) t mac parts_one_each);
    same_room = λ t mac le. same_sum (other_at s t mac) (λ e dead. no_other s t mac e (dead_later s at t e le dead));
  }
