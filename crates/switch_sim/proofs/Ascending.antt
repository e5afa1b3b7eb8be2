-- Entries in the order of their addresses.
use Rattle.std.specs.Prelude.{ℕ, ◌≡◌, ◌≤◌, ◌<◌, ◌+◌, zero, suc, Bool, true, false, IsTrue, ◌↔◌, List, [], length, slice_index_or, Some, refl}
use Rattle.std.specs.declared.cmp.Ordering.{Ordering}
use Rattle.std.specs.declared.cmp.Ordering.TheVariants.{Less, Equal, Greater}
use Rattle.std.specs.Ordering.{nat_cmp, is_lt, is_some_and}
use Rattle.std.specs.List.{IsAllAdjacentAnswer}
use Rattle.std.specs.Cmp.Lexicographic.{slice_cmp, slice_partial_cmp, lists_agrees}
use Rattle.std.proofs.Common.{arith, ap, sym, ◌∙◌, eq-or-lt_of_le, ◌⊎◌, inl, inr}
use Rattle.std.proofs.lemmas.Bool.{false≢true}
use Rattle.std.proofs.lemmas.Cmp.{nat_list_cmp_total}
use native.Mathlib.Numerals.{unary_clauses}
use Rattle.switch_sim.specs.declared.entry.Entry.{Entry}
use Rattle.switch_sim.specs.Parts.{Ascend}

-- whether an entry's address comes before that of another
abbrev pub before : Entry → Entry → Bool
before e other = is_lt (slice_cmp nat_cmp e.mac other.mac)

any_entry : Entry
any_entry = record { mac = []; port = 0; seen = 0 }

less : (o : Ordering) → true ≡ is_lt o → o ≡ Less
less Less is = refl
less Equal is = absurd (false≢true (sym is))
less Greater is = absurd (false≢true (sym is))

-- what `<` tells of two addresses
pub told : (e other : Entry) → is_some_and is_lt (slice_partial_cmp (λ x y. Some (nat_cmp x y)) e.mac other.mac) ≡ before e other
told e other = ap (λ o. is_some_and is_lt o) (lists_agrees {R = nat_cmp} {C = λ x y. Some (nat_cmp x y)} (λ x y. refl) e.mac other.mac)

-- neighbours in order put all in order
pub ascend_from_neighbours : (xs : List Entry) → ((k : ℕ) (d : Entry) → suc k < length xs → true ≡ before (slice_index_or xs k d) (slice_index_or xs (suc k) d)) → Ascend xs
ascend_from_neighbours xs neighbours i zero d lt within = absurd (omega (arith, lt))
ascend_from_neighbours xs neighbours i (suc j) d lt within = let upto : i ≤ j = omega (arith, lt) in at (eq-or-lt_of_le upto) (λ earlier. ascend_from_neighbours xs neighbours i j d earlier (omega (arith, within)))
  where
    next : slice_cmp nat_cmp (slice_index_or xs j d).mac (slice_index_or xs (suc j) d).mac ≡ Less
    next = less (slice_cmp nat_cmp (slice_index_or xs j d).mac (slice_index_or xs (suc j) d).mac) (neighbours j d (omega (arith, within)))

    at : (i ≡ j) ⊎ (i < j) → (i < j → slice_cmp nat_cmp (slice_index_or xs i d).mac (slice_index_or xs j d).mac ≡ Less) → slice_cmp nat_cmp (slice_index_or xs i d).mac (slice_index_or xs (suc j) d).mac ≡ Less
    at (inl is) so_far = rw is next
    at (inr earlier) so_far = nat_list_cmp_total.trans (slice_index_or xs i d).mac (slice_index_or xs j d).mac (slice_index_or xs (suc j) d).mac (so_far earlier) next

pub ascend_is : (xs : List Entry) (r : Bool) → IsAllAdjacentAnswer (λ (e other : Entry) (b : Bool). b ≡ before e other) xs r → IsTrue r ↔ Ascend xs
ascend_is xs true all = (λ _. ascend_from_neighbours xs (λ k d lt. simp unary_clauses at (all k d (omega (arith, lt)))), λ _. refl)
ascend_is xs false (k, within, fails) = (λ no. absurd (false≢true no), λ ascend. absurd (false≢true (fails any_entry ∙ ap is_lt (ascend k (k + 1) any_entry (omega arith) within))))
