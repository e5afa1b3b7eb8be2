-- A stable sort of the entries by time gives the joined log.
use Rattle.std.proofs.Common.{◌≡◌, ℕ, zero, suc, ◌<◌, List, ◌++◌, eqb, get_or, map, ap, sym, subst, ◌∙◌, refl, [], ◌∷◌, Bool, inl, inr}
use Rattle.std.specs.List.{All, filter, flat_map}
use Rattle.std.specs.List.Sorted.{IsNonDecreasingBy, IsPermutation, IsStableByKey}
use Rattle.std.specs.Ordering.{nat_cmp}
use Rattle.std.proofs.Math.ListN.{get_or-map, length-map}
use Rattle.std.proofs.lemmas.Bool.{cases_Bool}
use Rattle.std.proofs.lemmas.List.Sorted.{All-permutation}
use Rattle.device_api.specs.declared.logs.Line.{Line}
use Rattle.device_api.specs.Joined.{joined_at, joined_until}
use Rattle.log_join.specs.declared.entry.Entry.{Entry}
use Rattle.log_join.specs.Before.{AreBefore}
use Rattle.log_join.specs.Entries.{named_line, all_named_lines, entry_text}
use Rattle.log_join.proofs.Moments.{moment, until, moment-stable, flat_map-moments}
use Rattle.log_join.proofs.NamedLines.{time_of, text, joined_at_is, all_before}

abbrev pub entry_time : Entry → ℕ
entry_time entry = entry.line.now.at

flat_map-filter : {X Y Z : Type 0} (f : X → Y) (p : Y → Bool) (g : Y → List Z) (xs : List X) → flat_map (λ x. g (f x)) (filter (λ x. p (f x)) xs) ≡ flat_map g (filter p (map f xs))
flat_map-filter f p g [] = refl
flat_map-filter f p g (x ∷ xs) =
    elim (cases_Bool (p (f x))) [
      | inl here ↦ rw here (ap (λ more. g (f x) ++ more) (flat_map-filter f p g xs))
      | inr not_here ↦ rw not_here (flat_map-filter f p g xs)
    ]

module _ (names : List (List ℕ)) (logs : List (List Line)) (xs ys : List Entry) (whole : map named_line xs ≡ all_named_lines names logs) (stable : IsStableByKey entry_time nat_cmp xs ys) where
  moment_is : (t : ℕ) → flat_map entry_text (moment entry_time t ys) ≡ joined_at t names logs
  moment_is t =
      ap (flat_map entry_text) (moment-stable entry_time xs ys stable t)
      ∙ flat_map-filter named_line (λ x. eqb (time_of x) t) text xs
      ∙ ap (λ all. flat_map text (filter (λ x. eqb (time_of x) t) all)) whole
      ∙ joined_at_is t names logs

  moments_are : (end : ℕ) → until (λ t. flat_map entry_text (moment entry_time t ys)) end ≡ joined_until end names logs
  unfolding joined_until
  moments_are zero = refl
  moments_are (suc t) =
      ap (λ texts. texts ++ flat_map entry_text (moment entry_time t ys)) (moments_are t)
      ∙ ap (λ more. joined_until t names logs ++ more) (moment_is t)

  before_end : (end : ℕ) → AreBefore end logs → All (λ entry. entry_time entry < end) xs
  before_end end before = λ k d lt.
      let all : All (λ x. time_of x < end) (map named_line xs) = subst (λ xs. All (λ x. time_of x < end) xs) (sym whole) (all_before end names logs before) in
      let here : time_of (get_or (map named_line xs) k (named_line d)) < end = all k (named_line d) (rw length-map lt) in
      rw (get_or-map named_line xs k d) at here

  pub sorted_is_joined : IsNonDecreasingBy entry_time ys → IsPermutation xs ys → (end : ℕ) → AreBefore end logs → flat_map entry_text ys ≡ joined_until end names logs
  sorted_is_joined rises moved end before =
      flat_map-moments entry_time entry_text end ys rises (All-permutation (λ entry. entry_time entry < end) xs ys moved (before_end end before))
      ∙ moments_are end
