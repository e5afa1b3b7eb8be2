-- Components that are taken back from workers whose members are of three sorts.
use Rattle.std.proofs.Common.{◌≡◌, ℕ, zero, suc, ◌+◌, ◌*◌, ◌%◌, ◌<◌, List, [], ◌∷◌, ◌++◌, length, get_or, map, reverse, Some, option_map, refl, sym, ap, ◌∙◌, subst}
use Rattle.std.specs.Prelude.{slice_get, slice_set}
use Rattle.std.specs.List.{filter_map}
use Rattle.std.proofs.lemmas.List.{length-map, reverse-append}
use Rattle.std.proofs.lemmas.Nat.{mod_below}
use Rattle.std.proofs.lemmas.Option.{none-some, slice_get-get_or, slice_get-map}
use Rattle.crew_members.specs.declared.hand.Hand.{Hand}
use Rattle.crew_members.specs.declared.hand.Hand.TheVariants.{Component}
use Rattle.crew_members.specs.Hands.{component_of}
use Rattle.crew_members.specs.Staffing.{as_hands}
use Rattle.sync_laws.proofs.Changed.{mapped_at}
use Rattle.worker_rounds.specs.Rounds.{Work}
use Rattle.run_threads.specs.Dealing.{AreSpread, LastPartMoved, PartsCollected}
use Rattle.run_threads.proofs.Collected.{LastMoved, Collected, IsCollecting, collecting_starts, one_taken, all_collected}
use Rattle.run_threads.proofs.Dealt.{get_last}

get_front : {X : Type 0} (xs ys : List X) (i : ℕ) (x : X) → slice_get xs i ≡ Some x → slice_get (xs ++ ys) i ≡ Some x
get_front [] ys i x is = absurd (none-some x is)
get_front (y ∷ xs) ys zero x is = is
get_front (y ∷ xs) ys (suc i) x is = get_front xs ys i x is

map_behind : {X Y : Type 0} (f : X → Y) (xs : List X) (x : X) → map f (xs ++ x ∷ []) ≡ map f xs ++ f x ∷ []
map_behind f [] x = refl
map_behind f (y ∷ xs) x = ap (λ l. f y ∷ l) (map_behind f xs x)

map_turned : {X Y : Type 0} (f : X → Y) (xs : List X) → map f (reverse xs) ≡ reverse (map f xs)
map_turned f [] = refl
map_turned f (x ∷ xs) = ap (map f) (reverse-append (x ∷ []) xs) ∙ map_behind f (reverse xs) x ∙ ap (λ l. l ++ f x ∷ []) (map_turned f xs) ∙ sym (reverse-append (f x ∷ []) (map f xs))

parts_of_hands : {C : Type 0} (O I : Type 0) (parts : List C) → filter_map (component_of {C = C} {O = O} {I = I}) (map Component parts) ≡ parts
parts_of_hands O I [] = refl
parts_of_hands O I (part ∷ parts) = ap (λ l. part ∷ l) (parts_of_hands O I parts)

-- so many are still with the workers, and the others were taken, whichever were dealt before
abbrev pub AreRegaining : {C O I : Type 0} → ℕ → List (Work (Hand C O I)) → ℕ → List (Work (Hand C O I)) → List C → Type 0
AreRegaining {C} count first number workers parts = (all : List C) → length all ≡ count → AreSpread first (map Component all) → IsCollecting (map Component all) number workers (map Component parts)

pub regaining_starts : {C O I : Type 0} (count : ℕ) (workers : List (Work (Hand C O I))) (parts : List C) → parts ≡ [] → AreRegaining count workers count workers parts
regaining_starts count workers parts none = λ all many spread. collecting_starts (map Component all) count workers (map Component parts) (ap (map Component) none) (length-map all Component ∙ many) spread

module _ {C O I : Type 0} (all : List C) (number : ℕ) (workers : List (Work (Hand C O I))) (parts : List C) (so_far : IsCollecting (map Component all) number workers (map Component parts)) where
  is_part : (w k : ℕ) (worker : Work (Hand C O I)) (hand : Hand C O I) → slice_get workers w ≡ Some worker → slice_get worker.members k ≡ Some hand → (part : C) × (Component part ≡ hand)
  is_part w k worker hand there at =
      let place : ℕ = w + k * length workers in
      let found = mapped_at Component all (map Component all) place hand refl (ap (λ l. slice_get l place) (sym so_far.whole) ∙ get_front so_far.front so_far.rest place hand (sym (so_far.spread.dealt w k worker there) ∙ at)) in
      (found.0, found.2)

  part_moved : (w : ℕ) (worker : Work (Hand C O I)) → slice_get workers w ≡ Some worker → (from : List (Hand C O I)) (parts' : List C) → LastPartMoved worker.members parts from parts' → LastMoved worker.members (map Component parts) from (map Component parts')
  part_moved w worker there from parts' moved = λ front last is. (
      let part = is_part w (length front) worker last there (ap (λ l. slice_get l (length front)) is ∙ get_last front last) in
      let both = moved front part.0 (is ∙ ap (λ h. front ++ h ∷ []) (sym part.1)) in
      (both.0, ap (map Component) both.1 ∙ map_behind Component parts part.0 ∙ ap (λ h. map Component parts ++ h ∷ []) part.1))

  part_taken : (number' : ℕ) → number ≡ number' + 1 → (d worker' : Work (Hand C O I)) (parts' : List C) → LastPartMoved (get_or workers (number' % length workers) d).members parts worker'.members parts' → IsCollecting (map Component all) number' (slice_set workers (number' % length workers) worker') (map Component parts')
  part_taken number' is d worker' parts' moved = one_taken (map Component all) number number' workers (map Component parts) so_far is d worker' (map Component parts') (part_moved (number' % length workers) (get_or workers (number' % length workers) d) (slice_get-get_or workers (number' % length workers) d (mod_below number' (length workers) so_far.spread.some_worker)) worker'.members parts' moved)

  all_taken : number ≡ 0 → parts ≡ reverse all
  all_taken none = sym (parts_of_hands O I parts) ∙ ap (filter_map component_of) (all_collected (map Component all) number workers (map Component parts) so_far none ∙ sym (map_turned Component all)) ∙ parts_of_hands O I (reverse all)

pub regaining_more : {C O I : Type 0} (count : ℕ) (first : List (Work (Hand C O I))) (number number' : ℕ) (workers : List (Work (Hand C O I))) (parts : List C) → AreRegaining count first number workers parts → number ≡ number' + 1 → (d worker' : Work (Hand C O I)) (parts' : List C) → LastPartMoved (get_or workers (number' % length workers) d).members parts worker'.members parts' → AreRegaining count first number' (slice_set workers (number' % length workers) worker') parts'
regaining_more count first number number' workers parts so_far is d worker' parts' moved = λ all many spread. part_taken all number workers parts (so_far all many spread) number' is d worker' parts' moved

pub all_regained : {C O I : Type 0} (count : ℕ) (first : List (Work (Hand C O I))) (number : ℕ) (workers : List (Work (Hand C O I))) (parts : List C) → AreRegaining count first number workers parts → number ≡ 0 → PartsCollected count first parts
all_regained count first number workers parts so_far none = λ all many spread. all_taken all number workers parts (so_far all many spread) none

-- workers that have components alone
spread_hands : {C O I : Type 0} (workers : List (Work C)) (all : List C) → AreSpread workers all → AreSpread {M = Hand C O I} (map as_hands workers) (map Component all)
spread_hands {C} {O} {I} workers all spread = record {
  some_worker = subst (λ n. 0 < n) (sym (length-map workers as_hands)) spread.some_worker;
  dealt = λ w k worker there. (
      let found = mapped_at as_hands workers (map as_hands workers) w worker refl there in
      ap (λ (x : Work (Hand C O I)). slice_get x.members k) (sym found.2) ∙ slice_get-map Component found.0.members k ∙ ap (option_map Component) (spread.dealt w k found.0 found.1) ∙ sym (slice_get-map Component all (w + k * length workers)) ∙ ap (λ n. slice_get (map Component all) (w + k * n)) (sym (length-map workers as_hands)));
}

pub parts_collected : {C O I : Type 0} (count : ℕ) (parts : List (Work C)) (workers : List (Work (Hand C O I))) (members : List C) → workers ≡ map as_hands parts → PartsCollected count workers members → Collected count parts members
parts_collected count parts workers members are collected = λ all many spread. collected all many (subst (λ ws. AreSpread ws (map Component all)) (sym are) (spread_hands parts all spread))
