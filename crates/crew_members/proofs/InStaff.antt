-- Workers with components become workers with members of three sorts, to which others come.
use Rattle.std.proofs.Common.{◌≡◌, ℕ, ◌+◌, ◌<◌, List, [], ◌∷◌, ◌++◌, length, get_or, map, reverse, Option, Some, None, option_map, refl, sym, ap, ap₂, ◌∙◌, subst, append_assoc, append-nil, length-append}
use Rattle.std.specs.Prelude.{slice_get, slice_set}
use Rattle.std.specs.List.{filter_map, cons_option}
use Rattle.std.proofs.lemmas.List.{map-append, map-set, set-get_or, reverse-append, reverse-reverse}
use Rattle.std.proofs.lemmas.List.Elements.{filter_map-append}
use Rattle.std.proofs.lemmas.Option.{same_Some, slice_get-get_or, slice_get_within, slice_get-map}
use Rattle.worker_rounds.specs.declared.mesh_bad.MeshBad.{MeshBad}
use Rattle.worker_rounds.specs.Rounds.{Work}
use Rattle.crew_members.specs.declared.hand.Hand.{Hand}
use Rattle.crew_members.specs.declared.hand.Hand.TheVariants.{Component}
use Rattle.crew_members.specs.Sorts.{of_sort, among}
use Rattle.crew_members.specs.Staffing.{AreUnused, as_hands, OneMore, Joined}

-- ONE AFTER ANOTHER

get_middle : {X : Type 0} (front : List X) (x : X) (rest : List X) → slice_get (front ++ x ∷ rest) (length front) ≡ Some x
get_middle [] x rest = refl
get_middle (y ∷ front) x rest = get_middle front x rest

-- of the elements of a list so many were turned into others, and the rest stand in turned order
pub record AreTurned {X Y : Type 0} (f : X → Y) (all : List X) (count : ℕ) (left : List X) (made : List Y) : Type 0 where
  pub front : List X
  pub whole : front ++ reverse left ≡ all
  pub as_many : length front ≡ count
  pub made_are : made ≡ map f front

module _ {X Y : Type 0} (f : X → Y) (all : List X) where
  pub none_turned : (left : List X) (made : List Y) → left ≡ reverse all → made ≡ [] → AreTurned f all 0 left made
  none_turned left made is none = record { front = []; whole = ap reverse is ∙ reverse-reverse all; as_many = refl; made_are = none }

  module _ (count : ℕ) (left left' : List X) (made : List Y) (x : X) (so_far : AreTurned f all count left made) (first : left ≡ left' ++ x ∷ []) where
    turned_left : reverse left ≡ x ∷ reverse left'
    turned_left = ap reverse first ∙ reverse-append left' (x ∷ [])

    pub next_there : slice_get all count ≡ Some x
    next_there = ap₂ slice_get (sym so_far.whole ∙ ap (λ l. so_far.front ++ l) turned_left) (sym so_far.as_many) ∙ get_middle so_far.front x (reverse left')

    pub next_below : count < length all
    next_below = slice_get_within all count x next_there

    pub one_turned : (made' : List Y) (y : Y) → y ≡ f x → made' ≡ made ++ y ∷ [] → AreTurned f all (count + 1) left' made'
    one_turned made' y is pushed = record {
      front = so_far.front ++ x ∷ [];
      whole = append_assoc so_far.front (x ∷ []) (reverse left') ∙ ap (λ l. so_far.front ++ l) (sym turned_left) ∙ so_far.whole;
      as_many = length-append so_far.front (x ∷ []) ∙ ap (λ n. n + 1) so_far.as_many;
      made_are = pushed ∙ ap₂ (λ l z. l ++ z ∷ []) so_far.made_are is ∙ sym (map-append f so_far.front (x ∷ []));
    }

  pub all_turned : (count : ℕ) (left : List X) (made : List Y) → AreTurned f all count left made → left ≡ [] → made ≡ map f all
  all_turned count left made so_far none = so_far.made_are ∙ ap (map f) (sym (append-nil so_far.front) ∙ ap (λ l. so_far.front ++ reverse l) (sym none) ∙ so_far.whole)

  -- where as many were turned as there are
  pub hands_start : (left : List X) (made : List Y) → left ≡ reverse all → made ≡ [] → AreTurned f all (length made) left made
  hands_start left made is none = subst (λ n. AreTurned f all n left made) (sym (ap length none)) (none_turned left made is none)

  pub hands_more : (left left' : List X) (made : List Y) (x : X) → AreTurned f all (length made) left made → left ≡ left' ++ x ∷ [] → (made' : List Y) → made' ≡ made ++ f x ∷ [] → AreTurned f all (length made') left' made'
  hands_more left left' made x so_far first made' pushed = subst (λ n. AreTurned f all n left' made') (sym (ap length pushed ∙ length-append made (f x ∷ []))) (one_turned (length made) left left' made x so_far first made' (f x) refl pushed)

-- A WORKER

-- a worker by its parts
abbrev worker_of : {M : Type 0} → ℕ → List M → Option MeshBad → Work M
worker_of number members fault = record { number = number; members = members; fault = fault }

pub staffed_one : {C O I : Type 0} (all : List (Work C)) → AreUnused all → (w : ℕ) (worker : Work C) → slice_get all w ≡ Some worker → (members : List C) → members ≡ worker.members → (hands : List (Hand C O I)) → hands ≡ map Component members → (made : Work (Hand C O I)) → made ≡ record { number = w; members = hands; fault = None } → made ≡ as_hands worker
staffed_one all unused w worker there members are hands hands_are made is = is ∙ ap (λ n. worker_of n hands None) (sym (unused.number w worker there)) ∙ ap (λ ms. worker_of worker.number ms None) (hands_are ∙ ap (map Component) are) ∙ ap (worker_of worker.number (map Component worker.members)) (sym (unused.no_fault w worker there))

-- ONE MORE

module _ {H M : Type 0} (sort : H → Option M) (place : ℕ) (hand : H) (old new : List (Work H)) (more : OneMore place hand old new) where
  abbrev before : Work H
  before = more.before

  there_too : slice_get (among sort old) place ≡ Some (of_sort sort before)
  there_too = slice_get-map (of_sort sort) old place ∙ ap (λ o. option_map (of_sort sort) o) more.there

  members_too : filter_map sort (before.members ++ hand ∷ []) ≡ filter_map sort before.members ++ cons_option (sort hand) []
  members_too = filter_map-append sort before.members (hand ∷ [])

  among_too : among sort new ≡ slice_set (among sort old) place (worker_of before.number (filter_map sort before.members ++ cons_option (sort hand) []) before.fault)
  among_too = ap (among sort) more.is ∙ map-set (of_sort sort) old place (worker_of before.number (before.members ++ hand ∷ []) before.fault) ∙ ap (λ ms. slice_set (among sort old) place (worker_of before.number ms before.fault)) members_too

  same_set : slice_set (among sort old) place (of_sort sort before) ≡ among sort old
  same_set = (let at : get_or (among sort old) place (of_sort sort before) ≡ of_sort sort before = same_Some (get_or (among sort old) place (of_sort sort before)) (of_sort sort before) (sym (slice_get-get_or (among sort old) place (of_sort sort before) (slice_get_within (among sort old) place (of_sort sort before) there_too)) ∙ there_too) in ap (slice_set (among sort old) place) (sym at) ∙ set-get_or (among sort old) place (of_sort sort before))

  joined_as : (o : Option M) → sort hand ≡ o → Joined place o (among sort old) (among sort new)
  joined_as None is = among_too ∙ ap (λ q. slice_set (among sort old) place (worker_of before.number (filter_map sort before.members ++ cons_option q []) before.fault)) is ∙ ap (λ ms. slice_set (among sort old) place (worker_of before.number ms before.fault)) (append-nil (filter_map sort before.members)) ∙ same_set
  joined_as (Some m) is = record {
    before = of_sort sort before;
    there = there_too;
    is = among_too ∙ ap (λ q. slice_set (among sort old) place (worker_of before.number (filter_map sort before.members ++ cons_option q []) before.fault)) is;
  }

  pub joined : Joined place (sort hand) (among sort old) (among sort new)
  joined = joined_as (sort hand) refl

-- by the worker at its place before and after
pub one_more : {M : Type 0} (old : List (Work M)) (place : ℕ) → place < length old → (member : M) (d before after : Work M) → before ≡ get_or old place d → after.number ≡ before.number → after.members ≡ before.members ++ member ∷ [] → after.fault ≡ before.fault → OneMore place member old (slice_set old place after)
one_more old place within member d before after is number members fault = record {
  before = before;
  there = slice_get-get_or old place d within ∙ ap Some (sym is);
  is = ap (slice_set old place) (ap (λ n. worker_of n after.members after.fault) number ∙ ap (λ ms. worker_of before.number ms after.fault) members ∙ ap (worker_of before.number (before.members ++ member ∷ [])) fault);
}
