-- Elements in places of their own, from which they are taken.
use Rattle.std.specs.Prelude.{ℕ, ◌≡◌, ◌<◌, List, length, slice_get, Option, Some}

-- each of these places has an element, and none is named twice
pub record AreThere {X : Type 0} (slots : List (Option X)) (places : List ℕ) : Type 0 where
  pub each : (i place : ℕ) → slice_get places i ≡ Some place → (x : X)
      × (slice_get slots place ≡ Some (Some x))
  pub apart : (i j place : ℕ) → slice_get places i ≡ Some place → slice_get places j ≡ Some place
      → i ≡ j

-- the elements at the first so many of these places were taken, in order; the other places are as
-- they were
pub record TakenSoFar {X : Type 0} (count : ℕ) (slots : List (Option X)) (places : List ℕ)
    (slots' : List (Option X)) (items : List X) : Type 0 where
  pub as_many : length items ≡ count
  pub each : (i place : ℕ) (x : X) → slice_get places i ≡ Some place → slice_get items i ≡ Some x
      → slice_get slots place ≡ Some (Some x)
  pub others : (k : ℕ) → ((i : ℕ) → i < count → slice_get places i ≡ Some k → ⊥)
      → slice_get slots' k ≡ slice_get slots k

abbrev pub Taken : {X : Type 0} → List (Option X) → List ℕ → List (Option X) → List X → Type 0
Taken slots places slots' items = TakenSoFar (length places) slots places slots' items
