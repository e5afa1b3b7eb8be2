-- What a crew is taken apart into: ends of channels that go back to places of their own, and then
-- the sides of their queues in the order of the places.
use Rattle.std.specs.Prelude.{ℕ, ◌≡◌, ◌<◌, ◌≤◌, List, length, map, slice_get, Option, Some}
use Rattle.slot_queue.specs.declared.ends.TxEnd.{TxEnd}
use Rattle.slot_queue.specs.declared.ends.RxEnd.{RxEnd}
use Rattle.sync_rule.specs.declared.runner.Runner.{Runner}
use Rattle.run_threads.specs.declared.part.Part.{Part}

-- of a list of places this one is there, below a bound
pub record HasPlace (bound : ℕ) (places : List ℕ) (i : ℕ) : Type 0 where
  pub place : ℕ
  pub there : slice_get places i ≡ Some place
  pub within : place < bound

-- so are the first so many, and none of them is named twice
pub record HavePlaces (count bound : ℕ) (places : List ℕ) : Type 0 where
  pub each : (i : ℕ) → i < count → HasPlace bound places i
  pub apart : (i j place : ℕ) → i < count → j < count → slice_get places i ≡ Some place
      → slice_get places j ≡ Some place → i ≡ j

-- the items from this one on were put into the slots at their places; the other slots are as they
-- were
pub record PutFrom {X : Type 0} (first : ℕ) (items : List X) (places : List ℕ)
    (slots slots' : List (Option X)) : Type 0 where
  pub as_many : length slots' ≡ length slots
  pub each : (i place : ℕ) (x : X) → first ≤ i → slice_get places i ≡ Some place
      → slice_get items i ≡ Some x → slice_get slots' place ≡ Some (Some x)
  pub others : (k : ℕ) → ((i : ℕ) → first ≤ i → i < length items → slice_get places i ≡ Some k → ⊥)
      → slice_get slots' k ≡ slice_get slots k

abbrev pub PutBack : {X : Type 0} → List X → List ℕ → List (Option X) → List (Option X) → Type 0
PutBack items places slots slots' = PutFrom 0 items places slots slots'

-- the places of the ends of all parts are there, below a bound, and no two ends have one place
pub record HaveOwnPlaces {P E : Type 0} (places_of : P → List ℕ) (ends_of : P → List E)
    (bound : ℕ) (parts : List P) : Type 0 where
  pub each : (c i : ℕ) (part : P) → slice_get parts c ≡ Some part → i < length (ends_of part)
      → HasPlace bound (places_of part) i
  pub apart : (c d i j place : ℕ) (one other : P) → slice_get parts c ≡ Some one
      → slice_get parts d ≡ Some other → i < length (ends_of one) → j < length (ends_of other)
      → slice_get (places_of one) i ≡ Some place → slice_get (places_of other) j ≡ Some place
      → (c ≡ d) × (i ≡ j)

-- each end of these parts is in the slot at its place
pub record AreBack {P E : Type 0} (places_of : P → List ℕ) (ends_of : P → List E)
    (parts : List P) (slots : List (Option E)) : Type 0 where
  pub each : (c i place : ℕ) (part : P) (one : E) → slice_get parts c ≡ Some part
      → slice_get (ends_of part) i ≡ Some one → slice_get (places_of part) i ≡ Some place
      → slice_get slots place ≡ Some (Some one)

-- no slot is empty
pub record AreFilled {X : Type 0} (slots : List (Option X)) : Type 0 where
  pub each : (k : ℕ) → k < length slots → (x : X) × (slice_get slots k ≡ Some (Some x))

-- the sides of the ends in the slots, in order
pub record AreSidesIn {E S : Type 0} (side_of : E → S) (slots : List (Option E))
    (sides : List S) : Type 0 where
  pub ends : List E
  pub filled : slots ≡ map Some ends
  pub sides_are : sides ≡ map side_of ends

-- what a part has
abbrev pub runner_of : {V : Type 0} → Part V → Runner V
runner_of part = part.driver.runner

abbrev pub txs_of : {V : Type 0} → Part V → List TxEnd
txs_of part = part.driver.txs.items

abbrev pub rxs_of : {V : Type 0} → Part V → List RxEnd
rxs_of part = part.driver.rxs.items

abbrev pub departures_of : {V : Type 0} → Part V → List ℕ
departures_of part = part.departures

abbrev pub arrivals_of : {V : Type 0} → Part V → List ℕ
arrivals_of part = part.arrivals
