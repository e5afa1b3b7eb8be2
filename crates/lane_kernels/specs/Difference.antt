-- The first place at which two texts differ.
use Rattle.std.specs.Prelude.{ℕ, ◌+◌, ◌==◌, List, [], ◌∷◌, if◌then◌else◌, Option, Some, None, drop, not}
use Rattle.std.specs.Simd.Lanes.{zip2, mask_l}

-- the first place from here on at which two texts differ, where these are their rests from here
abbrev pub difference_at : ℕ → List ℕ → List ℕ → Option ℕ
difference_at at [] b = None
difference_at at (x ∷ a) [] = None
difference_at at (x ∷ a) (y ∷ b) = if x == y then difference_at (at + 1) a b else Some at

-- the least place below both lengths at which they differ
abbrev pub first_difference_of : List ℕ → List ℕ → Option ℕ
first_difference_of a b = difference_at 0 a b

-- the first place from `start` on at which they differ
abbrev pub difference_from : ℕ → List ℕ → List ℕ → Option ℕ
difference_from start a b = difference_at start (drop start a) (drop start b)

-- how many bytes are equal from the front on
abbrev pub equal_front : List ℕ → List ℕ → ℕ
equal_front [] b = 0
equal_front (x ∷ a) [] = 0
equal_front (x ∷ a) (y ∷ b) = if x == y then 1 + equal_front a b else 0

-- a bit for each pair of bytes, the lowest first: whether they differ
abbrev pub differing_bits : List ℕ → List ℕ → ℕ
differing_bits a b = mask_l (zip2 (λ x y. not (x == y)) a b)
