-- The tree behind an agenda: a list of keys, of which the places from n on are the components'.
use Rattle.std.specs.Prelude.{ℕ, ◌≡◌, ◌≢◌, ◌==◌, ◌+◌, ◌*◌, ◌/◌, ◌%◌, ◌≤◌, ◌<◌, ◌⊎◌, min, if◌then◌else◌, List, Option, Some, None, length, get_or}

-- the key of no moment
abbrev pub never : ℕ
never = 18446744073709551615

-- the time of a key
abbrev pub due_of : ℕ → Option ℕ
due_of key = if key == never then None else Some (key / 64)

-- a place has the lesser of the two keys below it
abbrev pub IsNode : List ℕ → ℕ → Type 0
IsNode keys j = get_or keys j 0 ≡ min (get_or keys (2 * j) 0) (get_or keys (2 * j + 1) 0)

-- the key of component d is no moment's, or less, and names d
abbrev pub IsOwn : ℕ → ℕ → Type 0
IsOwn key d = (key ≡ never) ⊎ ((key % 64 ≡ d) × (key < never))

-- a key is no moment's, or that of a component other than `own`
abbrev pub IsAnother : ℕ → ℕ → List ℕ → ℕ → Type 0
IsAnother n own keys key = (key ≡ never) ⊎ ((d : ℕ) × (d < n) × (d ≢ own) × (key ≡ get_or keys (n + d) 0))

pub record IsTree (n : ℕ) (keys : List ℕ) : Type 0 where
  pub some : 1 ≤ n
  pub few : n ≤ 64
  pub sized : length keys ≡ 2 * n
  pub nodes : (j : ℕ) → 1 ≤ j → j < n → IsNode keys j
  pub own : (d : ℕ) → d < n → IsOwn (get_or keys (n + d) 0) d
