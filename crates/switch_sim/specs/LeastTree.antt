-- A complete binary tree of 4,096 leaves, each of whose other nodes holds the least number below it.
use Rattle.std.specs.Prelude.{ℕ, ◌≡◌, ◌≤◌, ◌<◌, ◌+◌, ◌*◌, ◌⊎◌, min, List, length, slice_index}

-- node 1 is the root, and the children of node i are the nodes 2 i and 2 i + 1
pub record IsLeastTree (nodes : List ℕ) : Type 0 where
  pub sized : length nodes ≡ 8192
  pub least : (i : ℕ) → 1 ≤ i → i < 4096 → slice_index nodes i ≡ min (slice_index nodes (2 * i)) (slice_index nodes (2 * i + 1))

-- from a node to its first child that isn't above a limit
abbrev pub Lowers : List ℕ → ℕ → ℕ → ℕ → Type 0
Lowers nodes node limit child = (child ≡ 2 * node) ⊎ ((child ≡ 2 * node + 1) × (limit < slice_index nodes (2 * node)))
