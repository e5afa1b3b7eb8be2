-- Lists of places by bucket: the places of each bucket in ascending order, linked from one to the next.
use Rattle.std.specs.Prelude.{ℕ, ◌≡◌, ◌≤◌, ◌<◌, ◌+◌, ◌⊎◌, List, length, slice_index}

-- q is the first place of a bucket from a place on, or 4,096 where there is none; `buckets` has each place's bucket
pub record IsNextIn (buckets : List ℕ) (bucket from q : ℕ) : Type 0 where
  pub after : from ≤ q
  pub within : q ≤ 4096
  pub there : q < 4096 → slice_index buckets q ≡ bucket
  pub first : (r : ℕ) → from ≤ r → r < q → slice_index buckets r ≡ bucket → ⊥

-- 4,096 links lead to the first places of the buckets, and then each place's own link to the next place of its
-- bucket; a place in no bucket has the bucket 4,096
pub record IsChained (links buckets : List ℕ) : Type 0 where
  pub links_sized : length links ≡ 8192
  pub buckets_sized : length buckets ≡ 4096
  pub heads : (b : ℕ) → b < 4096 → IsNextIn buckets b 0 (slice_index links b)
  pub nexts : (p : ℕ) → p < 4096 → slice_index buckets p < 4096 → IsNextIn buckets (slice_index buckets p) (p + 1) (slice_index links (4096 + p))

-- links and buckets of all places
pub record ChainState : Type 0 where
  pub links : List ℕ
  pub buckets : List ℕ

-- a link of a bucket: the one to its first place, or one from a place of it; `start` is the first place after it
abbrev pub IsLinkOf : List ℕ → ℕ → ℕ → ℕ → Type 0
IsLinkOf buckets bucket link start = ((link ≡ bucket) × (start ≡ 0)) ⊎ ((r : ℕ) × (r < 4096) × (link ≡ 4096 + r) × (start ≡ r + 1) × (slice_index buckets r ≡ bucket))

-- the link of a bucket by which a place is reached, or would be: it comes before p, and leads to p or beyond
pub record LeadsTo (links buckets : List ℕ) (bucket p link start : ℕ) : Type 0 where
  pub link_of : IsLinkOf buckets bucket link start
  pub before : start ≤ p
  pub leads : IsNextIn buckets bucket start (slice_index links link)
  pub past : p ≤ slice_index links link
