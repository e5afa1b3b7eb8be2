-- The entries of a table as they are filed: their places by the buckets of their addresses, and by time.
use Rattle.std.specs.Prelude.{ℕ, ◌≡◌, ◌≤◌, ◌<◌, ◌+◌, ◌*◌, ◌%◌, List, length, slice_index, slice_index_or}
use Rattle.switch_sim.specs.declared.entry.Entry.{Entry}

-- an address as a number, and its bucket
abbrev pub number_of : List ℕ → ℕ
number_of mac = ((slice_index mac 0 * 256 + slice_index mac 1) * 256 + slice_index mac 2) * 16777216 + ((slice_index mac 3 * 256 + slice_index mac 4) * 256 + slice_index mac 5)

unfoldable pub bucket_of : List ℕ → ℕ
bucket_of mac = number_of mac % 4093

-- each place with an entry is in the bucket of its address and has its time, and the other places are in no bucket
pub record IsFiled (entries : List Entry) (buckets seen : List ℕ) : Type 0 where
  pub few : length entries ≤ 4096
  pub buckets_sized : length buckets ≡ 4096
  pub seen_sized : length seen ≡ 4096
  pub filed : (p : ℕ) (d : Entry) → p < length entries → slice_index buckets p ≡ bucket_of (slice_index_or entries p d).mac
  pub free : (p : ℕ) → length entries ≤ p → p < 4096 → 4096 ≤ slice_index buckets p
  pub timed : (p : ℕ) (d : Entry) → p < length entries → slice_index seen p ≡ (slice_index_or entries p d).seen
