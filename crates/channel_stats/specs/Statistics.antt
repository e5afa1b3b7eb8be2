-- The text that tells what went on each channel. Link `j` has the channels `2 * j`, from its first end to its second, and `2 * j + 1` back.
use Rattle.std.specs.Prelude.{ℕ, ◌+◌, ◌*◌, ◌<◌, List, [], ◌∷◌, ◌++◌, length, codes, decimal, slice_index_or}
use Rattle.cs_base.specs.declared.link.Link.{Link}
use Rattle.device_api.specs.declared.counts.Count.{Count}

-- one channel's line: its number, the components at its ends, and how many null messages and events went on it
abbrev pub channel_line : ℕ → List ℕ → List ℕ → Count → List ℕ
channel_line k from to count =
    codes "channel " ++ decimal k ++ codes " " ++ from ++ codes " " ++ to ++ codes " syncs " ++ decimal count.syncs ++ codes " sends " ++ decimal count.sends ++ codes "\n"

abbrev pub name_at : List (List ℕ) → ℕ → List ℕ
name_at names c = slice_index_or names c []

abbrev pub count_at : List Count → ℕ → Count
count_at counts k = slice_index_or counts k (record { syncs = 0; sends = 0 })

-- both channels of link j
abbrev pub link_lines : List (List ℕ) → List Count → ℕ → Link → List ℕ
link_lines names counts j link =
    channel_line (2 * j) (name_at names link.a) (name_at names link.b) (count_at counts (2 * j)) ++ channel_line (2 * j + 1) (name_at names link.b) (name_at names link.a) (count_at counts (2 * j + 1))

-- the channels of the links from link j on
abbrev pub statistics_from : List (List ℕ) → List Count → ℕ → List Link → List ℕ
statistics_from names counts j [] = []
statistics_from names counts j (link ∷ more) = link_lines names counts j link ++ statistics_from names counts (j + 1) more

abbrev pub statistics : List (List ℕ) → List Link → List Count → List ℕ
statistics names links counts = statistics_from names counts 0 links

-- the ends of a link are components that have names
pub record IsNamed (names : List (List ℕ)) (link : Link) : Type 0 where
  pub first : link.a < length names
  pub second : link.b < length names
