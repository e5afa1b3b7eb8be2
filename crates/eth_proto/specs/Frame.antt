-- Which lists of bytes are Ethernet frames.
use Rattle.std.specs.Prelude.{ℕ, ◌≤◌, List, length}

-- an Ethernet frame without its frame check sequence has 14 to 1,514 bytes
pub record IsFrame (bytes : List ℕ) : Type 0 where
  pub at_least : 14 ≤ length bytes
  pub at_most : length bytes ≤ 1514
