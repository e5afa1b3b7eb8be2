-- What is written so far, and what is still to come.
use Rattle.std.proofs.Common.{◌≡◌, ℕ, List, ◌++◌, drop}
use Rattle.cs_base.specs.declared.link.Link.{Link}
use Rattle.device_api.specs.declared.counts.Count.{Count}
use Rattle.channel_stats.specs.Statistics.{statistics_from, statistics}

module _ (names : List (List ℕ)) (counts : List Count) (links : List Link) where
  -- the text and the lines of the links from j on are all lines
  abbrev pub Remain : List ℕ → ℕ → Type 0
  Remain text j = text ++ statistics_from names counts j (drop j links) ≡ statistics names links counts
