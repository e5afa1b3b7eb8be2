-- The two channels of each link.
use Rattle.std.specs.Prelude.{ℕ, List, [], ◌∷◌}
use Rattle.cs_base.specs.declared.link.Link.{Link}
use Rattle.cs_base.specs.Plan.{End, first_end, second_end}

-- a one-way channel from a port to a port
pub record Channel : Type 0 where
  pub from : End
  pub to : End
  pub latency : ℕ
  pub interval : ℕ

-- the channels of all links: a channel's number is its place, so link j has the channels 2j, from its
-- first end to its second, and 2j + 1 back
abbrev pub channels : List Link → List Channel
channels [] = []
channels (link ∷ more) = record { from = first_end link; to = second_end link; latency = link.latency; interval = link.interval } ∷ (record { from = second_end link; to = first_end link; latency = link.latency; interval = link.interval } ∷ channels more)
