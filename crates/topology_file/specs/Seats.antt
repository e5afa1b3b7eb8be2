-- A table of the ports that are in a link: 32 places for each of 64 components.
use Rattle.std.specs.Prelude.{ℕ, ◌≡◌, ◌<◌, ◌+◌, ◌*◌, Bool, not, List, length, false, slice_index_or}
use Rattle.cs_base.specs.declared.link.Link.{Link}
use Rattle.topology_file.specs.Links.{is_free}

abbrev pub seat_of : ℕ → ℕ → ℕ
seat_of component port = component * 32 + port

pub record IsMarked (links : List Link) (taken : List Bool) : Type 0 where
  pub seats : length taken ≡ 2048
  pub marks : (component port : ℕ) → component < 64 → port < 32 → slice_index_or taken (seat_of component port) false ≡ not (is_free links (record { component = component; port = port }))

-- a link between ports that have a place in the table
pub record HasSeats (link : Link) : Type 0 where
  pub a : link.a < 64
  pub a_port : link.a_port < 32
  pub b : link.b < 64
  pub b_port : link.b_port < 32
