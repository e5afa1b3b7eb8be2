-- The links that entries spell, as they are read.
use Rattle.std.specs.Prelude.{ℕ, ◌≡◌, List, map}
use Rattle.toml.specs.Data.{Data}
use Rattle.cs_base.specs.declared.link.Link.{Link}
use Rattle.topology_file.specs.declared.joined.Joined.{Joined}
use Rattle.topology_file.specs.Links.{link_of}
use Rattle.topology_file.specs.Seats.{HasSeats}

pub record IsLinkOf (names : List (List ℕ)) (d : Data) (link : Link) : Type 0 where
  pub spelled : link ≡ link_of names d
  pub seats : HasSeats link

abbrev pub AreLinksOf : List (List ℕ) → List Data → Joined → Type 0
AreLinksOf names entries joined = joined.links ≡ map (link_of names) entries
