-- What `check` writes: the topology of the file, with each key of each entry written out.
use Rattle.std.specs.Prelude.{ℕ, List}
use Rattle.topology_file.specs.declared.topology.Topology.{Topology}
use Rattle.topology_file.specs.Full.{full}
use Rattle.topology_file.specs.Reading.{IsDocument, IsTopologyText}

-- the text is a document of the full table, and is a topology file of the same topology
pub record IsChecked (bytes text : List ℕ) : Type 0 where
  pub topology : Topology
  pub spelled : IsTopologyText bytes topology
  pub in_full : IsDocument text (full topology)
  pub spelled_again : IsTopologyText text topology
