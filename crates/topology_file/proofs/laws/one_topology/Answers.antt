use Rattle.topology_file.proofs.OneTopology.{one_topology}
use Rattle.topology_file.proofs.laws.one_topology.Goals as goal

pub returns : goal.returns
returns c = one_topology
