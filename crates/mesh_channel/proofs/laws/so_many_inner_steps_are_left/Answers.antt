use Rattle.mesh_channel.proofs.Counted as counted
use Rattle.mesh_channel.proofs.laws.so_many_inner_steps_are_left.Goals as goal

pub returns-clause-counts : goal.returns-clause-counts
returns-clause-counts c = counted.counts

pub returns-clause-busy : goal.returns-clause-busy
returns-clause-busy c = counted.busy
