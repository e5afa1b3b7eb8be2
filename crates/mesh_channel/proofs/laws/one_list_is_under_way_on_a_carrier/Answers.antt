use Rattle.mesh_channel.proofs.Counted as counted
use Rattle.mesh_channel.proofs.laws.one_list_is_under_way_on_a_carrier.Goals as goal

pub returns-clause-one_list : goal.returns-clause-one_list
returns-clause-one_list c = counted.one_under_way

pub returns-clause-none : goal.returns-clause-none
returns-clause-none c = counted.are_idle
