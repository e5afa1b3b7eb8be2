use Rattle.mesh_channel.proofs.Going as going
use Rattle.mesh_channel.proofs.laws.no_carrier_is_stuck.Goals as goal

pub returns-clause-goes_on : goal.returns-clause-goes_on
returns-clause-goes_on c = going.goes_on

pub returns-clause-has_room : goal.returns-clause-has_room
returns-clause-has_room c = going.has_room
