use Rattle.mesh_channel.proofs.Kept as kept
use Rattle.mesh_channel.proofs.laws.each_step_keeps_what_a_carrier_carries.Goals as goal

pub returns-clause-begin : goal.returns-clause-begin
returns-clause-begin c = kept.begin

pub returns-clause-go_on : goal.returns-clause-go_on
returns-clause-go_on c = kept.go_on

pub returns-clause-ends : goal.returns-clause-ends
returns-clause-ends c = kept.ends

pub returns-clause-in_order : goal.returns-clause-in_order
returns-clause-in_order c = kept.in_order

pub returns-clause-kind : goal.returns-clause-kind
returns-clause-kind c = kept.keep_kind
