use Rattle.framed_channel.proofs.Kept.{begins}
use Rattle.framed_channel.proofs.Way.{keeps_carrying}
use Rattle.framed_channel.proofs.laws.each_step_keeps_what_is_carried.Goals as goal

pub returns-clause-begin : goal.returns-clause-begin
returns-clause-begin c = begins

pub returns-clause-go_on : goal.returns-clause-go_on
returns-clause-go_on c = keeps_carrying
