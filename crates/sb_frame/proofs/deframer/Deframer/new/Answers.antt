use Rattle.sb_frame.proofs.Feeding.{begins}
use Rattle.sb_frame.proofs.deframer.Deframer.new.Goals as goal

pub returns-clause-stands : goal.returns-clause-stands
returns-clause-stands c = begins c.new.result c.new-2.result c.args.kind c.new.ensures c.new-2.ensures
