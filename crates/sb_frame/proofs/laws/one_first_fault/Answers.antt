use Rattle.sb_frame.proofs.Firsts.{one_first}
use Rattle.sb_frame.proofs.laws.one_first_fault.Goals as goal

pub returns : goal.returns
returns c kind bytes a b x y = one_first kind bytes a b x y
