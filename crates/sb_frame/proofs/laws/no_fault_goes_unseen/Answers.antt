use Rattle.sb_frame.proofs.Firsts.{none_met}
use Rattle.sb_frame.proofs.laws.no_fault_goes_unseen.Goals as goal

pub returns : goal.returns
returns c d stream given b stands none first = none_met d stream given b stands none first
