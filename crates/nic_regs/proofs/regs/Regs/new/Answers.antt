use Rattle.std.proofs.Common.{refl}
use lib.ListN.{replicate}
use Rattle.nic_regs.proofs.Stored.{first_valid}
use Rattle.nic_regs.proofs.regs.Regs.new.Goals as goal

pub invariant_of-result : goal.invariant_of-result
invariant_of-result c = record { ctrl = refl; causes = refl; mask = refl; rdbal = refl; rdlen = refl; rdh = refl; rdt = refl; tdbal = refl; tdlen = refl; tdh = refl; tdt = refl; pcss = refl; rah = first_valid c.high_of.result c.high_of.ensures.least c.high_of.ensures.less (replicate 15 0) refl }
