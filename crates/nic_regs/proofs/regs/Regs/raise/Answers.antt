use Rattle.nic_regs.proofs.Stored.{raised_valid}
use Rattle.nic_regs.proofs.regs.Regs.raise.Goals as goal

pub invariant_of-self : goal.invariant_of-self
invariant_of-self c = raised_valid c.self.inside.parts c.args.bits c.self.invariant
