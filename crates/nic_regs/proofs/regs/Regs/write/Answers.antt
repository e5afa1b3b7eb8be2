use Rattle.std.proofs.Common.{sym, subst}
use Rattle.nic_regs.specs.declared.parts.RegsParts.{RegsParts}
use Rattle.nic_regs.specs.Parts.{IsValid}
use Rattle.nic_regs.proofs.Stored.{stored_valid}
use Rattle.nic_regs.proofs.regs.Regs.write.Goals as goal

pub invariant_of-self-2 : goal.invariant_of-self-2
invariant_of-self-2 c =
    subst (λ (s : RegsParts). IsValid s) (sym c.store_by.ensures) (stored_valid c.self.inside.parts c.in-Some.register c.args.value c.self.invariant)
