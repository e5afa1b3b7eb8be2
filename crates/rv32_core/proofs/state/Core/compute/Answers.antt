use Rattle.std.proofs.Common.{◌≡◌, refl, ◌∙◌, ap}
use Rattle.rv32_isa.specs.declared.instr.Instr.{Instr}
use Rattle.rv32_isa.specs.declared.instr.Instr.TheVariants.{Lui, Auipc, Addi, Slti, Sltiu, Xori, Ori, Andi, Slli, Srli, Srai, Add, Sub, Sll, Slt, Sltu, Xor, Srl, Sra, Or, And, Mul, Mulh, Mulhsu, Mulhu, Div, Divu, Rem, Remu}
use Rattle.rv32_core.specs.Acts.{did}
use Rattle.rv32_core.specs.CoreState.{CoreState}
use Rattle.rv32_core.specs.Execution.{Outcome, computed, trapped}
use Rattle.rv32_core.proofs.state.Core.compute.Goals as goal
use Rattle.rv32_core.proofs.state.Core.compute.Goals.{After-trap}

-- what is none of the arms is illegal
rest : (i : Instr) (s : CoreState) (c : After-trap) → c.args.instr ≡ i → trapped 2 s ≡ computed i s
unfolding computed
rest (Lui x y) s c e = absurd (c.in_default.not-Lui _ _ e)
rest (Auipc x y) s c e = absurd (c.in_default.not-Auipc _ _ e)
rest (Addi x y z) s c e = absurd (c.in_default.not-Addi _ _ _ e)
rest (Slti x y z) s c e = absurd (c.in_default.not-Slti _ _ _ e)
rest (Sltiu x y z) s c e = absurd (c.in_default.not-Sltiu _ _ _ e)
rest (Xori x y z) s c e = absurd (c.in_default.not-Xori _ _ _ e)
rest (Ori x y z) s c e = absurd (c.in_default.not-Ori _ _ _ e)
rest (Andi x y z) s c e = absurd (c.in_default.not-Andi _ _ _ e)
rest (Slli x y z) s c e = absurd (c.in_default.not-Slli _ _ _ e)
rest (Srli x y z) s c e = absurd (c.in_default.not-Srli _ _ _ e)
rest (Srai x y z) s c e = absurd (c.in_default.not-Srai _ _ _ e)
rest (Add x y z) s c e = absurd (c.in_default.not-Add _ _ _ e)
rest (Sub x y z) s c e = absurd (c.in_default.not-Sub _ _ _ e)
rest (Sll x y z) s c e = absurd (c.in_default.not-Sll _ _ _ e)
rest (Slt x y z) s c e = absurd (c.in_default.not-Slt _ _ _ e)
rest (Sltu x y z) s c e = absurd (c.in_default.not-Sltu _ _ _ e)
rest (Xor x y z) s c e = absurd (c.in_default.not-Xor _ _ _ e)
rest (Srl x y z) s c e = absurd (c.in_default.not-Srl _ _ _ e)
rest (Sra x y z) s c e = absurd (c.in_default.not-Sra _ _ _ e)
rest (Or x y z) s c e = absurd (c.in_default.not-Or _ _ _ e)
rest (And x y z) s c e = absurd (c.in_default.not-And _ _ _ e)
rest (Mul x y z) s c e = absurd (c.in_default.not-Mul _ _ _ e)
rest (Mulh x y z) s c e = absurd (c.in_default.not-Mulh _ _ _ e)
rest (Mulhsu x y z) s c e = absurd (c.in_default.not-Mulhsu _ _ _ e)
rest (Mulhu x y z) s c e = absurd (c.in_default.not-Mulhu _ _ _ e)
rest (Div x y z) s c e = absurd (c.in_default.not-Div _ _ _ e)
rest (Divu x y z) s c e = absurd (c.in_default.not-Divu _ _ _ e)
rest (Rem x y z) s c e = absurd (c.in_default.not-Rem _ _ _ e)
rest (Remu x y z) s c e = absurd (c.in_default.not-Remu _ _ _ e)
rest _ s c e = refl

pub returns-in_default-clause-state : goal.returns-in_default-clause-state
returns-in_default-clause-state c = c.trap.ensures.state ∙ ap (λ (o : Outcome). o.state) (rest c.args.instr c.args.self.now c refl)

pub returns-in_default-clause-act : goal.returns-in_default-clause-act
returns-in_default-clause-act c = c.trap.ensures.act ∙ ap (λ (o : Outcome). did o.act) (rest c.args.instr c.args.self.now c refl)
