use Rattle.std.proofs.Common.{◌≡◌, None, refl}
use Rattle.rv32_isa.specs.Table.{encoded_computation}
use Rattle.rv32_isa.specs.declared.instr.Instr.{Instr}
use Rattle.rv32_isa.specs.declared.instr.Instr.TheVariants.{Addi, Slti, Sltiu, Xori, Ori, Andi, Slli, Srli, Srai, Add, Sub, Sll, Slt, Sltu, Xor, Srl, Sra, Or, And, Mul, Mulh, Mulhsu, Mulhu, Div, Divu, Rem, Remu}
use Rattle.rv32_isa.proofs.encoder.computation.Goals as goal
use Rattle.rv32_isa.proofs.encoder.computation.Goals.{In_default}

-- what is none of the arms is no computation
rest : (i : Instr) (c : In_default) → c.args.instr ≡ i → None ≡ encoded_computation i
unfolding encoded_computation
rest (Addi x y z) c e = absurd (c.in_default.not-Addi _ _ _ e)
rest (Slti x y z) c e = absurd (c.in_default.not-Slti _ _ _ e)
rest (Sltiu x y z) c e = absurd (c.in_default.not-Sltiu _ _ _ e)
rest (Xori x y z) c e = absurd (c.in_default.not-Xori _ _ _ e)
rest (Ori x y z) c e = absurd (c.in_default.not-Ori _ _ _ e)
rest (Andi x y z) c e = absurd (c.in_default.not-Andi _ _ _ e)
rest (Slli x y z) c e = absurd (c.in_default.not-Slli _ _ _ e)
rest (Srli x y z) c e = absurd (c.in_default.not-Srli _ _ _ e)
rest (Srai x y z) c e = absurd (c.in_default.not-Srai _ _ _ e)
rest (Add x y z) c e = absurd (c.in_default.not-Add _ _ _ e)
rest (Sub x y z) c e = absurd (c.in_default.not-Sub _ _ _ e)
rest (Sll x y z) c e = absurd (c.in_default.not-Sll _ _ _ e)
rest (Slt x y z) c e = absurd (c.in_default.not-Slt _ _ _ e)
rest (Sltu x y z) c e = absurd (c.in_default.not-Sltu _ _ _ e)
rest (Xor x y z) c e = absurd (c.in_default.not-Xor _ _ _ e)
rest (Srl x y z) c e = absurd (c.in_default.not-Srl _ _ _ e)
rest (Sra x y z) c e = absurd (c.in_default.not-Sra _ _ _ e)
rest (Or x y z) c e = absurd (c.in_default.not-Or _ _ _ e)
rest (And x y z) c e = absurd (c.in_default.not-And _ _ _ e)
rest (Mul x y z) c e = absurd (c.in_default.not-Mul _ _ _ e)
rest (Mulh x y z) c e = absurd (c.in_default.not-Mulh _ _ _ e)
rest (Mulhsu x y z) c e = absurd (c.in_default.not-Mulhsu _ _ _ e)
rest (Mulhu x y z) c e = absurd (c.in_default.not-Mulhu _ _ _ e)
rest (Div x y z) c e = absurd (c.in_default.not-Div _ _ _ e)
rest (Divu x y z) c e = absurd (c.in_default.not-Divu _ _ _ e)
rest (Rem x y z) c e = absurd (c.in_default.not-Rem _ _ _ e)
rest (Remu x y z) c e = absurd (c.in_default.not-Remu _ _ _ e)
rest _ c e = refl

pub returns-in_default : goal.returns-in_default
returns-in_default c = rest c.args.instr c refl
