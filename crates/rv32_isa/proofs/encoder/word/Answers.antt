use Rattle.std.proofs.Common.{◌≡◌, refl, ◌∙◌}
use Rattle.rv32_isa.specs.Table.{encoded, encoded_computation}
use Rattle.rv32_isa.specs.declared.instr.Instr.{Instr}
use Rattle.rv32_isa.specs.declared.instr.Instr.TheVariants.{Lui, Auipc, Jal, Jalr, Beq, Bne, Blt, Bge, Bltu, Bgeu, Lb, Lh, Lw, Lbu, Lhu, Sb, Sh, Sw, Fence, FenceI, Ecall, Ebreak, Mret, Wfi, Csrrw, Csrrs, Csrrc, Csrrwi, Csrrsi, Csrrci}
use Rattle.rv32_isa.proofs.encoder.word.Goals as goal
use Rattle.rv32_isa.proofs.encoder.word.Goals.{After-computation}

-- what is none of the arms is a computation
rest : (i : Instr) (c : After-computation) → c.args.instr ≡ i → encoded_computation i ≡ encoded i
unfolding encoded
rest (Lui x y) c e = absurd (c.in_default.not-Lui _ _ e)
rest (Auipc x y) c e = absurd (c.in_default.not-Auipc _ _ e)
rest (Jal x y) c e = absurd (c.in_default.not-Jal _ _ e)
rest (Jalr x y z) c e = absurd (c.in_default.not-Jalr _ _ _ e)
rest (Beq x y z) c e = absurd (c.in_default.not-Beq _ _ _ e)
rest (Bne x y z) c e = absurd (c.in_default.not-Bne _ _ _ e)
rest (Blt x y z) c e = absurd (c.in_default.not-Blt _ _ _ e)
rest (Bge x y z) c e = absurd (c.in_default.not-Bge _ _ _ e)
rest (Bltu x y z) c e = absurd (c.in_default.not-Bltu _ _ _ e)
rest (Bgeu x y z) c e = absurd (c.in_default.not-Bgeu _ _ _ e)
rest (Lb x y z) c e = absurd (c.in_default.not-Lb _ _ _ e)
rest (Lh x y z) c e = absurd (c.in_default.not-Lh _ _ _ e)
rest (Lw x y z) c e = absurd (c.in_default.not-Lw _ _ _ e)
rest (Lbu x y z) c e = absurd (c.in_default.not-Lbu _ _ _ e)
rest (Lhu x y z) c e = absurd (c.in_default.not-Lhu _ _ _ e)
rest (Sb x y z) c e = absurd (c.in_default.not-Sb _ _ _ e)
rest (Sh x y z) c e = absurd (c.in_default.not-Sh _ _ _ e)
rest (Sw x y z) c e = absurd (c.in_default.not-Sw _ _ _ e)
rest (Fence x) c e = absurd (c.in_default.not-Fence _ e)
rest (FenceI x) c e = absurd (c.in_default.not-FenceI _ e)
rest Ecall c e = absurd (c.in_default.not-Ecall e)
rest Ebreak c e = absurd (c.in_default.not-Ebreak e)
rest Mret c e = absurd (c.in_default.not-Mret e)
rest Wfi c e = absurd (c.in_default.not-Wfi e)
rest (Csrrw x y z) c e = absurd (c.in_default.not-Csrrw _ _ _ e)
rest (Csrrs x y z) c e = absurd (c.in_default.not-Csrrs _ _ _ e)
rest (Csrrc x y z) c e = absurd (c.in_default.not-Csrrc _ _ _ e)
rest (Csrrwi x y z) c e = absurd (c.in_default.not-Csrrwi _ _ _ e)
rest (Csrrsi x y z) c e = absurd (c.in_default.not-Csrrsi _ _ _ e)
rest (Csrrci x y z) c e = absurd (c.in_default.not-Csrrci _ _ _ e)
rest _ c e = refl

pub returns-in_default : goal.returns-in_default
returns-in_default c = c.computation.ensures ∙ rest c.args.instr c refl
