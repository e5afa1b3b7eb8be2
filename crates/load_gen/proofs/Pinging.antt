-- The program is one that the assembler takes, and it fits into the RAM of a host.
use Rattle.std.proofs.Common.{◌≡◌, ◌≤◌, ℕ, Bool, true, false, List, length, Result, Ok, Err, refl, sym, ap, subst, true≢false, ◌∙◌}
use Rattle.std.specs.Prelude.{nat_le}
use Rattle.rv32_asm.specs.declared.reason.AsmReason.{AsmReason}
use Rattle.rv32_asm.specs.declared.reason.AsmBad.{AsmBad}
use Rattle.rv32_asm.specs.declared.reason.AsmBad.TheVariants.{At}
use Rattle.rv32_asm.specs.Assembled.{assembled, IsRefusal}
use Rattle.load_gen.specs.Ping.{ping_source}
use Rattle.load_gen.proofs.Systems.{le_from}
use Rattle.rv32_asm.specs.Layout.{place_from, placed_after}
use Rattle.rv32_asm.specs.Decoding.{}
use Rattle.rv32_asm.specs.Assembled.{outcome}
use Rattle.asm_syntax.specs.Mnemonics.{computation_rows, immediate_rows, access_rows, transfer_rows, csr_rows, alone_rows, other_rows}
use Rattle.asm_syntax.specs.Numbers.{spelled, number_of}
use Rattle.asm_syntax.specs.Operands.{word_at, after_mark, nothing, one, two, three, in_parentheses, based}
use Rattle.asm_syntax.specs.Places.{register, number, label, csr}
use Rattle.asm_syntax.specs.Lines.{statement_at, content_of, labelled}
use Rattle.asm_syntax.specs.Registers.{numbered_rows, abi_rows, csr_rows as registers_csr_rows}
use Rattle.asm_syntax.specs.Statements.{computation, immediate_computation, shift, load, store, branch, upper, access, access_immediate, alone, jump_and_link, jump, move_register, load_immediate, load_address, word, byte, space}
use Rattle.rv32_isa.specs.Table.{encoded_computation, encoded, branch_rows, load_rows, store_rows, jalr_rows, left_shift_rows, right_shift_rows, immediate_rows as table_immediate_rows, base_rows, alternate_rows, multiply_rows, register_rows, fence_rows, privileged_rows, system_rows, opcode_rows, decoded}
use Rattle.cs_base.specs.Lines.{lines_of}

-- bytes that fit
abbrev fits : {E : Type 0} → Result (List ℕ) E → Bool
fits (Ok bytes) = nat_le (length bytes) 65536
fits (Err bad) = false

ping_fits : fits (assembled ping_source) ≡ true
unfolding place_from placed_after outcome computation_rows immediate_rows access_rows transfer_rows csr_rows alone_rows other_rows spelled number_of word_at after_mark nothing one two three in_parentheses based register number label csr statement_at content_of labelled numbered_rows abi_rows registers_csr_rows computation immediate_computation shift load store branch upper access access_immediate alone jump_and_link jump move_register load_immediate load_address word byte space encoded_computation encoded branch_rows load_rows store_rows jalr_rows left_shift_rows right_shift_rows table_immediate_rows base_rows alternate_rows multiply_rows register_rows fence_rows privileged_rows system_rows opcode_rows decoded lines_of
ping_fits = refl

-- so the assembler refuses it for no fault
pub never_at_fault : (bad : AsmBad) (line : ℕ) (reason : AsmReason) → bad ≡ At line reason → IsRefusal ping_source bad → ⊥
never_at_fault bad line reason is refused =
    let at : assembled ping_source ≡ Err (line, reason) = subst (IsRefusal ping_source) is refused in
    true≢false (sym ping_fits ∙ ap fits at)

pub ping_short : (bytes : List ℕ) → assembled ping_source ≡ Ok bytes → length bytes ≤ 65536
ping_short bytes is = le_from (length bytes) 65536 (sym (ap fits is) ∙ ping_fits)
