-- What each form of a step has, every step has.
use Rattle.std.specs.Prelude.{ℕ, ◌%◌, ◌==◌, Bool, true, false, if◌then◌else◌, ℤ, Option, Some, None}
use Rattle.rv32_isa.specs.declared.instr.Instr.{Instr}
use Rattle.rv32_isa.specs.declared.instr.Instr.TheVariants.{Lui, Auipc, Jal, Jalr, Beq, Bne, Blt, Bge, Bltu, Bgeu, Lb, Lh, Lw, Lbu, Lhu, Sb, Sh, Sw, Addi, Slti, Sltiu, Xori, Ori, Andi, Slli, Srli, Srai, Add, Sub, Sll, Slt, Sltu, Xor, Srl, Sra, Or, And, Mul, Mulh, Mulhsu, Mulhu, Div, Divu, Rem, Remu, Fence, FenceI, Ecall, Ebreak, Mret, Wfi, Csrrw, Csrrs, Csrrc, Csrrwi, Csrrsi, Csrrci}
use Rattle.rv32_isa.specs.Table.{decoded}
use Rattle.rv32_core.specs.declared.act.Act.TheVariants as act
use Rattle.rv32_core.specs.declared.pending.Pending.TheVariants as access
use Rattle.rv32_core.specs.CoreState.{CoreState, registers_with}
use Rattle.rv32_core.specs.Csr.{csr_of, is_read_only, with_csr}
use Rattle.rv32_core.specs.Execution.{Outcome, trapped, passed, done, next_pc, results, jumps, branches, loads, stores, read_into, reads, swapped, swaps, sets, clears, returns, waits, computed, executed, stepped}

-- a core that has jumped, and one that waits for an access
abbrev pub jumped : CoreState → (rd target : ℕ) → Outcome
jumped s rd target = done (record s { registers = registers_with s.registers rd (next_pc s); pc = target; pending = access.Nothing })

abbrev pub load_asked : CoreState → (rd size : ℕ) → Bool → (at : ℕ) → Outcome
load_asked s rd size is_signed at = record {
  state = record s { pending = access.Load at size (rd % 32) is_signed };
  act = act.Load at size;
}

abbrev pub store_asked : CoreState → (size at value : ℕ) → Outcome
store_asked s size at value = record {
  state = record s { pending = access.Store at size value };
  act = act.Store at size value;
}

-- a property of a core and of what a step makes of it, which each form of a step has
pub record HaveAll (P : CoreState → Outcome → Type 0) : Type 0 where
  pub on_trap : (s : CoreState) (cause : ℕ) → P s (trapped cause s)
  pub on_pass : (s : CoreState) → P s (done (passed s))
  pub on_result : (s : CoreState) (rd value : ℕ) → P s (results s rd value)
  pub on_csr : (s : CoreState) (rd number value old : ℕ) → P s (results (with_csr s number value) rd old)
  pub on_jump : (s : CoreState) (rd target : ℕ) → P s (jumped s rd target)
  pub on_load : (s : CoreState) (rd size : ℕ) (is_signed : Bool) (at : ℕ) → P s (load_asked s rd size is_signed at)
  pub on_store : (s : CoreState) (size at value : ℕ) → P s (store_asked s size at value)
  pub on_return : (s : CoreState) → P s (done (returns s))
  pub on_wait : (s : CoreState) → P s (waits s)

either : (P : CoreState → Outcome → Type 0) (s : CoreState) (b : Bool) (x y : Outcome) → P s x → P s y → P s (if b then x else y)
either P s true x y p q = p
either P s false x y p q = q

jumps_have : (P : CoreState → Outcome → Type 0) → HaveAll P → (s : CoreState) (rd target : ℕ) → P s (jumps s rd target)
unfolding jumps
jumps_have P f s rd target = either P s (target % 4 == 0) _ _ (f.on_jump s rd target) (f.on_trap s 0)

branches_have : (P : CoreState → Outcome → Type 0) → HaveAll P → (s : CoreState) (imm : ℤ) (taken : Bool) → P s (branches s imm taken)
unfolding branches
branches_have P f s imm taken = either P s taken _ _ (jumps_have P f s 0 _) (f.on_pass s)

loads_have : (P : CoreState → Outcome → Type 0) → HaveAll P → (s : CoreState) (rd size : ℕ) (is_signed : Bool) (at : ℕ) → P s (loads s rd size is_signed at)
unfolding loads
loads_have P f s rd size is_signed at = either P s (at % size == 0) _ _ (f.on_load s rd size is_signed at) (f.on_trap s 4)

stores_have : (P : CoreState → Outcome → Type 0) → HaveAll P → (s : CoreState) (size at value : ℕ) → P s (stores s size at value)
unfolding stores
stores_have P f s size at value = either P s (at % size == 0) _ _ (f.on_store s size at _) (f.on_trap s 6)

read_have : (P : CoreState → Outcome → Type 0) → HaveAll P → (s : CoreState) (rd : ℕ) (old : Option ℕ) → P s (read_into s rd old)
read_have P f s rd None = f.on_trap s 2
read_have P f s rd (Some old) = f.on_result s rd old

reads_have : (P : CoreState → Outcome → Type 0) → HaveAll P → (s : CoreState) (rd number : ℕ) → P s (reads s rd number)
unfolding reads
reads_have P f s rd number = read_have P f s rd (csr_of s number)

swapped_have : (P : CoreState → Outcome → Type 0) → HaveAll P → (s : CoreState) (rd number value : ℕ) (old : Option ℕ) → P s (swapped s rd number value old)
swapped_have P f s rd number value None = f.on_trap s 2
swapped_have P f s rd number value (Some old) = f.on_csr s rd number value old

swaps_have : (P : CoreState → Outcome → Type 0) → HaveAll P → (s : CoreState) (rd number value : ℕ) → P s (swaps s rd number value)
unfolding swaps
swaps_have P f s rd number value = either P s (is_read_only number) _ _ (f.on_trap s 2) (swapped_have P f s rd number value (csr_of s number))

sets_have : (P : CoreState → Outcome → Type 0) → HaveAll P → (s : CoreState) (rd number source bits : ℕ) → P s (sets s rd number source bits)
unfolding sets
sets_have P f s rd number source bits = either P s (source == 0) _ _ (reads_have P f s rd number) (swaps_have P f s rd number _)

clears_have : (P : CoreState → Outcome → Type 0) → HaveAll P → (s : CoreState) (rd number source bits : ℕ) → P s (clears s rd number source bits)
unfolding clears
clears_have P f s rd number source bits = either P s (source == 0) _ _ (reads_have P f s rd number) (swaps_have P f s rd number _)

-- the computations
computed_have : (P : CoreState → Outcome → Type 0) → HaveAll P → (i : Instr) (s : CoreState) → P s (computed i s)
unfolding computed
computed_have P f (Lui x y) s = f.on_result s x _
computed_have P f (Auipc x y) s = f.on_result s x _
computed_have P f (Addi x y z) s = f.on_result s x _
computed_have P f (Slti x y z) s = f.on_result s x _
computed_have P f (Sltiu x y z) s = f.on_result s x _
computed_have P f (Xori x y z) s = f.on_result s x _
computed_have P f (Ori x y z) s = f.on_result s x _
computed_have P f (Andi x y z) s = f.on_result s x _
computed_have P f (Slli x y z) s = f.on_result s x _
computed_have P f (Srli x y z) s = f.on_result s x _
computed_have P f (Srai x y z) s = f.on_result s x _
computed_have P f (Add x y z) s = f.on_result s x _
computed_have P f (Sub x y z) s = f.on_result s x _
computed_have P f (Sll x y z) s = f.on_result s x _
computed_have P f (Slt x y z) s = f.on_result s x _
computed_have P f (Sltu x y z) s = f.on_result s x _
computed_have P f (Xor x y z) s = f.on_result s x _
computed_have P f (Srl x y z) s = f.on_result s x _
computed_have P f (Sra x y z) s = f.on_result s x _
computed_have P f (Or x y z) s = f.on_result s x _
computed_have P f (And x y z) s = f.on_result s x _
computed_have P f (Mul x y z) s = f.on_result s x _
computed_have P f (Mulh x y z) s = f.on_result s x _
computed_have P f (Mulhsu x y z) s = f.on_result s x _
computed_have P f (Mulhu x y z) s = f.on_result s x _
computed_have P f (Div x y z) s = f.on_result s x _
computed_have P f (Divu x y z) s = f.on_result s x _
computed_have P f (Rem x y z) s = f.on_result s x _
computed_have P f (Remu x y z) s = f.on_result s x _
computed_have P f _ s = f.on_trap s 2

-- each instruction
executed_have : (P : CoreState → Outcome → Type 0) → HaveAll P → (i : Instr) (s : CoreState) → P s (executed i s)
unfolding executed
executed_have P f (Jal x y) s = jumps_have P f s x _
executed_have P f (Jalr x y z) s = jumps_have P f s x _
executed_have P f (Beq x y z) s = branches_have P f s z _
executed_have P f (Bne x y z) s = branches_have P f s z _
executed_have P f (Blt x y z) s = branches_have P f s z _
executed_have P f (Bge x y z) s = branches_have P f s z _
executed_have P f (Bltu x y z) s = branches_have P f s z _
executed_have P f (Bgeu x y z) s = branches_have P f s z _
executed_have P f (Lb x y z) s = loads_have P f s x _ _ _
executed_have P f (Lh x y z) s = loads_have P f s x _ _ _
executed_have P f (Lw x y z) s = loads_have P f s x _ _ _
executed_have P f (Lbu x y z) s = loads_have P f s x _ _ _
executed_have P f (Lhu x y z) s = loads_have P f s x _ _ _
executed_have P f (Sb x y z) s = stores_have P f s _ _ _
executed_have P f (Sh x y z) s = stores_have P f s _ _ _
executed_have P f (Sw x y z) s = stores_have P f s _ _ _
executed_have P f (Fence x) s = f.on_pass s
executed_have P f (FenceI x) s = f.on_pass s
executed_have P f Ecall s = f.on_trap s 11
executed_have P f Ebreak s = f.on_trap s 3
executed_have P f Mret s = f.on_return s
executed_have P f Wfi s = f.on_wait s
executed_have P f (Csrrw x y z) s = swaps_have P f s x _ _
executed_have P f (Csrrs x y z) s = sets_have P f s x _ _ _
executed_have P f (Csrrc x y z) s = clears_have P f s x _ _ _
executed_have P f (Csrrwi x y z) s = swaps_have P f s x _ _
executed_have P f (Csrrsi x y z) s = sets_have P f s x _ _ _
executed_have P f (Csrrci x y z) s = clears_have P f s x _ _ _
executed_have P f i s = computed_have P f i s

-- a step
pub stepped_has : (P : CoreState → Outcome → Type 0) → HaveAll P → (s : CoreState) (word : Option ℕ) → P s (stepped s word)
stepped_has P f s None = f.on_trap s 1
stepped_has P f s (Some word) = executed_have P f (decoded word) s
