use Rattle.std.proofs.Common.{sym, codes, arith, rules}
use Rattle.asm_syntax.specs.Registers.{csr_rows}
use Rattle.asm_syntax.proofs.Names.{select_same}
use Rattle.asm_syntax.proofs.registers.csr_named.Goals as goal

pub returns-in-mcause : goal.returns-in-mcause
unfolding csr_rows
returns-in-mcause c = sym (select_same c.args.word.now (codes "mcause") csr_rows (omega arith) (search rules))

pub returns-in-mstatus : goal.returns-in-mstatus
unfolding csr_rows
returns-in-mstatus c = sym (select_same c.args.word.now (codes "mstatus") csr_rows (omega arith) (search rules))

pub returns-in-mhartid : goal.returns-in-mhartid
unfolding csr_rows
returns-in-mhartid c = sym (select_same c.args.word.now (codes "mhartid") csr_rows (omega arith) (search rules))

pub returns-in-mscratch : goal.returns-in-mscratch
unfolding csr_rows
returns-in-mscratch c = sym (select_same c.args.word.now (codes "mscratch") csr_rows (omega arith) (search rules))
