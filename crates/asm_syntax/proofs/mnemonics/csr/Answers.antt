use Rattle.std.proofs.Common.{sym, codes, arith, rules}
use Rattle.asm_syntax.specs.Mnemonics.{csr_rows}
use Rattle.asm_syntax.proofs.Names.{select_same}
use Rattle.asm_syntax.proofs.mnemonics.csr.Goals as goal

pub returns-in-csrrwi : goal.returns-in-csrrwi
unfolding csr_rows
returns-in-csrrwi c = sym (select_same c.args.name.now (codes "csrrwi") csr_rows (omega arith) (search rules))

pub returns-in-csrrsi : goal.returns-in-csrrsi
unfolding csr_rows
returns-in-csrrsi c = sym (select_same c.args.name.now (codes "csrrsi") csr_rows (omega arith) (search rules))

pub returns-in-csrrci : goal.returns-in-csrrci
unfolding csr_rows
returns-in-csrrci c = sym (select_same c.args.name.now (codes "csrrci") csr_rows (omega arith) (search rules))
