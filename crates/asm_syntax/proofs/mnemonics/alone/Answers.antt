use Rattle.std.proofs.Common.{sym, codes, arith, rules}
use Rattle.asm_syntax.specs.Mnemonics.{alone_rows}
use Rattle.asm_syntax.proofs.Names.{select_same}
use Rattle.asm_syntax.proofs.mnemonics.alone.Goals as goal

pub returns-in-ebreak : goal.returns-in-ebreak
unfolding alone_rows
returns-in-ebreak c = sym (select_same c.args.name.now (codes "ebreak") alone_rows (omega arith) (search rules))

pub returns-in-102 : goal.returns-in-102
unfolding alone_rows
returns-in-102 c = sym (select_same c.args.name.now (codes "fence.i") alone_rows (omega arith) (search rules))
