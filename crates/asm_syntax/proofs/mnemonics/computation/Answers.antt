use Rattle.std.proofs.Common.{sym, codes, arith, rules}
use Rattle.asm_syntax.specs.Mnemonics.{computation_rows}
use Rattle.asm_syntax.proofs.Names.{select_same}
use Rattle.asm_syntax.proofs.mnemonics.computation.Goals as goal

pub returns-in-mulhu : goal.returns-in-mulhu
unfolding computation_rows
returns-in-mulhu c = sym (select_same c.args.name.now (codes "mulhu") computation_rows (omega arith) (search rules))

pub returns-in-mulhsu : goal.returns-in-mulhsu
unfolding computation_rows
returns-in-mulhsu c = sym (select_same c.args.name.now (codes "mulhsu") computation_rows (omega arith) (search rules))
