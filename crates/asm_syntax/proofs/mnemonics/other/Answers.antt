use Rattle.std.proofs.Common.{sym, codes, arith, rules}
use Rattle.asm_syntax.specs.Mnemonics.{other_rows}
use Rattle.asm_syntax.proofs.Names.{select_same}
use Rattle.asm_syntax.proofs.mnemonics.other.Goals as goal

pub returns-in-46-3 : goal.returns-in-46-3
unfolding other_rows
returns-in-46-3 c = sym (select_same c.args.name.now (codes ".space") other_rows (omega arith) (search rules))
