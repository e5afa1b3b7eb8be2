use Rattle.rv32_isa.proofs.TableLaws.{encodes_back}
use Rattle.rv32_isa.proofs.decoder.decode.Goals as goal

pub returns-clause-encodes_back : goal.returns-clause-encodes_back
returns-clause-encodes_back c = encodes_back c.args.word c.instruction.result c.ranges.word.fits c.instruction.ensures
