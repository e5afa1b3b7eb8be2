use Rattle.rv32_isa.proofs.TableLaws.{decodes_back}
use Rattle.rv32_isa.proofs.encoder.encode.Goals as goal

pub returns-clause-decodes_back : goal.returns-clause-decodes_back
returns-clause-decodes_back c = decodes_back _ c.word.result c.word.ensures
