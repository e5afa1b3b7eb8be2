use Rattle.pcie_proto.proofs.FromDevice.{only_from}
use Rattle.pcie_proto.proofs.reading.read_dev.Goals as goal

pub returns-clause-only : goal.returns-clause-only
returns-clause-only c = only_from c.parse_dev.result c.args.ty c.args.fields.now c.args.payload.now c.parse_dev.ensures.found c.parse_dev.ensures.refused
