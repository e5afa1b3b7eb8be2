use Rattle.pcie_proto.proofs.FromHost.{only_from}
use Rattle.pcie_proto.proofs.reading.read_host.Goals as goal

pub returns-clause-only : goal.returns-clause-only
returns-clause-only c = only_from c.parse_host.result c.args.ty c.args.fields.now c.args.payload.now c.parse_host.ensures.found c.parse_host.ensures.refused
