use Rattle.std.proofs.Common.{arith}
use Rattle.nic_rings.proofs.tx_desc.TxDesc.joined.Goals as goal

pub returns-clause-fits : goal.returns-clause-fits
returns-clause-fits c = record { addr = omega arith; length = omega arith; cso = omega arith; cmd = omega arith; status = omega arith; css = omega arith; special = omega arith }
