use Rattle.std.proofs.Common.{arith}
use Rattle.nic_rings.proofs.rx_desc.RxDesc.joined.Goals as goal

pub returns-clause-fits : goal.returns-clause-fits
returns-clause-fits c = record { addr = omega arith; length = omega arith; checksum = omega arith; status = omega arith; errors = omega arith; special = omega arith }
