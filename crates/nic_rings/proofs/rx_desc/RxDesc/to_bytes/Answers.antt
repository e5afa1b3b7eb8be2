use Rattle.std.proofs.Common.{ap, ◌∙◌}
use Rattle.nic_rings.specs.Descriptors.{rx_desc_of}
use Rattle.nic_rings.proofs.Sixteen.{rx_back}
use Rattle.nic_rings.proofs.rx_desc.RxDesc.to_bytes.Goals as goal

pub returns-clause-back : goal.returns-clause-back
returns-clause-back c = ap rx_desc_of c.joined.ensures.written ∙ rx_back c.args.self.now c.joined.ensures.fits
