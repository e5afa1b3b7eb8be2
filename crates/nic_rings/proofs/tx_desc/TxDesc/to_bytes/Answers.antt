use Rattle.std.proofs.Common.{ap, ◌∙◌}
use Rattle.nic_rings.specs.Descriptors.{tx_desc_of}
use Rattle.nic_rings.proofs.Sixteen.{tx_back}
use Rattle.nic_rings.proofs.tx_desc.TxDesc.to_bytes.Goals as goal

pub returns-clause-back : goal.returns-clause-back
returns-clause-back c = ap tx_desc_of c.joined.ensures.written ∙ tx_back c.args.self.now c.joined.ensures.fits
