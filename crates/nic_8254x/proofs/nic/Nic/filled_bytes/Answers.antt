use Rattle.std.proofs.Common.{ap, ◌∙◌}
use Rattle.nic_rings.specs.Descriptors.{rx_bytes}
use Rattle.nic_8254x.proofs.nic.Nic.filled_bytes.Goals as goal
use Rattle.nic_8254x.specs.Receiving.{filled_bytes}

pub returns : goal.returns
unfolding filled_bytes
returns c = c.to_bytes.ensures.written ∙ ap rx_bytes c.filled_descriptor.ensures
