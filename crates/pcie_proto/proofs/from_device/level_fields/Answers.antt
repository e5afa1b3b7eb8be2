use Rattle.std.proofs.Common.{refl}
use Rattle.field_layout.proofs.Layouts.{blank}
use Rattle.pcie_proto.proofs.from_device.level_fields.Goals as goal

pub returns : goal.returns
returns c = c.put_u8.ensures.laid_out 48 _ blank refl
