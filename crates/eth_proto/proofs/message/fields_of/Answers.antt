use Rattle.std.proofs.Common.{refl}
use Rattle.field_layout.proofs.Layouts.{blank}
use Rattle.eth_proto.proofs.message.fields_of.Goals as goal

pub returns : goal.returns
returns c = c.put_u16.ensures.laid_out 48 _ blank refl
