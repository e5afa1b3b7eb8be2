use Rattle.std.proofs.Common.{refl}
use Rattle.field_layout.proofs.Layouts.{blank}
use Rattle.access_proto.proofs.fields.id_fields.Goals as goal

pub returns : goal.returns
returns c = c.put_u64.ensures.laid_out 48 _ blank refl
