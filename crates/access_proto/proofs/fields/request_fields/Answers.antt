use Rattle.std.proofs.Common.{refl}
use Rattle.field_layout.proofs.Layouts.{blank}
use Rattle.access_proto.proofs.fields.request_fields.Goals as goal

pub returns : goal.returns
returns c =
    let id = c.put_u64.ensures.laid_out 48 _ blank refl in
    let addr = c.put_u64-2.ensures.laid_out 48 _ id refl in
    rw (← c.bytes.ensures.bytes) (c.put_u16.ensures.laid_out 48 _ addr refl)
