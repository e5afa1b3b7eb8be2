use Rattle.std.proofs.Common.{◌≡◌, false, [], ◌∷◌, arith}
use Rattle.std.proofs.lemmas.Grind.{common_steps}
use Rattle.field_layout.specs.Layout.{is_zero_elsewhere}
use Rattle.field_layout.proofs.Layouts.{not_zero_elsewhere, differ_from_ne}
use Rattle.access_proto.specs.Spelling.{id_field, addr_field, length_field}
use Rattle.access_proto.proofs.reading.read_write.Goals as goal

pub returns-then-ne-clause-refused : goal.returns-then-ne-clause-refused
returns-then-ne-clause-refused c =
    let bytes = c.args.fields.now in
    let unzero : is_zero_elsewhere (id_field ∷ addr_field ∷ length_field ∷ []) bytes ≡ false = not_zero_elsewhere c.request_fields.ensures c.requires (c.u64_at-id.ensures.held, (c.u64_at-addr.ensures.held, (c.in-Some.ensures.held, tt))) (differ_from_ne bytes c.request_fields.result c.ne.ensures c.if-ne.true) in
    grind (arith, common_steps)
