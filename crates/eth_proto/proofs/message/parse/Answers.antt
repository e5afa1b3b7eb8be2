use Rattle.std.proofs.Common.{◌≡◌, false, [], ◌∷◌, arith}
use Rattle.std.proofs.lemmas.Grind.{common_steps}
use Rattle.field_layout.specs.Layout.{is_zero_elsewhere}
use Rattle.field_layout.proofs.Layouts.{not_zero_elsewhere, differ_from_ne}
use Rattle.eth_proto.specs.Spelling.{length_field}
use Rattle.eth_proto.proofs.message.parse.Goals as goal

pub returns-then-ne-clause-refused : goal.returns-then-ne-clause-refused
returns-then-ne-clause-refused c =
    let bytes = c.args.fields.now in
    let unzero : is_zero_elsewhere (length_field ∷ []) bytes ≡ false = not_zero_elsewhere c.fields_of.ensures c.requires (c.u16_at-len.ensures.held, tt) (differ_from_ne bytes c.fields_of.result c.ne.ensures c.if-ne.true) in
    grind (arith, common_steps)
