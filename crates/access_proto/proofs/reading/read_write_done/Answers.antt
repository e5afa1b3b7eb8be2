use Rattle.std.proofs.Common.{◌≡◌, false, [], ◌∷◌, sym, ◌∙◌, subst, arith}
use Rattle.std.proofs.lemmas.Grind.{common_steps}
use Rattle.std.proofs.lemmas.Bool.{eqb-true}
use Rattle.std.proofs.lemmas.List.{nil_from_length}
use Rattle.field_layout.specs.Layout.{IsLaidOut, is_zero_elsewhere}
use Rattle.field_layout.proofs.Layouts.{not_zero_elsewhere, differ_from_ne, same_from_ne}
use Rattle.access_proto.specs.Spelling.{id_field}
use Rattle.access_proto.proofs.reading.read_write_done.Goals as goal

pub returns-then-ne-clause-refused : goal.returns-then-ne-clause-refused
returns-then-ne-clause-refused c =
    let bytes = c.args.fields.now in
    let unzero : is_zero_elsewhere (id_field ∷ []) bytes ≡ false = not_zero_elsewhere c.id_fields.ensures c.requires (c.u64_at-id.ensures.held, tt) (differ_from_ne bytes c.id_fields.result c.ne.ensures c.if-ne.true) in
    grind (arith, common_steps)

pub returns-clause-found : goal.returns-clause-found
returns-clause-found c =
    let same = same_from_ne c.args.fields.now c.id_fields.result c.ne.ensures c.if-ne.false in
    record { in_range = tt; laid_out = subst (IsLaidOut 48 _) (sym same) c.id_fields.ensures; whole = nil_from_length _ (eqb-true _ _ (sym c.is_empty.ensures ∙ c.if-not-is_empty.false)) }
