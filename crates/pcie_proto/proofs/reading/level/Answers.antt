use Rattle.std.proofs.Common.{◌≡◌, ℕ, ◌<◌, ◌≤◌, Bool, true, false, eqb, [], ◌∷◌, refl, sym, ◌∙◌, subst, arith}
use Rattle.std.proofs.lemmas.Grind.{common_steps}
use Rattle.std.proofs.lemmas.Bool.{eqb-true}
use Rattle.std.proofs.lemmas.List.{nil_from_length}
use Rattle.field_layout.specs.Layout.{IsLaidOut, is_zero_elsewhere}
use Rattle.field_layout.proofs.Layouts.{not_zero_elsewhere, differ_from_ne, same_from_ne}
use Rattle.pcie_proto.specs.FromDevice.{level_field, level_table}
use Rattle.pcie_proto.proofs.FromDevice.{level_number-eqb}
use Rattle.pcie_proto.proofs.reading.level.Goals as goal

pub returns-then-ne-clause-refused : goal.returns-then-ne-clause-refused
returns-then-ne-clause-refused c =
    let bytes = c.args.fields.now in
    let unzero : is_zero_elsewhere (level_field ∷ []) bytes ≡ false = not_zero_elsewhere c.level_fields.ensures c.requires (c.u8_at-number.ensures.held, tt) (differ_from_ne bytes c.level_fields.result c.ne.ensures c.if-ne.true) in
    grind (arith, common_steps)

pub returns-clause-found : goal.returns-clause-found
returns-clause-found c =
    let same = same_from_ne c.args.fields.now c.level_fields.result c.ne.ensures c.if-ne.false in
    let number = level_number-eqb c.u8_at-number.result (omega arith) in
    let laid = subst (IsLaidOut 48 (level_table c.u8_at-number.result)) (sym same) c.level_fields.ensures in
    record { is_type = refl; in_range = tt; laid_out = subst (λ n. IsLaidOut 48 (level_table n) c.args.fields.now) (sym number) laid; whole = nil_from_length _ (eqb-true _ _ (sym c.is_empty.ensures ∙ c.if-not-is_empty.false)) }
