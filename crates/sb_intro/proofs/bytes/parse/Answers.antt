use Rattle.std.proofs.Common.{◌≡◌, false, sym, ◌∙◌, subst, ℕ, arith, rules}
use Rattle.std.proofs.lemmas.Grind.{common_steps}
use Rattle.std.proofs.lemmas.Bool.{eqb-true}
use Rattle.std.proofs.lemmas.List.{nil_from_length}
use Rattle.field_layout.specs.Layout.{entry, Holds, IsLaidOut, is_zero_elsewhere}
use Rattle.field_layout.proofs.Layouts.{not_zero_elsewhere, differ_from_ne, same_from_ne}
use Rattle.sb_intro.specs.Spelling.{named_fields}
use Rattle.sb_intro.proofs.bytes.parse.Goals as goal

pub returns-then-ne-clause-refused : goal.returns-then-ne-clause-refused
returns-then-ne-clause-refused c =
    let bytes = c.args.fields.now in
    let kind : Holds bytes (entry 4 1 _) = subst (λ (n : ℕ). Holds bytes (entry 4 1 n)) (sym c.in-Some.ensures) c.u8_at.ensures.held in
    let unzero : is_zero_elsewhere named_fields bytes ≡ false = not_zero_elsewhere c.fields.ensures c.requires (c.u32_at-version.ensures.held, (kind, (c.u64_at.ensures.held, (c.u64_at-2.ensures.held, (c.u64_at-3.ensures.held, tt))))) (differ_from_ne bytes c.fields.result c.ne.ensures c.if-ne.true) in
    grind (arith, common_steps)

pub returns-clause-found : goal.returns-clause-found
returns-clause-found c =
    let same = same_from_ne c.args.fields.now c.fields.result c.ne.ensures c.if-ne.false in
    record { is_type = search rules; laid_out = subst (IsLaidOut 48 _) (sym same) c.fields.ensures; no_payload = nil_from_length _ (eqb-true _ _ (sym c.is_empty.ensures ∙ c.if-not-is_empty.false)) }
