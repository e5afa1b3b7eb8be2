use Rattle.std.proofs.Common.{◌≡◌, ◌&&◌, true, false, eqb, [], length, replicate, refl, sym, ap, ◌∙◌, subst}
use Rattle.std.proofs.lemmas.Bool.{eqb-true, and_right}
use Rattle.std.proofs.lemmas.List.{nil_from_length}
use Rattle.field_layout.specs.Layout.{IsLaidOut, is_zero_elsewhere}
use Rattle.field_layout.proofs.Layouts.{blank, not_zero_elsewhere, same_from_ne, differ_from_ne}
use Rattle.sb_message.proofs.reading.read_sync.Goals as goal
use Rattle.sb_message.proofs.reading.read_sync.Goals.{then-ne-via-then-ne, then-ne-via-else-ne+then-not-is_empty}

pub returns-then-ne-clause-refused : goal.returns-then-ne-clause-refused
returns-then-ne-clause-refused c = elim c.then-ne.branch [
  | then-ne-via-then-ne w ↦
      let unzero : is_zero_elsewhere [] c.args.fields.now ≡ false = not_zero_elsewhere blank c.requires tt (differ_from_ne _ (replicate 48 0) c.ne.ensures w.if-ne.true) in
      rw unzero refl
  | then-ne-via-else-ne+then-not-is_empty w ↦
      let full : eqb (length c.args.payload.now) 0 ≡ false = sym w.is_empty.ensures ∙ w.if-not-is_empty.true in
      let none : (is_zero_elsewhere [] c.args.fields.now && eqb (length c.args.payload.now) 0) ≡ false = and_right _ _ full in
      rw none refl
]

pub returns-clause-found : goal.returns-clause-found
returns-clause-found c =
    let same = same_from_ne c.args.fields.now (replicate 48 0) c.ne.ensures c.if-ne.false in
    record { is_type = refl; laid_out = subst (IsLaidOut 48 []) (sym same) blank; no_payload = nil_from_length _ (eqb-true _ _ (sym c.is_empty.ensures ∙ c.if-not-is_empty.false)) }

pub returns-clause-refused : goal.returns-clause-refused
returns-clause-refused c =
    let same = same_from_ne c.args.fields.now (replicate 48 0) c.ne.ensures c.if-ne.false in
    let zeros : is_zero_elsewhere [] c.args.fields.now ≡ true = ap (is_zero_elsewhere []) same ∙ blank.others in
    let empty : eqb (length c.args.payload.now) 0 ≡ true = sym c.is_empty.ensures ∙ c.if-not-is_empty.false in
    rw (zeros, empty) refl
