use Rattle.std.proofs.Common.{◌≡◌, is_some, sym, ap, ◌∙◌, cond, Some, None}
use Rattle.std.specs.Option.{option_or}
use Rattle.std.specs.Str.{bytes_eq}
use Rattle.rv32_asm.specs.LabelMap.{place_in}
use Rattle.rv32_asm.proofs.Noting.{noted, none_from}
use Rattle.rv32_asm.proofs.labels.Labels.note.Goals as goal

pub returns-clause-places : goal.returns-clause-places
returns-clause-places c = λ name.
    let place = place_in c.args.self.now in
    let absent : place c.args.label ≡ None = none_from (place c.args.label) (ap (λ l. is_some (place l)) (sym c.as_slice.ensures) ∙ sym c.contains_key.ensures ∙ c.if-contains_key.false) in
    noted (λ key. key.items) c.into_vec.result.items c.args.self.now.places c.insert.new.self c.args.address c.in_ok-insert.ensures.updates (ap place c.into_vec.ensures ∙ absent) name
    ∙ ap (λ label. option_or (place name) (cond (bytes_eq name label) (Some c.args.address) None)) c.into_vec.ensures
