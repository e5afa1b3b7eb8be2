use Rattle.std.proofs.Common.{◌≡◌, Some, Err, ap, sym, ◌∙◌}
use Rattle.std.proofs.lemmas.Option.{none-some}
use Rattle.device_set.specs.Starts.{too_long}
use Rattle.load_run.proofs.run.started.Goals as goal

pub unreachable-requires : goal.unreachable-requires
unreachable-requires c =
    let e = c.in-Err-ImageTooLong in
    let is : too_long c.args.topology.now c.args.images.items ≡ Some e.field-0-0 = (c.start.ensures.refused e.field-0-0).0 (e.is ∙ ap Err e.field-0-is) in
    none-some e.field-0-0 (sym c.requires ∙ is)
