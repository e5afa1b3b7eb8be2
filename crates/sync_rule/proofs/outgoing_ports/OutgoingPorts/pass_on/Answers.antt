use Rattle.std.proofs.Common.{◌≡◌, ◌<◌, Some, refl, sym, ap, subst, length}
use Rattle.std.specs.Prelude.{slice_get, slice_set}
use Rattle.std.proofs.lemmas.Option.{slice_get_read}
use Rattle.sync_rule.proofs.outgoing_ports.OutgoingPorts.pass_on.Goals as goal

pub returns : goal.returns
returns g c =
    let view = c.self.view_is in
    let at = slice_get_read c.self.inside.items.items _ c.args.port c.index_mut.result.now refl (subst (λ l. c.args.port < length l) (sym view) c.requires.there) c.index_mut.ensures.value in
    record { before = c.index_mut.result.now; after = c.pass_on.new.self; there = subst (λ l. slice_get l c.args.port ≡ Some c.index_mut.result.now) view at; changed = c.pass_on.ensures; others = ap (λ l. slice_set l c.args.port c.pass_on.new.self) view }
