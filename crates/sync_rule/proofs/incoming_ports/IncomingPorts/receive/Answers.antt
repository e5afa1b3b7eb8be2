use Rattle.std.proofs.Common.{◌≡◌, ◌<◌, Some, refl, sym, ap, subst, length}
use Rattle.std.specs.Prelude.{slice_get, slice_set}
use Rattle.std.proofs.lemmas.Option.{slice_get_read}
use Rattle.sync_rule.proofs.incoming_ports.IncomingPorts.receive.Goals as goal

pub returns : goal.returns
returns g c =
    let view = c.self.view_is in
    let at = slice_get_read c.self.inside.items.items _ c.args.port c.index_mut.result.now refl (subst (λ l. c.args.port < length l) (sym view) c.requires) c.index_mut.ensures.value in
    record { before = c.index_mut.result.now; after = c.receive.new.self; there = subst (λ l. slice_get l c.args.port ≡ Some c.index_mut.result.now) view at; changed = c.receive.ensures; others = ap (λ l. slice_set l c.args.port c.receive.new.self) view }
